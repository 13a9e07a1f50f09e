use Rattle.std.proofs.Common.{[], ◌∷◌, length, take, sym, ap, ◌∙◌, subst}
use Rattle.std.proofs.lemmas.List.{with_items_is}
use Rattle.dl_pool.specs.Pages.{WritesPages}
use Rattle.dl_pool.proofs.PageLemmas.{page_written}
use Rattle.dl_pool.proofs.pages.write_page.Goals as goal

pub returns-clause-writes : goal.returns-clause-writes
returns-clause-writes c =
    let old = c.args.memory.now.items in
    let size = c.overwrite_page.auto.memory in
    subst (λ w. WritesPages old w (c.args.page ∷ [])) (sym (with_items_is c.reach.new.memory c.overwrite_page.new.memory (size ∙ c.deref_mut.ensures.len)))
    (page_written old c.deref_mut.result.now c.overwrite_page.new.memory c.args.page
    (ap (take (length old)) c.deref_mut.ensures.value ∙ c.reach.ensures.kept) size c.overwrite_page.ensures.others)

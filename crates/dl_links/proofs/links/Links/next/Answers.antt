use Rattle.std.proofs.Common.{◌≡◌, Bool, List, ap, sym, ◌∙◌, subst}
use Rattle.dl_links.specs.Sent.{next_from}
use Rattle.dl_links.specs.Tables.{first_in, Passes}
use Rattle.dl_links.proofs.KeptLemmas.{kept_passes}
use Rattle.dl_links.proofs.NextLemmas.{first_is}
use Rattle.dl_links.proofs.links.Links.next.Goals as goal
use Rattle.dl_links.proofs.links.Links.next.Goals.{in-Some, in-None}

pub invariant_of-self : goal.invariant_of-self
invariant_of-self c =
    kept_passes c.self.inside.letters.items c.self.inside.delivered.items c.self.inside.files c.first_in.new.self c.self.invariant
    (subst (λ (d : List Bool). Passes d c.self.inside.files c.first_in.new.self) c.as_slice.ensures.value c.first_in.ensures.passes)

pub returns-clause-first : goal.returns-clause-first
returns-clause-first c =
    let found : c.first_in.result ≡ next_from c.args.files.now 0 c.args.self.now.letters c.args.self.now.delivered =
    c.first_in.ensures.first
    ∙ ap (λ (d : List Bool). first_in d c.self.inside.files c.args.files.now) c.as_slice.ensures.value
    ∙ first_is c.self.inside.delivered.items c.self.inside.files c.self.inside.letters.items c.args.files.now c.self.invariant.places
    ∙ (λ i. next_from c.args.files.now 0 (c.self.view_is i).letters (c.self.view_is i).delivered) in
    elim c.match-first_in.branch [
      | in-Some w ↦ w.result-is ∙ sym w.in-Some.is ∙ found
      | in-None w ↦ w.result-is ∙ sym w.in-None.is ∙ found
    ]

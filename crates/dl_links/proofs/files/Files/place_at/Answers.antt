use Rattle.std.proofs.Common.{Some, ◌∙◌, sym, ap, slice_get}
use Rattle.dl_links.specs.Tables.{places_of}
use Rattle.dl_links.proofs.TableLemmas.{found}
use Rattle.dl_links.proofs.files.Files.place_at.Goals as goal

pub returns-in-Some : goal.returns-in-Some
returns-in-Some c =
    c.place_at.ensures
    ∙ sym (ap (λ o. slice_get (places_of o) c.args.before)
    (found c.self.inside.map.entries c.args.self.now c.args.file (Some c.in-Some.filed.now) c.self.view_is c.in-Some.ensures.value))

use Rattle.std.proofs.Common.{◌≡◌, ap, sym, ◌∙◌, subst, length, ◌<◌}
use Rattle.dl_writer.specs.Facts.{DraftFacts}
use Rattle.dl_writer.specs.Drafts.{fits_parts}
use Rattle.dl_writer.specs.contracts.draft.Draft.{the_view}
use Rattle.dl_writer.proofs.DraftLemmas.{fits_is, stuck_some}
use Rattle.dl_writer.proofs.draft.Draft.fits.Goals as goal

pub returns-clause-value : goal.returns-clause-value
returns-clause-value c =
    fits_is c.self.inside.builder c.args.size c.fits.result c.fits.ensures
    ∙ ap (λ (d : DraftFacts). fits_parts d.parts c.args.size) c.self.view_is

pub returns-clause-some : goal.returns-clause-some
returns-clause-some c = λ short stuck.
    subst (λ (d : DraftFacts). 0 < length d.pending) c.self.view_is
    (stuck_some (the_view c.self.inside) c.args.size c.self.invariant short
    (sym (fits_is c.self.inside.builder c.args.size c.fits.result c.fits.ensures) ∙ stuck))

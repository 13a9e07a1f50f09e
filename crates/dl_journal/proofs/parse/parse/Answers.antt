use Rattle.std.proofs.Common.{◌∙◌, subst}
use Rattle.dl_journal.specs.Parsed.{Parses}
use Rattle.dl_journal.proofs.parse.parse.Goals as goal

pub returns : goal.returns
returns c = subst (λ l. Parses l c.contents_of.result) (c.as_slice.ensures ∙ c.in_ok-shared.ensures.ok) c.contents_of.ensures

use Rattle.std.proofs.Common.{sym, ap, ◌∙◌}
use Rattle.dl_schedule.specs.EarlyLines.{opening_text}
use Rattle.dl_schedule.proofs.Openings.{setup_line, join_line, create_line, open_line}
use Rattle.dl_schedule.proofs.opening.OpeningWord.text.Goals as goal

pub returns-in-Setup : goal.returns-in-Setup
returns-in-Setup c = setup_line ∙ ap opening_text (sym c.in-Setup.is)

pub returns-in-Join : goal.returns-in-Join
returns-in-Join c = join_line ∙ ap opening_text (sym c.in-Join.is)

pub returns-in-Create : goal.returns-in-Create
returns-in-Create c = create_line ∙ ap opening_text (sym c.in-Create.is)

pub returns-in-Open : goal.returns-in-Open
returns-in-Open c = open_line ∙ ap opening_text (sym c.in-Open.is)

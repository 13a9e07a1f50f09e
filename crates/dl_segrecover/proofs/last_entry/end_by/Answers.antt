use Rattle.std.proofs.Common.{◌∙◌}
use Rattle.dl_segrecover.proofs.LastEntry.{end_of_last}
use Rattle.dl_segrecover.proofs.last_entry.end_by.Goals as goal

pub returns-in-Some : goal.returns-in-Some
returns-in-Some c = c.end_at.ensures ∙ end_of_last c.args.records.now c.in-Some.last.now c.in-Some.ensures.value

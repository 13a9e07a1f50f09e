use Rattle.std.proofs.Common.{◌∙◌}
use Rattle.dl_segrecover.proofs.LastEntry.{end_read}
use Rattle.dl_segrecover.proofs.last_entry.end_in.Goals as goal

pub returns-in-Ok : goal.returns-in-Ok
returns-in-Ok c = c.end_by.ensures ∙ end_read c.args.bytes.now c.in-Ok.records c.as_slice.result.now
    c.in-Ok.ensures.found.0 c.in-Ok.ensures.found.1 c.as_slice.ensures

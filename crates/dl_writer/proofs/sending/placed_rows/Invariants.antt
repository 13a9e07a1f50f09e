use Rattle.std.proofs.Common.{◌≡◌, take}
use Rattle.dl_rules_stream.specs.LogWriters.{rows_at}
use Rattle.dl_writer.proofs.sending.placed_rows.Given as goal

abbrev pub invariant-loop-i : goal.invariant-loop-i
invariant-loop-i l = l.rows.items ≡ rows_at l.segment l.entry 0 (take l.i l.taken)

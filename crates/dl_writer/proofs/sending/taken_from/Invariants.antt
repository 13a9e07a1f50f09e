use Rattle.std.proofs.Common.{◌≡◌, take}
use Rattle.dl_rules_stream.specs.LogWriters.{pending_from}
use Rattle.dl_writer.proofs.sending.taken_from.Given as goal

abbrev pub invariant-loop-i : goal.invariant-loop-i
invariant-loop-i l = l.rows.items ≡ pending_from l.origin l.txid (take l.i l.payloads)

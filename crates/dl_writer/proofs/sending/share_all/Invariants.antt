use Rattle.std.proofs.Common.{◌≡◌, take}
use Rattle.dl_writer.proofs.sending.share_all.Given as goal

abbrev pub invariant-loop-payload : goal.invariant-loop-payload
invariant-loop-payload l = l.shared.items ≡ take l.payload-index l.payloads

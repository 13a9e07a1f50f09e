use Rattle.std.proofs.Common.{◌≡◌, ◌+◌, length, take}
use Rattle.std.specs.List.{sum_by}
use Rattle.dl_writer.proofs.writer.set_length.Given as goal

abbrev pub invariant-loop-payload : goal.invariant-loop-payload
invariant-loop-payload l = l.size ≡ 4 + sum_by (λ payload. 4 + length payload) (take l.payload-index l.payloads)

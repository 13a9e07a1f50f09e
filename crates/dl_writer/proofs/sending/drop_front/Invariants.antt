use Rattle.std.proofs.Common.{◌≡◌, drop}
use Rattle.dl_writer.proofs.sending.drop_front.Given as goal

abbrev pub invariant-loop-left : goal.invariant-loop-left
invariant-loop-left l = drop l.left l.waiting.items ≡ drop l.count l.fn.waiting.items

abbrev pub decreases-loop-left : goal.decreases-loop-left
decreases-loop-left l = l.left

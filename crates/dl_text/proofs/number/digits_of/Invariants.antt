use Rattle.std.proofs.Common.{◌≡◌, length}
use Rattle.dl_text.specs.Numbers.{digits_at}
use Rattle.dl_text.proofs.number.digits_of.Given as goal

abbrev pub invariant-loop-rest : goal.invariant-loop-rest
invariant-loop-rest l = digits_at l.high l.end l.value l.rest ≡ digits_at l.high l.end l.first l.bytes

abbrev pub decreases-loop-rest : goal.decreases-loop-rest
decreases-loop-rest l = length l.rest

use Rattle.dl_events.proofs.PathExactness.{GoesOn}
use Rattle.dl_events.proofs.path.parts_of.Given as goal

abbrev pub invariant-loop-i : goal.invariant-loop-i
invariant-loop-i l = GoesOn l.end l.i l.part l.bytes

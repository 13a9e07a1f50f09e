use Rattle.dl_text.proofs.NameLemmas.{GoesOn}
use Rattle.dl_text.proofs.name.name_bytes_of.Given as goal

abbrev pub invariant-loop-i : goal.invariant-loop-i
invariant-loop-i l = GoesOn l.end l.i l.bytes

use Rattle.std.proofs.Common.{◌≡◌, ◌*◌, ◌++◌, take, drop}
use Rattle.dl_text.specs.Hex.{pairs}
use Rattle.dl_text.proofs.hex.write_pairs.Given as goal

abbrev pub invariant-loop-i : goal.invariant-loop-i
invariant-loop-i l = take (2 * l.i) l.out ++ pairs (drop l.i l.bytes) ≡ pairs l.bytes

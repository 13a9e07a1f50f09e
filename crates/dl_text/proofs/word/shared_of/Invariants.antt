use Rattle.std.proofs.Common.{◌≡◌, ◌+◌, length}
use Rattle.dl_text.specs.Readers.{shared_length}
use Rattle.dl_text.proofs.word.shared_of.Given as goal

abbrev pub invariant-loop-one : goal.invariant-loop-one
invariant-loop-one l = record { same : l.count + shared_length l.one l.other ≡ shared_length l.left l.right; fits : l.count + length l.one ≡ length l.left }

abbrev pub decreases-loop-one : goal.decreases-loop-one
decreases-loop-one l = length l.one

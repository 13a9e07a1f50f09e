use Rattle.std.proofs.Common.{◌≡◌, ℕ, ◌+◌, ◌<◌, ◌≤◌, true, length, drop, get_or}
use Rattle.dl_quorum.specs.Sizes.{sizes_of}
use Rattle.dl_quorum.specs.WriteSets.{confirms}
use Rattle.dl_quorum.specs.Places.{holds}
use Rattle.dl_lwrite.proofs.acknowledge.advance.Given as goal

abbrev pub invariant-loop-answers : goal.invariant-loop-answers
invariant-loop-answers l = record {
  rest : l.window.items ≡ drop l.passed l.fn.window.items;
  within : l.passed ≤ length l.fn.window.items;
  below : (i : ℕ) → i < l.passed → confirms (sizes_of l.q) (l.first + i) (holds (get_or l.fn.window.items i 0)) ≡ true;
}

abbrev pub decreases-loop-answers : goal.decreases-loop-answers
decreases-loop-answers l = length l.window.items

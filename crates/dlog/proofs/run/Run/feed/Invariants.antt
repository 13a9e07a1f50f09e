use Rattle.std.proofs.Common.{◌≡◌, ◌+◌, ◌++◌, List, ℕ, length}
use Rattle.dlog.specs.RunStates.{IsReady, ends_as, size_of}
use Rattle.dlog.proofs.run.Run.feed.Given as goal

abbrev pub invariant-loop-line : goal.invariant-loop-line
invariant-loop-line l = record {
  same : (more : List ℕ) → ends_as l.fn.self (l.fn.piece ++ more) ≡ ends_as l.self (l.rest ++ more);
  size : size_of l.self + length l.rest ≡ size_of l.fn.self + length l.fn.piece;
  ready : IsReady l.self;
}

abbrev pub decreases-loop-line : goal.decreases-loop-line
decreases-loop-line l = length l.rest

use Rattle.std.proofs.Common.{◌+◌, ◌-◌, ◌<◌, ◌≤◌, length}
use Rattle.dlog.specs.RunStates.{IsReady, size_of}
use Rattle.dlog.specs.Answers.{ReadsOn}
use Rattle.dlog.specs.Run.{schedule_limit}
use Rattle.dlog.proofs.replay.read_pieces.Given as goal

abbrev pub invariant-loop-count : goal.invariant-loop-count
invariant-loop-count g l =
    let S = g.S.Source in
    record {
      reads : ReadsOn (S.view l.fn.source) (S.view l.source) l.fn.run l.run;
      ready : IsReady l.run;
      later : (S.view l.fn.source).faults ≤ (S.view l.source).faults;
      room : 0 < length l.piece;
    }

abbrev pub decreases-loop-count : goal.decreases-loop-count
decreases-loop-count g l = schedule_limit + 1 - size_of l.run

use Rattle.std.proofs.Common.{◌≤◌, length}
use Rattle.dl_io.specs.Sinks.{KeepsAmount}
use Rattle.dl_io.proofs.Pieces.{GivenBefore}
use Rattle.dl_io.proofs.whole.write_all.Given as goal

abbrev pub invariant-loop-rest : goal.invariant-loop-rest
invariant-loop-rest g l =
    let K = g.K.Sink in
    record {
      given : GivenBefore (K.view l.fn.sink) (K.view l.sink) l.text l.rest;
      kept : KeepsAmount (K.view l.fn.sink).finished (K.view l.sink).finished;
      later : (K.view l.fn.sink).faults ≤ (K.view l.sink).faults;
    }

abbrev pub decreases-loop-rest : goal.decreases-loop-rest
decreases-loop-rest g l = length l.rest

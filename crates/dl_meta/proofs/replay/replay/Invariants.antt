use Rattle.dl_meta.specs.Loading.{bodies_in, meta_with}
use Rattle.dl_meta.proofs.Replays.{Reached}
use Rattle.dl_meta.proofs.replay.replay.Given as goal

abbrev pub invariant-loop-i : goal.invariant-loop-i
invariant-loop-i l = Reached (bodies_in l.batches) l.i l.end (meta_with l.tree l.sessions)

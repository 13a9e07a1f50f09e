use Rattle.std.proofs.Common.{ap₂, refl, ◌+◌, length}
use Rattle.std.proofs.lemmas.Result.{err_from_is_err_and}
use Rattle.dl_meta.specs.Loading.{bodies_in, meta_with}
use Rattle.dl_meta.proofs.Replays.{begins, done}
use Rattle.dl_meta.proofs.ReplaySteps.{goes_on_to, ends_by, within_bodies, body_at, none_left}
use Rattle.dl_meta.proofs.replay.replay.Goals as goal

pub loop-i-init : goal.loop-i-init
loop-i-init c =
    begins (bodies_in c.args.batches.now) (meta_with c.in_ok-tree.tree c.in_ok-sessions.sessions) (ap₂ meta_with c.in_ok-tree.ensures c.in_ok-sessions.ensures)

pub loop-i-preserved : goal.loop-i-preserved
loop-i-preserved c =
    goes_on_to (bodies_in c.args.batches.now) c.loop-i.i c.loop-i.end (c.loop-i.end + (13 + length c.as_slice-body.result.now))
    (meta_with c.loop-i.tree c.loop-i.sessions) (meta_with c.replay_body.new.tree c.replay_body.new.sessions) c.as_slice-body.result.now c.loop-i.invariant
    (within_bodies c.loop-i.i c.args.batches.now c.loop-i-test.true)
    (body_at c.loop-i.i c.args.batches.now c.index-batches-i.result c.as_slice-body.result.now c.loop-i-test.true c.index-batches-i.is c.as_slice-body.ensures)
    refl c.in_ok-replay_body.ensures

pub returns-in_err-replay_body : goal.returns-in_err-replay_body
returns-in_err-replay_body c =
    let p = err_from_is_err_and c.from_residual-in_err-replay_body.result c.from_residual-in_err-replay_body.ensures.1 in
    rw (p.1, p.2) (ends_by (bodies_in c.args.batches.now) c.loop-i.i c.loop-i.end (c.loop-i.end + (13 + length c.as_slice-body.result.now))
    (meta_with c.loop-i.tree c.loop-i.sessions) (meta_with c.replay_body.new.tree c.replay_body.new.sessions) c.as_slice-body.result.now
    c.in_err-replay_body.field-0.0
    c.loop-i.invariant (within_bodies c.loop-i.i c.args.batches.now c.loop-i-test.true)
    (body_at c.loop-i.i c.args.batches.now c.index-batches-i.result c.as_slice-body.result.now c.loop-i-test.true c.index-batches-i.is c.as_slice-body.ensures)
    refl c.in_err-replay_body.ensures)

pub returns : goal.returns
returns c =
    done (bodies_in c.args.batches.now) c.loop-i.i c.loop-i.end (meta_with c.loop-i.tree c.loop-i.sessions) c.loop-i.invariant
    (none_left c.loop-i.i c.args.batches.now c.loop-i-test.false)

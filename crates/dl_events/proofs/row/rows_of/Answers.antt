use Rattle.std.proofs.Common.{refl}
use Rattle.dl_transcript.specs.Reading.{row_at}
use Rattle.dl_events.proofs.Lists.{more_of, last_of, stop_of}
use Rattle.dl_events.proofs.row.rows_of.Goals as goal

pub returns-in_err-item : goal.returns-in_err-item
returns-in_err-item c = stop_of row_at _ c.loop-left.left c.loop-left.found.items c.loop-left.rest.now _ c.from_residual.result _ c.from_residual.ensures.1
    c.loop-left-test.true c.in_err-item.ensures c.loop-left.invariant

pub returns-then-not-follow : goal.returns-then-not-follow
returns-then-not-follow c =
    last_of row_at c.loop-left.left c.loop-left.found.items _ c.loop-left.rest.now _ c.in_ok-item.item.row _ c.in_ok-item.item.follow _
    c.loop-left-test.true c.in_ok-item.ensures c.if-not-follow.true refl c.in_ok-push.ensures.items c.loop-left.invariant

pub loop-left-preserved : goal.loop-left-preserved
loop-left-preserved c =
    more_of row_at c.loop-left.left c.loop-left.found.items _ c.loop-left.rest.now _ c.in_ok-item.item.row _ c.in_ok-item.item.follow _
    c.loop-left-test.true c.in_ok-item.ensures c.if-not-follow.false refl c.in_ok-push.ensures.items c.loop-left.invariant

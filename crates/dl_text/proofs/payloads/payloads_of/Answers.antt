use Rattle.dl_text.proofs.ListLemmas.{more_of, last_of, stop_of}
use Rattle.dl_text.proofs.payloads.payloads_of.Goals as goal

pub returns-in_err-item : goal.returns-in_err-item
returns-in_err-item c = stop_of _ c.loop-left.left c.loop-left.found.items c.loop-left.rest.now _ c.from_residual.result _ c.from_residual.ensures.1
    c.loop-left-test.true c.in_err-item.ensures c.loop-left.invariant

pub returns-then-not-follow : goal.returns-then-not-follow
returns-then-not-follow c =
    last_of c.loop-left.left c.loop-left.found.items _ c.loop-left.rest.now _ c.in_ok-item.item.bytes.items _ c.in_ok-item.item.follow _
    c.loop-left-test.true c.in_ok-item.ensures c.if-not-follow.true c.in_ok-payload.ensures c.in_ok-push.ensures.items c.loop-left.invariant

pub loop-left-preserved : goal.loop-left-preserved
loop-left-preserved c =
    more_of c.loop-left.left c.loop-left.found.items _ c.loop-left.rest.now _ c.in_ok-item.item.bytes.items _ c.in_ok-item.item.follow _
    c.loop-left-test.true c.in_ok-item.ensures c.if-not-follow.false c.in_ok-payload.ensures c.in_ok-push.ensures.items c.loop-left.invariant

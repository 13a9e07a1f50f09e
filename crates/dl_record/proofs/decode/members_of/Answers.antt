use Rattle.std.proofs.lemmas.Result.{err_from_is_err_and}
use Rattle.dl_record.specs.Reading.{members_at}
use Rattle.dl_record.proofs.Loop.{members_go_on, members_end, members_done, members_too_long}
use Rattle.dl_record.proofs.decode.members_of.Goals as goal

pub returns-in_err-end : goal.returns-in_err-end
returns-in_err-end c =
    let p = err_from_is_err_and c.from_residual-in_err-end.result c.from_residual-in_err-end.ensures.1 in
    rw p.1 (members_end p.0 c.in_err-end.field-0.0 c.loop.payloads.items c.args.count c.loop.counter c.args.bytes.now c.loop.at
    (members_at c.args.count c.args.bytes.now c.args.start) p.2 c.loop-test.true c.in_err-end.ensures.exact c.loop.invariant)

pub loop-preserved : goal.loop-preserved
loop-preserved c =
    rw (c.in_ok-push.ensures.items, c.in_ok-payload.ensures)
    (members_go_on c.loop.payloads.items c.args.count c.loop.counter c.args.bytes.now c.loop.at c.in_ok-end.end
    (members_at c.args.count c.args.bytes.now c.args.start) c.loop-test.true c.in_ok-end.ensures.exact c.loop.invariant)

pub returns-then-at-bytes : goal.returns-then-at-bytes
returns-then-at-bytes c =
    members_done c.loop.payloads.items c.args.count c.loop.counter c.args.bytes.now c.loop.at
    (members_at c.args.count c.args.bytes.now c.args.start) c.loop-test.false c.if-at-bytes.true c.loop.invariant

pub returns-else-at-bytes : goal.returns-else-at-bytes
returns-else-at-bytes c =
    members_too_long c.loop.payloads.items c.args.count c.loop.counter c.args.bytes.now c.loop.at
    (members_at c.args.count c.args.bytes.now c.args.start) c.loop-test.false c.if-at-bytes.false c.loop.invariant

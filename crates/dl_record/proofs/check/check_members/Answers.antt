use Rattle.std.proofs.lemmas.Result.{err_from_is_err_and}
use Rattle.dl_record.proofs.CheckLaws.{members_checked_on, members_checked_stop, members_checked_all, members_checked_long}
use Rattle.dl_record.proofs.check.check_members.Goals as goal

pub returns-in_err-end : goal.returns-in_err-end
returns-in_err-end c =
    let p = err_from_is_err_and c.from_residual.result c.from_residual.ensures.1 in
    rw (p.1, p.2) (members_checked_stop c.args.count c.loop.counter c.args.bytes.now c.loop.at c.in_err-end.field-0.0 _ c.loop-test.true
    c.in_err-end.ensures.exact c.loop.invariant)

pub loop-preserved : goal.loop-preserved
loop-preserved c = members_checked_on c.args.count c.loop.counter c.args.bytes.now c.loop.at c.in_ok-end.end _ c.loop-test.true
    c.in_ok-end.ensures.exact c.loop.invariant

pub returns-then-at-bytes : goal.returns-then-at-bytes
returns-then-at-bytes c = members_checked_all c.args.count c.loop.counter c.args.bytes.now c.loop.at _ c.loop-test.false c.if-at-bytes.true c.loop.invariant

pub returns-else-at-bytes : goal.returns-else-at-bytes
returns-else-at-bytes c = members_checked_long c.args.count c.loop.counter c.args.bytes.now c.loop.at _ c.loop-test.false c.if-at-bytes.false c.loop.invariant

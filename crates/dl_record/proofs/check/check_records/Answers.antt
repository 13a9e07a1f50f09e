use Rattle.std.proofs.Common.{eqb}
use Rattle.std.proofs.lemmas.Result.{err_from_is_err_and}
use Rattle.dl_record.proofs.CheckLaws.{records_checked_on, records_checked_stop, records_checked_all, records_checked_long}
use Rattle.dl_record.proofs.check.check_records.Goals as goal

pub returns-in_err-last : goal.returns-in_err-last
returns-in_err-last c =
    let p = err_from_is_err_and c.from_residual.result c.from_residual.ensures.1 in
    rw (p.1, p.2) (records_checked_stop c.args.count c.loop.counter
    (eqb c.args.count 1) c.loop.before c.args.bytes.now c.loop.at c.in_err-last.field-0.0 _ c.loop-test.true
    c.in_err-last.ensures.exact c.loop.invariant.same)

pub loop-preserved : goal.loop-preserved
loop-preserved c = record {
  same = records_checked_on c.args.count c.loop.counter (eqb c.args.count 1) c.loop.before c.args.bytes.now c.loop.at
      (c.in_ok-last.last, c.in_ok-last.end) _ c.loop-test.true c.in_ok-last.ensures.exact c.loop.invariant.same;
  within = c.in_ok-last.ensures.room;
}

pub returns-then-at-bytes : goal.returns-then-at-bytes
returns-then-at-bytes c =
    records_checked_all c.args.count c.loop.counter
    (eqb c.args.count 1) c.loop.before c.args.bytes.now c.loop.at _ c.loop-test.false c.if-at-bytes.true c.loop.invariant.same

pub returns-else-at-bytes : goal.returns-else-at-bytes
returns-else-at-bytes c =
    records_checked_long c.args.count c.loop.counter
    (eqb c.args.count 1) c.loop.before c.args.bytes.now c.loop.at _ c.loop-test.false c.if-at-bytes.false c.loop.invariant.same

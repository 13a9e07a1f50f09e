use Rattle.std.proofs.Common.{eqb, None}
use Rattle.std.proofs.lemmas.Result.{err_from_is_err_and}
use Rattle.dl_record.specs.Reading.{records_at}
use Rattle.dl_record.proofs.Loop.{records_go_on, records_end, records_done, records_too_long}
use Rattle.dl_record.proofs.decode.records_of.Goals as goal

pub returns-in_err-stored : goal.returns-in_err-stored
returns-in_err-stored c =
    let p = err_from_is_err_and c.from_residual.result c.from_residual.ensures.1 in
    rw (p.1, p.2) (records_end c.in_err-stored.field-0.0 c.loop.records.items c.args.count c.loop.counter
    (eqb c.args.count 1) c.loop.before c.args.bytes.now c.loop.at
    (records_at c.args.count (eqb c.args.count 1) None c.args.bytes.now 8) c.loop-test.true c.in_err-stored.ensures.exact c.loop.invariant.same)

pub loop-preserved : goal.loop-preserved
loop-preserved c = record {
  same = rw (c.in_ok-push.ensures.items, c.behind_of.ensures)
      (records_go_on c.loop.records.items c.args.count c.loop.counter
      (eqb c.args.count 1) c.loop.before c.args.bytes.now c.loop.at c.in_ok-stored.end c.in_ok-stored.stored
      (records_at c.args.count (eqb c.args.count 1) None c.args.bytes.now 8) c.loop-test.true c.in_ok-stored.ensures.exact c.loop.invariant.same);
  within = c.in_ok-stored.ensures.room;
}

pub returns-then-at-bytes : goal.returns-then-at-bytes
returns-then-at-bytes c =
    records_done c.loop.records.items c.args.count c.loop.counter (eqb c.args.count 1) c.loop.before c.args.bytes.now c.loop.at
    (records_at c.args.count (eqb c.args.count 1) None c.args.bytes.now 8) c.loop-test.false c.if-at-bytes.true c.loop.invariant.same

pub returns-else-at-bytes : goal.returns-else-at-bytes
returns-else-at-bytes c =
    records_too_long c.loop.records.items c.args.count c.loop.counter (eqb c.args.count 1) c.loop.before c.args.bytes.now c.loop.at
    (records_at c.args.count (eqb c.args.count 1) None c.args.bytes.now 8) c.loop-test.false c.if-at-bytes.false c.loop.invariant.same

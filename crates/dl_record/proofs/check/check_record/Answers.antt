use Rattle.std.proofs.Common.{arith}
use Rattle.std.proofs.lemmas.Result.{err_from_is_err_and}
use Rattle.dl_record.proofs.CheckLaws.{record_has_no_head, record_stops, record_checked}
use Rattle.dl_record.proofs.check.check_record.Goals as goal

pub returns-in_err-head-clause-exact : goal.returns-in_err-head-clause-exact
returns-in_err-head-clause-exact c =
    let p = err_from_is_err_and c.from_residual.result c.from_residual.ensures.1 in
    rw (p.1, p.2) (record_has_no_head c.args.alone c.args.before c.args.bytes.now c.args.at c.in_err-head.field-0.0 c.in_err-head.ensures.exact)

pub returns-in_err-rows-clause-exact : goal.returns-in_err-rows-clause-exact
returns-in_err-rows-clause-exact c =
    let p = err_from_is_err_and c.from_residual-in_err-rows.result c.from_residual-in_err-rows.ensures.1 in
    rw (p.1, p.2) (record_stops c.args.alone c.args.before c.args.bytes.now c.args.at c.in_ok-head.head c.in_err-rows.field-0.0
    c.in_ok-head.ensures.exact c.in_err-rows.ensures)

pub returns-clause-exact : goal.returns-clause-exact
returns-clause-exact c =
    record_checked c.args.alone c.args.before c.args.bytes.now c.args.at c.in_ok-rows.rows _ c.number-txid.result c.in_ok-head.head
    c.in_ok-head.ensures.exact c.in_ok-rows.ensures
    (omega arith) c.number-txid.ensures.value

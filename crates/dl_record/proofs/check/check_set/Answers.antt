use Rattle.std.proofs.Common.{Ok, Err}
use Rattle.std.proofs.lemmas.Result.{err_from_is_err_and}
use Rattle.dl_record.proofs.CheckLaws.{set_has_no_count, set_members}
use Rattle.dl_record.proofs.check.check_set.Goals as goal

pub returns-in_err-count : goal.returns-in_err-count
returns-in_err-count c =
    let p = err_from_is_err_and c.from_residual.result c.from_residual.ensures.1 in
    rw (p.1, p.2) (set_has_no_count c.args.bytes.now c.args.at c.in_err-count.field-0.0 c.in_err-count.ensures.exact)

pub returns-in_err-check_members : goal.returns-in_err-check_members
returns-in_err-check_members c =
    let p = err_from_is_err_and c.from_residual-in_err-check_members.result c.from_residual-in_err-check_members.ensures.1 in
    rw (p.1, p.2) (set_members c.args.bytes.now c.args.at c.in_ok-count.count
    (Err c.in_err-check_members.field-0.0) c.in_ok-count.ensures.exact c.in_err-check_members.ensures)

pub returns : goal.returns
returns c = set_members c.args.bytes.now c.args.at c.in_ok-count.count (Ok tt) c.in_ok-count.ensures.exact c.in_ok-check_members.ensures

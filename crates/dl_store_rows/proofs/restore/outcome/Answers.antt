use Rattle.std.proofs.Common.{length, ap, arith}
use Rattle.dl_restore.proofs.CheckLemmas.{two_fit}
use Rattle.dl_store_rows.proofs.restore.outcome.Goals as goal

pub restore-requires-clause-file : goal.restore-requires-clause-file
restore-requires-clause-file c =
    two_fit (record { number = 3; body = c.in_ok-new.field-0 }) (record { number = 4; body = c.in_ok-new-2.field-0 })
    (omega (arith, ap length c.in_ok-new.ensures, c.if-first-gt1000.false))
    (omega (arith, ap length c.in_ok-new-2.ensures, c.if-second-gt1000.false))

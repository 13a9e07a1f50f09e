use Rattle.std.proofs.Common.{refl}
use Rattle.dl_rules_stream.specs.LedgerRecoveries.{recovery_first}
use Rattle.dl_rules_stream.specs.SegmentRecoveries.{ledger_args}
use Rattle.dl_segrecover.proofs.answers.begins.Goals as goal

pub returns : goal.returns
returns c from =
    let first = recovery_first (ledger_args c.args.given.now c.args.ledger) in
    c.after_ledger.ensures from first.0 first.1 (record { ledger_is = refl; stands = c.in_ok-recovery.ensures.stands }) c.in_ok-recovery.ensures.turn

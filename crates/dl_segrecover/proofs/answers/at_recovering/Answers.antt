use Rattle.std.proofs.Common.{IfOk, sym, subst}
use Rattle.dl_rules_stream.specs.Orders.{Next}
use Rattle.dl_rules_stream.specs.LedgerRecoveries.{recovery_hears}
use Rattle.dl_rules_stream.specs.SegmentRecoveries as rule
use Rattle.dl_lrecover.specs.Views.{StandsAt}
use Rattle.dl_segrecover.specs.Standing.{IsMove}
use Rattle.dl_segrecover.proofs.Moves.{hears_recovering}
use Rattle.dl_segrecover.proofs.answers.at_recovering.Goals as goal

pub returns : goal.returns
returns c from s rec =
    let x = c.args.given.now in
    let y = rule.ledger_args x c.args.ledger in
    let to = recovery_hears y s c.args.heard.now in
    let goes = c.in_ok-turn.ensures.goes y s (subst (StandsAt y s) (sym c.in_ok-recovery.ensures.cases) rec.stands) in
    subst (λ (t : rule.SegmentStage × Next rule.Recovered). IfOk c.after_ledger.result (IsMove x from t))
    (hears_recovering x c.args.ledger s c.args.heard.now)
    (c.after_ledger.ensures from to.0 to.1 (record { ledger_is = rec.ledger_is; stands = goes.stands }) goes.turn)

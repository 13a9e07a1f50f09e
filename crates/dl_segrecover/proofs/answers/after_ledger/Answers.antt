use Rattle.std.proofs.Common.{◌≡◌, IfOk, sym, ap, subst}
use Rattle.dl_rules_stream.specs.Orders.{Next}
use Rattle.dl_rules_stream.specs.LedgerRecoveries.{RecoveryStage}
use Rattle.dl_rules_stream.specs.SegmentRecoveries as rule
use Rattle.dl_segrecover.specs.Standing.{IsMove}
use Rattle.dl_segrecover.proofs.Moves.{open_goes_on, closed_at, gone_checks}
use Rattle.dl_segrecover.proofs.answers.after_ledger.Goals as goal

pub returns-in-Open : goal.returns-in-Open
returns-in-Open c from s next rec turn_is =
    let x = c.args.given.now in
    let y = rule.ledger_args x c.args.ledger in
    subst (λ (to : rule.SegmentStage × Next rule.Recovered). IsMove x from to c.goes_on.result)
    (open_goes_on x c.args.ledger y s next _ c.in-Open.is (c.ending.ensures y s rec.stands))
    (c.goes_on.ensures x from s next rec turn_is)

pub returns-in-Closed : goal.returns-in-Closed
returns-in-Closed c from s next rec turn_is =
    let x = c.args.given.now in
    let y = rule.ledger_args x c.args.ledger in
    let at = closed_at y s _ c.in-Closed.node c.in-Closed.is (c.ending.ensures y s rec.stands) in
    subst (λ (t : RecoveryStage). IfOk c.after_closed.result (IsMove x from (rule.after_ledger x c.args.ledger (t, next)))) (sym at.stage)
    (c.after_closed.ensures from at.node at.at_node)

pub returns-in-Gone : goal.returns-in-Gone
returns-in-Gone c from s next rec turn_is =
    let x = c.args.given.now in
    let y = rule.ledger_args x c.args.ledger in
    subst (λ (to : rule.SegmentStage × Next rule.Recovered). IfOk c.checks.result (IsMove x from to))
    (gone_checks x c.args.ledger y s next _ c.in-Gone.is (c.ending.ensures y s rec.stands))
    (c.checks.ensures from)

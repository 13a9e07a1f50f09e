use Rattle.std.proofs.Common.{ℕ, IfOk, subst, sym}
use Rattle.dl_lrecover.specs.Standing.{IsMove, args_of}
use Rattle.dl_rules_stream.specs.Orders.{Next}
use Rattle.dl_rules_stream.specs.LedgerRecoveries as rule
use Rattle.dl_rules_stream.specs.Requests.{GetLedger}
use Rattle.dl_lrecover.proofs.Failures.{failed_getting, gone_getting}
use Rattle.dl_lrecover.proofs.answers.after_failed_getting.Goals as goal

pub returns-in-NoNode : goal.returns-in-NoNode
returns-in-NoNode c old node =
    let x = args_of c.args.target.now in
    subst (λ (move : rule.RecoveryStage × Next ℕ). IfOk c.gives_up.result (IsMove x move)) (gone_getting x old c.args.place c.args.why c.in-NoNode.is)
    (c.gives_up.ensures (rule.IsGone old) node)

pub returns-in_ok-request-in_default : goal.returns-in_ok-request-in_default
returns-in_ok-request-in_default c old node =
    let x = args_of c.args.target.now in
    subst (λ (move : rule.RecoveryStage × Next ℕ). IfOk c.refused.result (IsMove x move))
    (sym (failed_getting x old c.args.place c.args.why c.in_default.not-NoNode))
    (c.refused.ensures x (rule.WasRefused old) (GetLedger x.ledger) node c.in_ok-request-in_default.ensures)

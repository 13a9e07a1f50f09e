use Rattle.std.proofs.Common.{ℕ, IfOk, subst, Some}
use Rattle.dl_lrecover.specs.Standing.{IsMove, args_of}
use Rattle.dl_rules_stream.specs.Orders.{Next}
use Rattle.dl_rules_stream.specs.LedgerRecoveries as rule
use Rattle.dl_lrecover.proofs.Failures.{gone_setting, refused_setting}
use Rattle.dl_lrecover.proofs.answers.after_failed_setting.Goals as goal

pub returns-in-NoNode : goal.returns-in-NoNode
returns-in-NoNode c m set node asked =
    let x = args_of c.args.target.now in
    subst (λ (move : rule.RecoveryStage × Next ℕ). IfOk c.gives_up.result (IsMove x move)) (gone_setting x m set c.args.place c.args.why c.in-NoNode.is)
    (c.gives_up.ensures (rule.IsGone (Some m)) node)

pub returns-in_default : goal.returns-in_default
returns-in_default c m set node asked =
    let x = args_of c.args.target.now in
    subst (λ (move : rule.RecoveryStage × Next ℕ). IfOk c.refused.result (IsMove x move))
    (refused_setting x m set c.args.place c.args.why c.in_default.not-NoNode c.in_default.not-BadVersion)
    (c.refused.ensures x (rule.WasRefused (Some m)) set node asked)

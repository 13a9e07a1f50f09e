use Rattle.std.proofs.Common.{ℕ, IfOk, subst, Some}
use Rattle.dl_lrecover.specs.Standing.{IsMove, args_of}
use Rattle.dl_rules_stream.specs.Orders.{Next}
use Rattle.dl_rules_stream.specs.LedgerRecoveries as rule
use Rattle.dl_lrecover.proofs.Moves.{exhausted}
use Rattle.dl_lrecover.proofs.answers.after_step.Goals as goal

pub returns-in-Exhausted : goal.returns-in-Exhausted
returns-in-Exhausted c m move node steps =
    let x = args_of c.args.target.now in
    subst (λ (to : rule.RecoveryStage × Next ℕ). IfOk c.gives_up.result (IsMove x to))
    (exhausted x m c.args.version (rule.subject_of x m) move c.args.step c.in-Exhausted.is steps)
    (c.gives_up.ensures (rule.WasRefused (Some m)) node)

use Rattle.std.proofs.Common.{ℕ, IfOk, subst}
use Rattle.dl_lrecover.specs.Standing.{IsMove, args_of}
use Rattle.dl_rules_stream.specs.Orders.{Next}
use Rattle.dl_rules_stream.specs.LedgerRecoveries as rule
use Rattle.dl_formats.specs.declared.ledger.LedgerState.TheVariants.{Recovering}
use Rattle.dl_lrecover.proofs.Moves.{marked}
use Rattle.dl_lrecover.proofs.answers.after_marked.Goals as goal

pub returns : goal.returns
returns c m version node =
    let x = args_of c.args.target.now in
    subst (λ (move : rule.RecoveryStage × Next ℕ). IfOk c.after_mark.result (IsMove x move)) (marked x m version c.args.now)
    (c.after_mark.ensures (rule.come_to Recovering 0 m) (c.come_to-node.ensures x m node))

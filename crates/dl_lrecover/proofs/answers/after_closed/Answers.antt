use Rattle.std.proofs.Common.{ℕ, refl, subst}
use Rattle.dl_lrecover.specs.Standing.{IsMove}
use Rattle.dl_rules_stream.specs.Orders.{Next}
use Rattle.dl_rules_stream.specs.LedgerRecoveries as rule
use Rattle.dl_msg.specs.declared.turn.Turn.TheVariants as turn
use Rattle.dl_lrecover.specs.declared.stage.Stage.TheVariants as kept
use Rattle.dl_lrecover.proofs.Moves.{closed}
use Rattle.dl_lrecover.proofs.answers.after_closed.Goals as goal

pub returns : goal.returns
returns c x m version now node =
    subst (λ (move : rule.RecoveryStage × Next ℕ). IsMove x move (kept.IsClosed c.come_to-node.result, turn.Done c.args.count))
    (closed x m version c.args.count now)
    (record { stage = c.come_to-node.ensures x m node; turn = refl })

use Rattle.std.proofs.Common.{IfOk, refl, sym, ◌∙◌, subst}
use Rattle.dl_msg.specs.declared.turn.Turn.TheVariants as turn
use Rattle.dl_rules_stream.specs.Orders.{Next}
use Rattle.dl_rules_stream.specs.Recovers as rule
use Rattle.dl_open.specs.declared.found.Found.TheVariants.{Whole}
use Rattle.dl_open.specs.declared.recover_stage.RecoverStage.TheVariants.{Over}
use Rattle.dl_open.specs.declared.recover_step.RecoverStep.TheVariants.{Goes}
use Rattle.dl_open.specs.Recovering.{args_of, IsStep}
use Rattle.dl_open.proofs.Going.{recover_told, recover_whole}
use Rattle.dl_open.proofs.recover_answers.after_told.Goals as goal

pub returns-in-Some : goal.returns-in-Some
returns-in-Some c from l told =
    subst (λ (to : rule.RecoverStage × Next rule.Found). IfOk c.recovers.result (IsStep from to))
    (recover_told c.args.given.now l c.args.looked.now c.in-Some.segment told (sym c.in_progress.ensures ∙ c.in-Some.is))
    (c.recovers.ensures from)

pub returns-in-None : goal.returns-in-None
returns-in-None c from l told =
    subst (λ (to : rule.RecoverStage × Next rule.Found). IsStep from to (Goes Over (turn.Done Whole)))
    (recover_whole (args_of c.args.given.now) l c.args.looked.now told (sym c.in_progress.ensures ∙ c.in-None.is))
    (record { stage = tt; turn = refl })

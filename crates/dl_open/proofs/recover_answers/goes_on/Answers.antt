use Rattle.std.proofs.Common.{IfOk, refl, sym, ap, ◌∙◌}
use Rattle.dl_msg.specs.declared.turn.Turn.TheVariants as turn
use Rattle.dl_rules_stream.specs.Orders.{Next}
use Rattle.dl_rules_stream.specs.Recovers as rule
use Rattle.dl_segrecover.specs.Standing.{recovered_of}
use Rattle.dl_open.specs.declared.recover_stage.RecoverStage.TheVariants as kept
use Rattle.dl_open.specs.declared.recover_step.RecoverStep.TheVariants as step
use Rattle.dl_open.specs.Recovering.{args_of, IsStep}
use Rattle.dl_open.proofs.Within.{within_wait, within_ask, within_tell, within_done, within_refused}
use Rattle.dl_open.proofs.recover_answers.goes_on.Goals as goal

pub returns-in-Wait : goal.returns-in-Wait
returns-in-Wait c args f s next same at is =
    let x = args_of c.args.given.now in
    within_wait recovered_of (rule.RecoveringSegment args) rule.RecoverDone (rule.after_segment x args)
    (λ (to : rule.RecoverStage × Next rule.Found). IsStep (kept.Recovering c.args.segment f) to (step.Recovers c.args.stage turn.Wait))
    s next (sym c.in-Wait.is ∙ is) (record { stage = record { segment_is = same; stands = at }; turn = refl })

pub returns-in-Ask : goal.returns-in-Ask
returns-in-Ask c args f s next same at is =
    let x = args_of c.args.given.now in
    within_ask recovered_of (rule.RecoveringSegment args) rule.RecoverDone (rule.after_segment x args)
    (λ (to : rule.RecoverStage × Next rule.Found). IsStep (kept.Recovering c.args.segment f) to (step.Recovers c.args.stage (turn.Ask c.in-Ask.request)))
    s next c.in-Ask.request (sym c.in-Ask.is ∙ is) (λ r e. record { stage = record { segment_is = same; stands = at }; turn = ap (λ o. turn.Ask o) e })

pub returns-in-Tell : goal.returns-in-Tell
returns-in-Tell c args f s next same at is =
    let x = args_of c.args.given.now in
    within_tell recovered_of (rule.RecoveringSegment args) rule.RecoverDone (rule.after_segment x args)
    (λ (to : rule.RecoverStage × Next rule.Found). IsStep (kept.Recovering c.args.segment f) to (step.Recovers c.args.stage (turn.Tell c.in-Tell.letters)))
    s next c.in-Tell.letters (sym c.in-Tell.is ∙ is) (record { stage = record { segment_is = same; stands = at }; turn = refl })

pub returns-in-Done : goal.returns-in-Done
returns-in-Done c args f s next same at is =
    let x = args_of c.args.given.now in
    within_done recovered_of (rule.RecoveringSegment args) rule.RecoverDone (rule.after_segment x args)
    (λ (to : rule.RecoverStage × Next rule.Found). IfOk c.after_recovered.result (IsStep (kept.Recovering c.args.segment f) to))
    s next c.in-Done.recovered (sym c.in-Done.is ∙ is)
    (λ a e. c.after_recovered.ensures (kept.Recovering c.args.segment f) args a same e)

pub returns-in-Refused : goal.returns-in-Refused
returns-in-Refused c args f s next same at is =
    let x = args_of c.args.given.now in
    within_refused recovered_of (rule.RecoveringSegment args) rule.RecoverDone (rule.after_segment x args)
    (λ (to : rule.RecoverStage × Next rule.Found). IsStep (kept.Recovering c.args.segment f) to (step.Goes kept.Over (turn.Refused c.in-Refused.refusal)))
    s next c.in-Refused.refusal (sym c.in-Refused.is ∙ is) (record { stage = tt; turn = refl })

use Rattle.std.proofs.Common.{IfOk, refl, sym, ◌∙◌, subst}
use Rattle.dl_msg.specs.declared.turn.Turn.TheVariants as turn
use Rattle.dl_rules_stream.specs.Opens as rule
use Rattle.dl_rules_stream.specs.Orders.{Next, Refused}
use Rattle.dl_segrecover.specs.Standing.{recovered_of}
use Rattle.dl_open.specs.declared.open_stage.OpenStage.TheVariants as kept
use Rattle.dl_open.specs.declared.open_step.OpenStep.{OpenStep}
use Rattle.dl_open.specs.declared.open_step.OpenStep.TheVariants as step
use Rattle.dl_open.specs.Opening.{args_of, IsStep}
use Rattle.dl_open.proofs.Within.{within_wait, within_ask, within_tell, within_done, within_refused}
use Rattle.dl_open.proofs.open_answers.recovery_goes_on.Goals as goal

pub returns-in-Wait : goal.returns-in-Wait
returns-in-Wait c args k recovery s next same at is =
    let x = args_of c.args.given.now in
    within_wait recovered_of (rule.RecoveringSegment c.args.member.now args) rule.OpenDone (λ r. rule.looks x c.args.member.now)
    (λ (to : rule.OpenStage × Next rule.Opened).
    IsStep x (kept.Recovering c.args.member.now k recovery) to (step.Recovers c.args.stage turn.Wait))
    s next (sym c.in-Wait.is ∙ is)
    (record { stage = (record { member_is = refl; segment_is = same; stands = at }); turn = tt })

pub returns-in-Ask : goal.returns-in-Ask
returns-in-Ask c args k recovery s next same at is =
    let x = args_of c.args.given.now in
    within_ask recovered_of (rule.RecoveringSegment c.args.member.now args) rule.OpenDone (λ r. rule.looks x c.args.member.now)
    (λ (to : rule.OpenStage × Next rule.Opened).
    IsStep x (kept.Recovering c.args.member.now k recovery) to (step.Recovers c.args.stage (turn.Ask c.in-Ask.request)))
    s next c.in-Ask.request (sym c.in-Ask.is ∙ is)
    (λ r e. record { stage = (record { member_is = refl; segment_is = same; stands = at }); turn = e })

pub returns-in-Tell : goal.returns-in-Tell
returns-in-Tell c args k recovery s next same at is =
    let x = args_of c.args.given.now in
    within_tell recovered_of (rule.RecoveringSegment c.args.member.now args) rule.OpenDone (λ r. rule.looks x c.args.member.now)
    (λ (to : rule.OpenStage × Next rule.Opened).
    IsStep x (kept.Recovering c.args.member.now k recovery) to (step.Recovers c.args.stage (turn.Tell c.in-Tell.letters)))
    s next c.in-Tell.letters (sym c.in-Tell.is ∙ is)
    (record { stage = (record { member_is = refl; segment_is = same; stands = at }); turn = refl })

pub returns-in-Done : goal.returns-in-Done
returns-in-Done c args k recovery s next same at is =
    let x = args_of c.args.given.now in
    within_done recovered_of (rule.RecoveringSegment c.args.member.now args) rule.OpenDone (λ r. rule.looks x c.args.member.now)
    (λ (to : rule.OpenStage × Next rule.Opened).
    IfOk c.looks.result (IsStep x (kept.Recovering c.args.member.now k recovery) to))
    s next c.in-Done.recovered (sym c.in-Done.is ∙ is)
    (λ r e. c.looks.ensures (kept.Recovering c.args.member.now k recovery))

pub returns-in-Refused : goal.returns-in-Refused
returns-in-Refused c args k recovery s next same at is =
    let x = args_of c.args.given.now in
    let r = c.in-Refused.refusal in
    within_refused recovered_of (rule.RecoveringSegment c.args.member.now args) rule.OpenDone (λ r. rule.looks x c.args.member.now)
    (λ (to : rule.OpenStage × Next rule.Opened).
    IsStep x (kept.Recovering c.args.member.now k recovery) to c.refused.result)
    s next r (sym c.in-Refused.is ∙ is)
    (subst (λ (t : OpenStep).
    IsStep x (kept.Recovering c.args.member.now k recovery) (rule.OpenDone, Refused r) t)
    (sym c.refused.ensures) (record { stage = tt; turn = refl }))

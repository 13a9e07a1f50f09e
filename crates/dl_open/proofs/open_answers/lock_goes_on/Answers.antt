use Rattle.std.proofs.Common.{IfOk, refl, sym, ◌∙◌, subst}
use Rattle.dl_msg.specs.declared.turn.Turn.TheVariants as turn
use Rattle.dl_rules_stream.specs.Opens as rule
use Rattle.dl_rules_stream.specs.Orders.{Next, Refused}
use Rattle.dl_open.specs.declared.open_stage.OpenStage.TheVariants as kept
use Rattle.dl_open.specs.declared.open_step.OpenStep.{OpenStep}
use Rattle.dl_open.specs.declared.open_step.OpenStep.TheVariants as step
use Rattle.dl_open.specs.Opening.{args_of, IsStep}
use Rattle.dl_open.proofs.Within.{own_value, within_wait, within_ask, within_tell, within_done, within_refused}
use Rattle.dl_open.proofs.open_answers.lock_goes_on.Goals as goal

pub returns-in-Wait : goal.returns-in-Wait
returns-in-Wait c l s next at is =
    let x = args_of c.args.given.now in
    within_wait (λ m. m) rule.Locking rule.OpenDone (rule.looks x)
    (λ (to : rule.OpenStage × Next rule.Opened). IsStep x (kept.Locking l) to (step.Locks c.args.stage turn.Wait))
    s next (own_value next turn.Wait (sym c.in-Wait.is ∙ is))
    (record { stage = at; turn = tt })

pub returns-in-Ask : goal.returns-in-Ask
returns-in-Ask c l s next at is =
    let x = args_of c.args.given.now in
    within_ask (λ m. m) rule.Locking rule.OpenDone (rule.looks x)
    (λ (to : rule.OpenStage × Next rule.Opened).
    IsStep x (kept.Locking l) to (step.Locks c.args.stage (turn.Ask c.in-Ask.request)))
    s next c.in-Ask.request (own_value next (turn.Ask c.in-Ask.request) (sym c.in-Ask.is ∙ is))
    (λ r e. record { stage = at; turn = e })

pub returns-in-Tell : goal.returns-in-Tell
returns-in-Tell c l s next at is =
    let x = args_of c.args.given.now in
    within_tell (λ m. m) rule.Locking rule.OpenDone (rule.looks x)
    (λ (to : rule.OpenStage × Next rule.Opened).
    IsStep x (kept.Locking l) to (step.Locks c.args.stage (turn.Tell c.in-Tell.letters)))
    s next c.in-Tell.letters (own_value next (turn.Tell c.in-Tell.letters) (sym c.in-Tell.is ∙ is))
    (record { stage = at; turn = refl })

pub returns-in-Done : goal.returns-in-Done
returns-in-Done c l s next at is =
    let x = args_of c.args.given.now in
    within_done (λ m. m) rule.Locking rule.OpenDone (rule.looks x)
    (λ (to : rule.OpenStage × Next rule.Opened). IfOk c.looks.result (IsStep x (kept.Locking l) to))
    s next c.in-Done.member (own_value next (turn.Done c.in-Done.member) (sym c.in-Done.is ∙ is))
    (λ m e. subst (λ p. IfOk c.looks.result (IsStep x (kept.Locking l) (rule.looks x p))) e (c.looks.ensures (kept.Locking l)))

pub returns-in-Refused : goal.returns-in-Refused
returns-in-Refused c l s next at is =
    let x = args_of c.args.given.now in
    let r = c.in-Refused.refusal in
    within_refused (λ m. m) rule.Locking rule.OpenDone (rule.looks x)
    (λ (to : rule.OpenStage × Next rule.Opened). IsStep x (kept.Locking l) to c.refused.result)
    s next r (own_value next (turn.Refused r) (sym c.in-Refused.is ∙ is))
    (subst (λ (t : OpenStep). IsStep x (kept.Locking l) (rule.OpenDone, Refused r) t) (sym c.refused.ensures) (record { stage = tt; turn = refl }))

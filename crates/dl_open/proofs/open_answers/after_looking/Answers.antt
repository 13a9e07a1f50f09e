use Rattle.std.proofs.Common.{IfOk, refl, sym, ap, ◌∙◌, subst}
use Rattle.dl_rules_stream.specs.Listings.{last_segment}
use Rattle.dl_rules_stream.specs.Looks.{Looked, Looking, look_answers}
use Rattle.dl_rules_stream.specs.Opens as rule
use Rattle.dl_rules_stream.specs.Orders.{Next, Refused}
use Rattle.dl_open.specs.declared.open_stage.OpenStage.TheVariants as kept
use Rattle.dl_open.specs.declared.open_step.OpenStep.{OpenStep}
use Rattle.dl_open.specs.declared.open_step.OpenStep.TheVariants as step
use Rattle.dl_look.specs.Looking.{look_move}
use Rattle.dl_open.specs.Opening.{args_of, IsStep}
use Rattle.dl_open.proofs.Going.{look_told, look_refused, look_stays}
use Rattle.dl_open.proofs.open_answers.after_looking.Goals as goal

pub returns-in-Stays : goal.returns-in-Stays
returns-in-Stays c =
    let x = args_of c.args.given.now in
    let m = c.args.member.now in
    look_stays (rule.LookingFor m) rule.OpenDone (λ (l : Looked). rule.after_look x m l (last_segment l.segments))
    (λ (to : rule.OpenStage × Next rule.Opened). IsStep x (kept.Looking m) to step.Stays)
    (look_answers x.stream Looking c.args.answer.now)
    (sym (ap look_move c.in-Stays.is) ∙ c.in_ok-told.ensures) (record { stage = refl; turn = tt })

pub returns-in-Told : goal.returns-in-Told
returns-in-Told c =
    let x = args_of c.args.given.now in
    let m = c.args.member.now in
    look_told (rule.LookingFor m) rule.OpenDone (λ (l : Looked). rule.after_look x m l (last_segment l.segments))
    (λ (to : rule.OpenStage × Next rule.Opened). IfOk c.after_told.result (IsStep x (kept.Looking m) to))
    (look_answers x.stream Looking c.args.answer.now) c.in-Told.looked
    (sym (ap look_move c.in-Told.is) ∙ c.in_ok-told.ensures) (λ l told. c.after_told.ensures (kept.Looking m) l told)

pub returns-in-Refused : goal.returns-in-Refused
returns-in-Refused c =
    let x = args_of c.args.given.now in
    let m = c.args.member.now in
    let r = c.in-Refused.refusal in
    look_refused (rule.LookingFor m) rule.OpenDone (λ (l : Looked). rule.after_look x m l (last_segment l.segments))
    (λ (to : rule.OpenStage × Next rule.Opened). IsStep x (kept.Looking m) to c.refused.result)
    (look_answers x.stream Looking c.args.answer.now) r
    (sym (ap look_move c.in-Refused.is) ∙ c.in_ok-told.ensures)
    (subst (λ (s : OpenStep). IsStep x (kept.Looking m) (rule.OpenDone, Refused r) s) (sym c.refused.ensures) (record { stage = tt; turn = refl }))

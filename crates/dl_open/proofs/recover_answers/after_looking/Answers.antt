use Rattle.std.proofs.Common.{IfOk, refl, sym, ap, ◌∙◌}
use Rattle.dl_msg.specs.declared.turn.Turn.TheVariants as turn
use Rattle.dl_rules_stream.specs.Listings.{last_segment}
use Rattle.dl_rules_stream.specs.Looks.{Looked, Looking, look_answers}
use Rattle.dl_rules_stream.specs.Orders.{Next}
use Rattle.dl_rules_stream.specs.Recovers as rule
use Rattle.dl_open.specs.declared.recover_stage.RecoverStage.TheVariants as kept
use Rattle.dl_open.specs.declared.recover_step.RecoverStep.TheVariants as step
use Rattle.dl_look.specs.Looking.{look_move}
use Rattle.dl_open.specs.Recovering.{args_of, IsStep}
use Rattle.dl_open.proofs.Going.{look_told, look_refused, look_stays}
use Rattle.dl_open.proofs.recover_answers.after_looking.Goals as goal

pub returns-in-Stays : goal.returns-in-Stays
returns-in-Stays c =
    look_stays rule.LookingFor rule.RecoverDone (λ (l : Looked). rule.after_look (args_of c.args.given.now) l (last_segment l.segments))
    (λ (to : rule.RecoverStage × Next rule.Found). IsStep kept.Looking to step.Stays)
    (look_answers c.args.given.now.stream Looking c.args.answer.now)
    (sym (ap look_move c.in-Stays.is) ∙ c.in_ok-told.ensures) (record { stage = tt; turn = refl })

pub returns-in-Told : goal.returns-in-Told
returns-in-Told c =
    look_told rule.LookingFor rule.RecoverDone (λ (l : Looked). rule.after_look (args_of c.args.given.now) l (last_segment l.segments))
    (λ (to : rule.RecoverStage × Next rule.Found). IfOk c.after_told.result (IsStep kept.Looking to))
    (look_answers c.args.given.now.stream Looking c.args.answer.now) c.in-Told.looked
    (sym (ap look_move c.in-Told.is) ∙ c.in_ok-told.ensures) (λ l told. c.after_told.ensures kept.Looking l told)

pub returns-in-Refused : goal.returns-in-Refused
returns-in-Refused c =
    look_refused rule.LookingFor rule.RecoverDone (λ (l : Looked). rule.after_look (args_of c.args.given.now) l (last_segment l.segments))
    (λ (to : rule.RecoverStage × Next rule.Found). IsStep kept.Looking to (step.Goes kept.Over (turn.Refused c.in-Refused.refusal)))
    (look_answers c.args.given.now.stream Looking c.args.answer.now) c.in-Refused.refusal
    (sym (ap look_move c.in-Refused.is) ∙ c.in_ok-told.ensures) (record { stage = tt; turn = refl })

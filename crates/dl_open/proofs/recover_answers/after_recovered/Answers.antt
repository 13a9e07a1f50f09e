use Rattle.std.proofs.Common.{IfOk, sym, ap, ◌∙◌, subst}
use Rattle.dl_types.specs.Places.{place}
use Rattle.dl_msg.specs.declared.turn.Turn.TheVariants as turn
use Rattle.dl_rules_stream.specs.Recovers as rule
use Rattle.dl_rules_stream.specs.SegmentRecoveries.{Recovered}
use Rattle.dl_open.specs.declared.found.Found.TheVariants.{Completes}
use Rattle.dl_open.specs.declared.recover_stage.RecoverStage.TheVariants.{Over}
use Rattle.dl_open.specs.declared.recover_step.RecoverStep.TheVariants.{Goes}
use Rattle.dl_open.specs.Recovering.{args_of, IsStep}
use Rattle.dl_open.proofs.Going.{closed_is, again_is}
use Rattle.dl_open.proofs.recover_answers.after_recovered.Goals as goal

pub returns-in-Closed : goal.returns-in-Closed
returns-in-Closed c from args a same is =
    let n = c.in-Closed.entry in
    let done = turn.Done (Completes (place c.args.segment n 0)) in
    subst (λ (r : Recovered). IsStep from (rule.after_segment (args_of c.args.given.now) args r) (Goes Over done))
    (sym (closed_is a n (sym c.in-Closed.is ∙ is))) (record { stage = tt; turn = ap (λ k. turn.Done (Completes (place k n 0))) same })

pub returns-in-Again : goal.returns-in-Again
returns-in-Again c from args a same is =
    subst (λ (r : Recovered). IfOk c.looks.result (IsStep from (rule.after_segment (args_of c.args.given.now) args r)))
    (sym (again_is a (sym c.in-Again.is ∙ is))) (c.looks.ensures from)

use Rattle.std.proofs.Common.{IfOk, refl, sym, ◌∙◌, subst}
use Rattle.dl_rules_stream.specs.Orders.{Next, Refused}
use Rattle.dl_rules_stream.specs.SegmentRecoveries as rule
use Rattle.dl_requests.specs.declared.moves.Move.{Move}
use Rattle.dl_segrecover.specs.declared.recovered.Recovered.{Recovered}
use Rattle.dl_segrecover.specs.declared.stage.Stage.{Stage}
use Rattle.dl_segrecover.specs.Standing.{IsMove}
use Rattle.dl_segrecover.proofs.Moves.{unread, read_segment}
use Rattle.dl_segrecover.proofs.answers.after_bytes.Goals as goal

pub returns-in-Ok : goal.returns-in-Ok
returns-in-Ok c from =
    let x = c.args.given.now in
    subst (λ (to : rule.SegmentStage × Next rule.Recovered). IfOk c.begins.result (IsMove x from to))
    (read_segment x c.args.bytes.now c.args.version _ c.in-Ok.meta (sym c.in_ok-meta.ensures.value ∙ c.in-Ok.is) c.ledger_of.ensures.value)
    (c.begins.ensures from)

pub returns-in-Err : goal.returns-in-Err
returns-in-Err c from =
    let x = c.args.given.now in
    let r = c.in-Err.refusal in
    subst (λ (to : rule.SegmentStage × Next rule.Recovered). IsMove x from to c.refused.result)
    (unread x c.args.bytes.now c.args.version r (sym c.in_ok-meta.ensures.value ∙ c.in-Err.is))
    (subst (λ (move : Move Stage Recovered). IsMove x from (rule.SegmentDone, Refused r) move) (sym c.refused.ensures)
    (record { stage = tt; turn = refl }))

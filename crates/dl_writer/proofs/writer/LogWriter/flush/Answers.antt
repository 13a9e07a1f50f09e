use Rattle.std.proofs.Common.{◌≡◌, refl, ap, sym, subst, ◌∙◌, ltb, length}
use Rattle.std.proofs.lemmas.Result.{err_from_is_err_and}
use Rattle.dl_rules_stream.specs.LogWriters.{Flushes}
use Rattle.dl_writer.specs.Modes.{past_notice}
use Rattle.dl_writer.specs.Facts.{LogFacts}
use Rattle.dl_writer.specs.Refusals.{send_fault_in}
use Rattle.dl_writer.specs.Views.{NowStands, now_of}
use Rattle.dl_writer.specs.contracts.writer.LogWriter.{the_view}
use Rattle.dl_writer.proofs.Ending.{taking, flush_sends, flush_stays, flush_refused}
use Rattle.dl_writer.proofs.writer.LogWriter.flush.Goals as goal

pub returns-in_err-check_send-clause-refused : goal.returns-in_err-check_send-clause-refused
returns-in_err-check_send-clause-refused c =
    let p = err_from_is_err_and c.from_residual.result c.from_residual.ensures.1 in
    rw (p.1, p.2) (λ v h. flush_refused (now_of v) c.args.self.now h _ c.in_err-check_send.ensures.fault)

pub returns-then-has_parts-clause-taken : goal.returns-then-has_parts-clause-taken
returns-then-has_parts-clause-taken c = λ v h.
    taking v Flushes c.in_ok-send_draft.field-0 c.send_draft.new.self
    (flush_sends (now_of v) c.args.self.now h c.in_ok-send_draft.field-0 c.send_draft.new.self (sym c.in_ok-check_send.ensures.fault)
    (sym (c.has_parts.ensures.parts ∙ ap (λ (f : LogFacts). ltb 0 (length f.draft.parts)) c.self.view_is) ∙ c.if-has_parts.true)
    c.in_ok-next.next c.past_notice-mode.result c.next.result c.last.result c.in_ok-next.ensures
    (c.next.ensures ∙ ap (λ (f : LogFacts). f.draft.next) c.self.view_is) (c.last.ensures ∙ ap (λ (f : LogFacts). f.draft.last) c.self.view_is)
    (c.past_notice-mode.ensures ∙ ap (λ (f : LogFacts). past_notice f.mode) c.self.view_is) c.in_ok-send_draft.ensures.sent)

pub returns-clause-taken : goal.returns-clause-taken
returns-clause-taken c = λ v h.
    taking v Flushes _ _
    (flush_stays (now_of v) (the_view c.self.inside) (subst (NowStands (now_of v)) (sym c.self.view_is) h) _ _ c.past_notice-mode.result
    (ap send_fault_in c.self.view_is ∙ sym c.in_ok-check_send.ensures.fault) (sym c.has_parts.ensures.parts ∙ c.if-has_parts.false)
    c.past_notice-mode.ensures (record { letters = (cc); now = refl }))

use Rattle.std.proofs.Common.{◌≡◌, ap, sym, subst, ◌∙◌, ltb, length}
use Rattle.dl_writer.specs.Facts.{LogFacts}
use Rattle.dl_writer.proofs.Ending.{end_sends, end_goes}
use Rattle.dl_writer.proofs.writer.LogWriter.end_in.Goals as goal

pub returns-then-has_parts-clause-sent : goal.returns-then-has_parts-clause-sent
returns-then-has_parts-clause-sent c = λ w h.
    end_sends w c.args.self.now h c.in_ok-send_draft.field-0 c.send_draft.new.self c.args.mode c.requires.ending (sym c.in_ok-check_send.ensures.fault)
    (sym (c.has_parts.ensures.parts ∙ ap (λ (f : LogFacts). ltb 0 (length f.draft.parts)) c.self.view_is) ∙ c.if-has_parts.true)
    c.in_ok-next.next c.next.result c.last.result c.in_ok-next.ensures
    (c.next.ensures ∙ ap (λ (f : LogFacts). f.draft.next) c.self.view_is) (c.last.ensures ∙ ap (λ (f : LogFacts). f.draft.last) c.self.view_is)
    c.in_ok-send_draft.ensures.sent

pub returns-clause-sent : goal.returns-clause-sent
returns-clause-sent c = λ w h.
    end_goes w c.args.self.now h c.in_ok-go_on.field-0 c.go_on.new.self c.args.mode c.requires.ending (sym c.in_ok-check_send.ensures.fault)
    (sym (c.has_parts.ensures.parts ∙ ap (λ (f : LogFacts). ltb 0 (length f.draft.parts)) c.self.view_is) ∙ c.if-has_parts.false)
    c.in_ok-ledger.ledger (c.in_ok-ledger.ensures.cases ∙ ap (λ (f : LogFacts). f.ledger) c.self.view_is) c.in_ok-go_on.ensures.goes

use Rattle.std.proofs.Common.{◌≡◌, ◌+◌, [], ◌∷◌, length, ap, sym, subst, ◌∙◌}
use Rattle.std.proofs.lemmas.Result.{err_from_is_err_and}
use Rattle.dl_rules_stream.specs.LogWriters.{Appends, pending_from}
use Rattle.dl_writer.specs.Facts.{LogFacts}
use Rattle.dl_writer.specs.Views.{now_of}
use Rattle.dl_writer.proofs.Ending.{taking}
use Rattle.dl_writer.proofs.Taking.{append_refused, append_taken}
use Rattle.dl_writer.proofs.writer.LogWriter.append.Goals as goal

pub returns-in_err-check_take-clause-refused : goal.returns-in_err-check_take-clause-refused
returns-in_err-check_take-clause-refused c =
    let p = err_from_is_err_and c.from_residual.result c.from_residual.ensures.1 in
    rw (p.1, p.2) (λ v h. append_refused (now_of v) c.args.self.now h c.args.origin c.args.txid c.args.payload.now _ c.in_err-check_take.ensures.fault)

pub returns-clause-taken : goal.returns-clause-taken
returns-clause-taken c = λ v h.
    taking v (Appends c.args.origin c.args.txid c.args.payload.now) c.in_ok-take.field-0 c.take.new.self
    (append_taken (now_of v) c.args.self.now h
    (subst (λ (f : LogFacts). f.draft.next ≡ f.rows_sent + length f.draft.pending) c.self.view_is c.self.invariant.next)
    c.args.origin c.args.txid c.next.result c.in_ok-rows.rows.items c.in_ok-take.field-0 c.take.new.self
    (c.next.ensures ∙ ap (λ (f : LogFacts). f.draft.next) c.self.view_is)
    c.args.payload.now c.in_ok-payload.payload c.in_ok-payload.ensures
    (c.in_ok-rows.ensures ∙ ap (pending_from c.args.origin c.args.txid) (c.from_ref.ensures.value ∙ ap (λ b. b ∷ []) c.in_ok-payload.ensures))
    (sym c.in_ok-check_take.ensures.fault) c.in_ok-take.ensures.takes)

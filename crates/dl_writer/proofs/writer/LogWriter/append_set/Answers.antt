use Rattle.std.proofs.Common.{◌≡◌, ◌+◌, length, ap, sym, subst, ◌∙◌}
use Rattle.std.proofs.lemmas.Result.{err_from_is_err_and}
use Rattle.dl_record.specs.declared.stored.Stored.TheVariants.{Set}
use Rattle.dl_rules_stream.specs.LogWriters.{AppendsSet}
use Rattle.dl_writer.specs.Facts.{LogFacts}
use Rattle.dl_writer.specs.Views.{now_of}
use Rattle.dl_writer.proofs.Ending.{taking}
use Rattle.dl_writer.proofs.Taking.{set_may_at, set_size_at, room_at, set_refused, set_taken}
use Rattle.dl_writer.proofs.writer.LogWriter.append_set.Goals as goal

pub returns-in_err-check_take-clause-refused : goal.returns-in_err-check_take-clause-refused
returns-in_err-check_take-clause-refused c =
    let p = err_from_is_err_and c.from_residual.result c.from_residual.ensures.1 in
    rw (p.1, p.2) (λ v h. set_refused (now_of v) c.args.self.now h c.args.origin c.args.txid c.set_length-length.result c.args.payloads.now _
    c.set_length-length.ensures c.in_err-check_take.ensures.fault)

pub take-requires-clause-next : goal.take-requires-clause-next
take-requires-clause-next c =
    set_may_at c.args.self.now c.args.origin c.args.txid c.next.result c.set_length-length.result c.args.payloads.now c.in_ok-share_all.field-0
    c.in_ok-rows.rows.items (c.next.ensures ∙ ap (λ (f : LogFacts). f.draft.next) c.self.view_is) c.in_ok-share_all.ensures c.in_ok-rows.ensures
    c.set_length-length.ensures c.in_ok-check_take.ensures.may c.requires.some c.requires.members c.requires.rows

pub take-requires-clause-size : goal.take-requires-clause-size
take-requires-clause-size c =
    set_size_at c.set_length-length.result c.args.payloads.now c.in_ok-share_all.field-0 c.set_length-length.ensures c.in_ok-share_all.ensures

pub take-requires-clause-room : goal.take-requires-clause-room
take-requires-clause-room c =
    room_at c.args.self.now (Set c.next.result c.args.txid c.in_ok-share_all.field-0) c.set_length-length.result c.args.txid
    (take-requires-clause-size c) c.in_ok-check_take.ensures.may c.requires.few

pub returns-clause-taken : goal.returns-clause-taken
returns-clause-taken c = λ v h.
    taking v (AppendsSet c.args.origin c.args.txid c.args.payloads.now) c.in_ok-take.field-0 c.take.new.self
    (set_taken (now_of v) c.args.self.now h
    (subst (λ (f : LogFacts). f.draft.next ≡ f.rows_sent + length f.draft.pending) c.self.view_is c.self.invariant.next)
    c.args.origin c.args.txid c.next.result c.in_ok-rows.rows.items c.in_ok-take.field-0 c.take.new.self
    (c.next.ensures ∙ ap (λ (f : LogFacts). f.draft.next) c.self.view_is)
    c.set_length-length.result c.args.payloads.now c.in_ok-share_all.field-0 c.in_ok-share_all.ensures c.in_ok-rows.ensures c.set_length-length.ensures
    (sym c.in_ok-check_take.ensures.fault) c.in_ok-take.ensures.takes)

use Rattle.std.proofs.Common.{◌+◌, subst, sym, ap, ◌∙◌, get_or}
use Rattle.dl_quorum.specs.Sizes.{sizes_of}
use Rattle.dl_quorum.specs.WriteSets.{confirms}
use Rattle.dl_quorum.specs.Places.{holds}
use Rattle.dl_rules_ledger.specs.Leading.{leading_count}
use Rattle.dl_rules_ledger.specs.Writers.{with_call, Hears}
use Rattle.dl_lwrite.specs.Answering.{Gains}
use Rattle.dl_lwrite.specs.Facts.{WriterFacts}
use Rattle.dl_lwrite.specs.Standing.{StandsFor}
use Rattle.dl_lwrite.specs.contracts.writer.LedgerWriter.{the_view}
use Rattle.dl_lwrite.proofs.Hearing.{answers_at, stands_after}
use Rattle.dl_lwrite.proofs.writer.LedgerWriter.hear.Goals as goal

pub returns-clause-stands : goal.returns-clause-stands
returns-clause-stands c v h =
    let w : WriterFacts = the_view c.self.inside in
    let now : StandsFor v w = subst (StandsFor v) (sym c.self.view_is) h in
    let noted = c.acknowledge.new.window.items in
    let gained : Gains w.q.e (answers_at w c.args.bookie c.args.msg.now) w.answers noted =
    subst (λ n. Gains n (answers_at w c.args.bookie c.args.msg.now) w.answers noted) c.self.invariant.places c.acknowledge.ensures in
    let count = w.confirmed + c.advance-passed.result in
    let fenced = c.fenced_after-self-inside.result in
    subst (λ xs. StandsFor (with_call v (Hears c.args.bookie c.args.msg.now)) (record w { confirmed = count; answers = xs; fenced = fenced }))
    (sym c.advance-passed.ensures.rest)
    (stands_after v w now c.self.invariant.window c.args.bookie c.args.msg.now noted gained c.advance-passed.result
    (c.advance-passed.ensures.passed ∙ ap (leading_count (λ i. confirms (sizes_of w.q) (w.confirmed + i) (holds (get_or noted i 0)))) gained.size)
    fenced c.fenced_after-self-inside.ensures)

pub returns-clause-count : goal.returns-clause-count
returns-clause-count c v h = (returns-clause-stands c v h).confirmed

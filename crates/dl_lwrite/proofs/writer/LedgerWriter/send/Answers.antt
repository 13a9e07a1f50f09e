use Rattle.std.proofs.Common.{ℕ, ◌+◌, List, subst, sym, ◌∙◌, arith}
use Rattle.dl_rules_ledger.specs.Writers.{with_call, Sends}
use Rattle.dl_lwrite.specs.Facts.{WriterFacts}
use Rattle.dl_lwrite.specs.Standing.{StandsFor}
use Rattle.dl_lwrite.specs.contracts.writer.LedgerWriter.{the_view}
use Rattle.dl_lwrite.proofs.Sends.{stands_sent, stop_fenced, stop_full, stop_none, letters_are}
use Rattle.dl_lwrite.proofs.writer.LedgerWriter.send.Goals as goal

pub returns-in-Some-clause-refused : goal.returns-in-Some-clause-refused
returns-in-Some-clause-refused c v h = stop_fenced v (the_view c.self.inside) (subst (StandsFor v) (sym c.self.view_is) h) c.in-Some.bookie c.in-Some.is

pub returns-then-len-ge-WINDOW-clause-refused : goal.returns-then-len-ge-WINDOW-clause-refused
returns-then-len-ge-WINDOW-clause-refused c v h =
    stop_full v (the_view c.self.inside) (subst (StandsFor v) (sym c.self.view_is) h) c.self.invariant.window c.in_default.is
    (omega (arith, c.if-len-ge-WINDOW.true, c.len.ensures))

pub returns-clause-sent : goal.returns-clause-sent
returns-clause-sent c v h =
    let w : WriterFacts = the_view c.self.inside in
    let now : StandsFor v w = subst (StandsFor v) (sym c.self.view_is) h in
    record {
      free = stop_none v w now c.self.invariant.window c.in_default.is (omega (arith, c.if-len-ge-WINDOW.false, c.len.ensures));
      entry = now.sent;
      letters = c.in_ok-told.ensures ∙ letters_are v w now c.args.bytes;
      stands = subst (λ xs. StandsFor (with_call v (Sends c.args.bytes)) (record w { sent = w.sent + 1; answers = xs }))
          (sym {A = List ℕ} c.in_ok-push_back.ensures.items)
          (stands_sent v w now c.self.invariant.window c.args.bytes c.empty.result c.empty.ensures.members);
    }

use Rattle.std.proofs.Common.{◌∙◌}
use Rattle.std.proofs.lemmas.Result.{err_from_is_err_and}
use Rattle.dl_meta.proofs.ConfRoom.{conf_fits}
use Rattle.dl_meta.proofs.MakingLemmas.{journal_failed_by, store_made_by}
use Rattle.dl_meta.proofs.store.MetaStore.make.Goals as goal

pub make_journal-requires-clause-body : goal.make_journal-requires-clause-body
make_journal-requires-clause-body g c = (conf_fits c.args.conf c.deref_mut.result.now (c.deref_mut.ensures.value ∙ c.in_ok-frame.ensures)).0

pub make_journal-requires-clause-room : goal.make_journal-requires-clause-room
make_journal-requires-clause-room g c = (conf_fits c.args.conf c.deref_mut.result.now (c.deref_mut.ensures.value ∙ c.in_ok-frame.ensures)).1

pub returns-in_err-journal : goal.returns-in_err-journal
returns-in_err-journal g c =
    let p = err_from_is_err_and c.from_residual-in_err-journal.result c.from_residual-in_err-journal.ensures.1 in
    rw (p.1, p.2) (journal_failed_by (g.D.Depot.view c.args.depot.now) (g.D.Depot.view c.make_journal.new.depot) c.args.conf c.deref_mut.result.now
    c.in_err-journal.field-0.0 (c.deref_mut.ensures.value ∙ c.in_ok-frame.ensures) c.in_err-journal.ensures)

pub returns : goal.returns
returns g c =
    store_made_by (g.D.Depot.view c.args.depot.now) (g.D.Depot.view c.make_journal.new.depot) c.args.conf c.deref_mut.result.now c.in_ok-tree.tree
    c.in_ok-sessions.sessions c.in_ok-journal.journal c.of.result (c.deref_mut.ensures.value ∙ c.in_ok-frame.ensures) c.requires.conf c.in_ok-tree.ensures
    c.in_ok-sessions.ensures c.in_ok-journal.ensures c.of.ensures

use Rattle.std.proofs.Common.{sym, subst, List, ◌+◌, ◌≤◌}
use Rattle.std.proofs.lemmas.Result.{err_from_is_err_and}
use Rattle.std.specs.Vec.{vec_len}
use Rattle.dl_journal.specs.declared.batch.Batch.{Batch}
use Rattle.dl_journal.specs.Limits.{journal_limit}
use Rattle.dl_meta.specs.Loading.{bodies_in, span}
use Rattle.dl_meta.proofs.LoadLemmas.{store_loads_at, stop_loads_at}
use Rattle.dl_meta.proofs.ReplaySteps.{span_fits}
use Rattle.dl_meta.proofs.store.MetaStore.load.Goals as goal

pub replay-requires : goal.replay-requires
replay-requires g c = subst (λ (bs : List Batch). 8 + span (bodies_in bs) ≤ journal_limit) (sym c.deref.ensures.value)
    (span_fits _ _ _ c.in-Ok-load.ensures.in_row)

pub returns-in_err-tree : goal.returns-in_err-tree
returns-in_err-tree g c =
    let p = err_from_is_err_and c.from_residual.result c.from_residual.ensures.1 in
    rw (p.1, p.2) (stop_loads_at (g.D.Depot.view c.args.depot.now) (g.D.Depot.view c.size.new.self) (g.D.Depot.view c.load.new.depot) c.new-file.result
    c.in-Ok.field-0
    c.in-Ok-load.loaded c.new-file.ensures c.in-Ok.ensures.size c.in-Ok.field-0-test.1 c.in-Ok-load.ensures c.deref.result.now c.deref.ensures.value
    c.in_err-tree.field-0.0 c.in_err-tree.ensures)

pub returns : goal.returns
returns g c =
    store_loads_at (g.D.Depot.view c.args.depot.now) (g.D.Depot.view c.size.new.self) (g.D.Depot.view c.load.new.depot) c.new-file.result c.in-Ok.field-0
    c.in-Ok-load.loaded c.new-file.ensures c.in-Ok.ensures.size c.in-Ok.field-0-test.1 c.in-Ok-load.ensures c.deref.result.now c.deref.ensures.value
    c.in_ok-tree.tree c.in_ok-tree.sessions c.of.result (vec_len c.in-Ok-load.loaded.1) c.is_empty.result c.is_empty.ensures c.if-is_empty.false
    c.deref.ensures.len
    c.in_ok-tree.ensures c.of.ensures

use Rattle.std.proofs.Common.{◌≡◌, ℕ, List, Ok, Err, sym, subst}
use Rattle.dl_journal.specs.declared.batch.Batch.{Batch}
use Rattle.dl_restore.specs.Bodies.{bodies_of}
use Rattle.dl_restore.specs.Restoring.{Restores, stop_of}
use Rattle.dl_rules_nodes.specs.Loads.{loaded_bookie}
use Rattle.dl_bookie.specs.Loading.{LoadsNode}
use Rattle.dl_bookie.proofs.LoadLemmas.{loads_node, no_journal, no_tables}
use Rattle.dl_bookie.proofs.bookie.Bookie.load.Goals as goal

pub returns-in-Err-load : goal.returns-in-Err-load
returns-in-Err-load g c =
    let old = g.D.Depot.view c.args.depot.now in
    let new = g.D.Depot.view c.load.new.depot in
    subst (λ f. LoadsNode old new c.args.file (Err f)) (sym c.of_journal.ensures) (no_journal old new c.args.file c.in-Err-load.fault c.in-Err-load.ensures)

pub returns-in-Ok-restore : goal.returns-in-Ok-restore
returns-in-Ok-restore g c =
    let old = g.D.Depot.view c.args.depot.now in
    let new = g.D.Depot.view c.load.new.depot in
    let p = c.in-Ok-load.loaded in
    let es = c.restore.new.entries in
    let ls = c.restore.new.ledgers in
    let r = c.in-Ok-restore.ensures c.in-Ok-load.ensures.in_row.first in
    loads_node old new c.args.file p.0 p.1 es ls c.of.result c.in-Ok-load.ensures
    (subst (λ (bs : List Batch). Restores c.in-Ok-load.ensures.in_row.first (bodies_of bs) es ls (Ok c.in-Ok-restore.field-0)) c.deref.ensures.value r)
    c.of.ensures

pub returns-in-Err-restore : goal.returns-in-Err-restore
returns-in-Err-restore g c =
    let old = g.D.Depot.view c.args.depot.now in
    let new = g.D.Depot.view c.load.new.depot in
    let p = c.in-Ok-load.loaded in
    let fault = c.in-Err-restore.fault in
    subst (λ f. LoadsNode old new c.args.file (Err f)) (sym c.of_items.ensures)
    (no_tables old new c.args.file p.0 p.1 fault c.in-Ok-load.ensures
    (subst (λ (bs : List Batch). (first : ℕ) → loaded_bookie first (bodies_of bs) ≡ Err (stop_of fault)) c.deref.ensures.value c.in-Err-restore.ensures))

use Rattle.dl_depot.specs.Memory.{view_by}
use Rattle.dl_journal.specs.Settled.{Stands}
use Rattle.dl_store_rows.proofs.meta.requests_run_once.Given as goal

-- the journal stands for batches of its file
abbrev pub invariant-rows : goal.invariant-rows
invariant-rows g l = Stands (view_by l.depot) l.store.journal

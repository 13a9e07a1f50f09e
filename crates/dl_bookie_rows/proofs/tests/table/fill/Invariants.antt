use Rattle.dl_depot.specs.Memory.{view_by}
use Rattle.dl_journal.specs.Settled.{Stands}
use Rattle.dl_bookie_rows.proofs.tests.table.fill.Given as goal

-- the node's journal stands for the batches of its file
abbrev pub invariant-rounds : goal.invariant-rounds
invariant-rounds l = Stands (view_by l.world.depot) l.world.node.journal

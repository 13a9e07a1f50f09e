use Rattle.dl_depot.specs.Memory.{view_by}
use Rattle.dl_journal.specs.Settled.{Stands}
use Rattle.dl_bookie_rows.proofs.tests.table.first_wrong.Given as goal

-- the node's journal stands for the batches of its file
abbrev pub invariant-rows : goal.invariant-rows
invariant-rows l = Stands (view_by l.world.depot) l.world.node.journal

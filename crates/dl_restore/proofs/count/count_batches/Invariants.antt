use Rattle.std.proofs.Common.{◌≡◌, ◌+◌, ◌<◌, List, length, drop}
use Rattle.std.specs.List.{AllByRecursion}
use Rattle.dl_journal.specs.Limits.{journal_limit}
use Rattle.dl_journal.specs.Batches.{spell}
use Rattle.dl_rules_nodes.specs.Items.{Item}
use Rattle.dl_rules_nodes.specs.Loads.{batches_at}
use Rattle.dl_items.specs.Reading.{verdict, IsBody}
use Rattle.dl_restore.specs.Bodies.{bodies_of, AllSpell}
use Rattle.dl_restore.specs.Entries.{BatchesUnderway}
use Rattle.dl_restore.specs.Ledgers.{LedgerBatchesUnderway}
use Rattle.dl_restore.proofs.count.count_batches.Given as goal

abbrev pub invariant-loop-batch : goal.invariant-loop-batch
invariant-loop-batch l = record {
  same : verdict (batches_at l.gate (bodies_of (drop l.batch-index l.batches))) ≡ verdict (batches_at 8 (bodies_of l.batches));
  found : AllByRecursion IsBody (bodies_of (drop l.batch-index l.batches)) → AllByRecursion IsBody (bodies_of l.batches);
  fits : l.gate + length (spell (drop l.batch-index l.batches)) < journal_limit;
  entries : (items : List (List Item)) → AllSpell (bodies_of l.batches) items
      → BatchesUnderway items l.gate (bodies_of (drop l.batch-index l.batches)) l.entries l.room.entries;
  ledgers : (items : List (List Item)) → AllSpell (bodies_of l.batches) items
      → LedgerBatchesUnderway items (bodies_of (drop l.batch-index l.batches)) l.ledgers l.room.ledgers;
}

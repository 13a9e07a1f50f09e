use Rattle.std.proofs.Common.{◌≡◌, ◌+◌, List, ◌++◌, length}
use Rattle.dl_codec.specs.Fields.{IsBytes}
use Rattle.dl_rules_nodes.specs.Items.{Item}
use Rattle.dl_rules_nodes.specs.Bookies.{gate_of}
use Rattle.dl_rules_nodes.specs.Reading.{items_in}
use Rattle.dl_items.specs.Reading.{verdict}
use Rattle.dl_restore.specs.Bodies.{Spells}
use Rattle.dl_restore.specs.Entries.{BatchesAdded, Underway}
use Rattle.dl_restore.specs.Ledgers.{LedgersAdded, LedgersUnderway}
use Rattle.dl_restore.proofs.count.count_items.Given as goal

abbrev pub invariant-loop-item : goal.invariant-loop-item
invariant-loop-item l = record {
  fits : l.at + length l.rest ≡ l.start + length l.body;
  same : verdict (items_in l.rest) ≡ verdict (items_in l.body);
  bytes : IsBytes l.rest;
  entries : (before : List (List Item)) (items : List Item) → Spells l.body items → l.start ≡ gate_of before + 13
      → BatchesAdded before l.initial.entries l.fn.had.entries → Underway before items l.at l.rest l.entries l.room.entries;
  ledgers : (before items : List Item) → Spells l.body items → LedgersAdded before l.initial.ledgers l.fn.had.ledgers
      → LedgersUnderway (before ++ items) l.rest l.ledgers l.room.ledgers;
}

abbrev pub decreases-loop-item : goal.decreases-loop-item
decreases-loop-item l = length l.rest

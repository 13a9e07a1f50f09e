use Rattle.std.proofs.Common.{◌≡◌, ◌≤◌, ◌+◌, ◌-◌, ◌++◌, ℕ, length, drop}
use Rattle.dl_journal.specs.Batches.{magic, spell, Runs}
use Rattle.dl_journal.specs.Reading.{due_of}
use Rattle.dl_journal.proofs.parse.contents_of.Given as goal

abbrev pub invariant-loop-at : goal.invariant-loop-at
invariant-loop-at l = record {
  first : ℕ;
  runs : Runs first l.batches.items;
  due : l.due ≡ due_of first l.batches.items;
  place : l.at ≡ 8 + length (spell l.batches.items);
  inside : l.at ≤ length l.bytes;
  spelled : l.bytes ≡ magic ++ (spell l.batches.items ++ drop l.at l.bytes);
}

abbrev pub decreases-loop-at : goal.decreases-loop-at
decreases-loop-at l = length l.bytes - l.at

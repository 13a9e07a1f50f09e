-- A metadata store stands for a metadata node: the items in force, and the number of the first batch. The relation has two
-- halves: one without a device, and one on the file.
use Rattle.std.specs.Prelude.{◌≡◌, ℕ, ◌+◌, ◌<◌, ◌⊎◌, false, List, [], ◌∷◌, length, Some}
use Rattle.dl_depot.specs.View.{View}
use Rattle.dl_journal.specs.declared.batch.Batch.{Batch}
use Rattle.dl_journal.specs.Batches.{IsJournal}
use Rattle.dl_journal.specs.Settled.{IsSettled}
use Rattle.dl_rules_nodes.specs.Items.{MetaItem}
use Rattle.dl_rules_nodes.specs.Metadata.{MetaNode, meta_of, meta_gate, with_item}
use Rattle.dl_rules_nodes.specs.MetaOrder.{AreInOrder, bodies_of}
use Rattle.dl_meta.specs.State.{MetaState, meta_in}

-- the metadata file
abbrev pub meta_file : ℕ
meta_file = 0

-- bodies as batches with numbers in a row, from this one on
abbrev pub numbered : ℕ → List (List ℕ) → List Batch
numbered first [] = []
numbered first (body ∷ bodies) = (record { number = first; body = body }) ∷ numbered (first + 1) bodies

-- the batches of a node: one for each of its items, the oldest first
unfoldable pub batches_of : MetaNode → List Batch
batches_of n = numbered n.first (bodies_of n.items)

-- the bytes of a file hold a node's items in force, and no others
unfoldable pub HoldsItems : MetaNode → List ℕ → Type 0
HoldsItems n bytes = IsJournal bytes (batches_of n)

-- the bytes of a file hold a node's items, or those and one new one
abbrev pub HoldsEither : MetaNode → MetaItem → List ℕ → Type 0
HoldsEither n x bytes = HoldsItems n bytes ⊎ HoldsItems (with_item n x) bytes

-- each thing that a store keeps is what the items say
pub record StandsFor (n : MetaNode) (s : MetaState) : Type 0 where
  pub meta : meta_in s ≡ meta_of n.items
  pub file : s.journal.file ≡ meta_file
  pub gate : s.journal.gate ≡ meta_gate n.items
  pub next : s.journal.next ≡ n.first + length n.items
  pub works : s.journal.failed ≡ false
  -- the items may follow each other, and the configuration is among them
  pub in_order : AreInOrder n.items
  pub some : 0 < length n.items

-- where the depot tells the bytes of the metadata file, they hold the node's items, and a stop leaves those bytes alone
abbrev pub OnFile : View → MetaNode → MetaState → Type 0
OnFile v n s = (shown : List ℕ) → v.shown meta_file ≡ Some shown → IsSettled v s.journal shown (batches_of n)

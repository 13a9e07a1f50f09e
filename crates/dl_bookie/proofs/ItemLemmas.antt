-- The length of an item's bytes, and items whose entries are whole.
use Rattle.std.proofs.Common.{◌≡◌, ◌<◌, List, [], ◌∷◌, ◌++◌, length, sym, arith}
use Rattle.std.specs.List.{AllByRecursion}
use Rattle.dl_rules_nodes.specs.Items.{Item, AddItem, CopyItem, FenceItem, item_bytes, item_length}
use Rattle.dl_bookie.specs.Standing.{HasEntry}
use Rattle.dl_rules_nodes.proofs.ItemLaws.{lengths_are_of_bytes}

-- the length of an item is that of its bytes
pub length-item_bytes : (x : Item) → length (item_bytes x) ≡ item_length x
length-item_bytes x = sym (lengths_are_of_bytes.item x)

-- an item has a byte
pub item_some : (x : Item) → 0 < length (item_bytes x)
item_some (AddItem l e n bytes) = omega (arith, length-item_bytes (AddItem l e n bytes))
item_some (CopyItem l e n bytes) = omega (arith, length-item_bytes (CopyItem l e n bytes))
item_some (FenceItem l) = omega (arith, length-item_bytes (FenceItem l))

-- one more whose entry is whole
pub whole_push : (xs : List Item) (x : Item) → AllByRecursion HasEntry xs → HasEntry x → AllByRecursion HasEntry (xs ++ x ∷ [])
whole_push [] x all here = (here, all)
whole_push (y ∷ xs) x all here = (all.0, whole_push xs x all.1 here)

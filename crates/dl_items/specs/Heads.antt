-- What an item has beside the bytes of its entry.
use Rattle.std.specs.Prelude.{ℕ, Bool, true, false, List, Option, Some, None}
use Rattle.dl_rules_nodes.specs.Items.{Item, AddItem, CopyItem, FenceItem}
use Rattle.dl_items.specs.declared.head.Head.{Head}
use Rattle.dl_items.specs.declared.head.Head.TheVariants as head

-- the item with this head and these bytes of its entry; a fence has none
abbrev pub item_of : Head → List ℕ → Item
item_of (head.Add l e n) bytes = AddItem l e n bytes
item_of (head.Copy l e n) bytes = CopyItem l e n bytes
item_of (head.Fence l) bytes = FenceItem l

-- its ledger
abbrev pub ledger_in : Head → ℕ
ledger_in (head.Add l e n) = l
ledger_in (head.Copy l e n) = l
ledger_in (head.Fence l) = l

-- the entry that it names, if it names one
abbrev pub entry_named : Head → Option ℕ
entry_named (head.Add l e n) = Some e
entry_named (head.Copy l e n) = Some e
entry_named (head.Fence l) = None

-- the confirmed count that it carries
abbrev pub count_of : Head → ℕ
count_of (head.Add l e n) = n
count_of (head.Copy l e n) = n
count_of (head.Fence l) = 0

-- whether it is that of a fence
abbrev pub is_fence_head : Head → Bool
is_fence_head (head.Fence l) = true
is_fence_head _ = false

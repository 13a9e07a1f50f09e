-- How many different entries and ledgers a list of items has.
use Rattle.std.specs.Prelude.{ℕ, ◌+◌, Bool, false, not, if◌then◌else◌, List, [], ◌∷◌, ◌++◌}
use Rattle.std.specs.List.{list_any}
use Rattle.dl_rules_nodes.specs.Items.{Item, AddItem, CopyItem, FenceItem, is_entry, is_of, ledger_of}

-- an item has an entry that none of these has
abbrev pub is_new_entry : Item → List Item → Bool
is_new_entry (AddItem l e n bytes) seen = not (list_any (is_entry l e) seen)
is_new_entry (CopyItem l e n bytes) seen = not (list_any (is_entry l e) seen)
is_new_entry (FenceItem l) seen = false

-- an item is of a ledger that none of these is of
abbrev pub is_new_ledger : Item → List Item → Bool
is_new_ledger x seen = not (list_any (is_of (ledger_of x)) seen)

-- how many items are new behind those seen
unfoldable pub count_new : (Item → List Item → Bool) → List Item → List Item → ℕ
count_new new seen [] = 0
count_new new seen (x ∷ xs) = (if new x seen then 1 else 0) + count_new new (seen ++ x ∷ []) xs

-- how many different entries
abbrev pub entries_count : List Item → ℕ
entries_count xs = count_new is_new_entry [] xs

-- how many different ledgers
abbrev pub ledgers_count : List Item → ℕ
ledgers_count xs = count_new is_new_ledger [] xs

-- The items that wait, as slices of the pool.
use Rattle.std.specs.Prelude.{◌≡◌, ℕ, zero, suc, List, [], ◌∷◌, Option, Some, None}
use Rattle.std.specs.List.{concat}
use Rattle.dl_rules_nodes.specs.Items.{Item, item_bytes}
use Rattle.dl_rules_nodes.specs.Bookies.{Waiting}

-- the item of the reply at a place, where it has one; places count from 0
abbrev pub item_at : List Waiting → ℕ → Option Item
item_at [] place = None
item_at (w ∷ ws) zero = w.item
item_at (w ∷ ws) (suc place) = item_at ws place

-- slices that join to the bytes of an item, or none where there is none
abbrev pub JoinTo : Option Item → Option (List (List ℕ)) → Type 0
JoinTo None None = Unit {0}
JoinTo None (Some parts) = ⊥
JoinTo (Some x) None = ⊥
JoinTo (Some x) (Some parts) = concat parts ≡ item_bytes x

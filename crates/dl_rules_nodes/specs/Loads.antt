-- What the bodies of the batches in force of a node's journal stand for, or the first fault of them.
use Rattle.std.specs.Prelude.{ℕ, ◌+◌, Bool, true, false, nat_lt, if◌then◌else◌, List, [], ◌∷◌, length, flat_map, Result, Ok, Err}
use Rattle.dl_msg.specs.declared.resource.Resource.{Resource}
use Rattle.dl_msg.specs.declared.resource.Resource.TheVariants.{Index, Ledgers}
use Rattle.dl_rules_nodes.specs.Limits.{most_entries, most_ledgers}
use Rattle.dl_rules_nodes.specs.Items.{Item, MetaItem}
use Rattle.dl_rules_nodes.specs.Counts.{entries_count, ledgers_count}
use Rattle.dl_rules_nodes.specs.Bookies.{Bookie}
use Rattle.dl_rules_nodes.specs.Metadata.{Meta, MetaNode, nothing, does}
use Rattle.dl_rules_nodes.specs.Reading.{batch_at, with_place}
use Rattle.dl_rules_nodes.specs.MetaReading.{meta_item_in}

infixl 10 ◌>>=◌
-- one reading and then another; the first fault is the fault of both
abbrev pub ◌>>=◌ : {A B F : Type 0} → Result A F → (A → Result B F) → Result B F
(Ok x) >>= f = f x
(Err fault) >>= f = Err fault

-- ---- a storage node

-- the items of bodies, of which the first stands behind a gate at this place, batch by batch
unfoldable pub batches_at : ℕ → List (List ℕ) → Result (List (List Item)) ℕ
batches_at gate [] = Ok []
batches_at gate (body ∷ bodies) =
    batch_at gate body >>= λ items. batches_at (gate + 13 + length body) bodies >>= λ batches. Ok (items ∷ batches)

-- why the bodies give no storage node: a fault at a place of the file, or more than its tables take
pub data LoadStop : Type 0 where
  IsDamaged : (at : ℕ) → LoadStop
  IsCrowded : (what : Resource) → LoadStop

-- a list that the tables take: first the entries are counted, and then the ledgers
abbrev pub taken_over : ℕ → List (List Item) → Result Bookie LoadStop
taken_over first batches =
    if nat_lt most_entries (entries_count (flat_map (λ batch. batch) batches)) then Err (IsCrowded Index)
    else (if nat_lt most_ledgers (ledgers_count (flat_map (λ batch. batch) batches)) then Err (IsCrowded Ledgers)
    else Ok (record { first = first; batches = batches; queue = [] }))

-- a fault of the bytes as a reason
abbrev pub or_damaged : {A : Type 0} → Result A ℕ → Result A LoadStop
or_damaged (Ok x) = Ok x
or_damaged (Err at) = Err (IsDamaged at)

-- the storage node of a journal with these bodies, the first of which has this number
unfoldable pub loaded_bookie : ℕ → List (List ℕ) → Result Bookie LoadStop
loaded_bookie first bodies = or_damaged (batches_at 8 bodies) >>= λ batches. taken_over first batches

-- ---- the metadata node

-- the items of bodies after others, which are the newest first; the first body stands behind a gate at this place
unfoldable pub meta_items_at : ℕ → Bool → Meta → List MetaItem → List (List ℕ) → Result (List MetaItem) ℕ
meta_items_at gate is_first m older [] = Ok older
meta_items_at gate is_first m older (body ∷ bodies) =
    with_place (gate + 13 + length body) (meta_item_in is_first m.sessions body) >>= λ x.
    meta_items_at (gate + 13 + length body) false (does m x) (x ∷ older) bodies

-- the metadata node of a journal with these bodies, the first of which has this number; or the place of the first fault
unfoldable pub loaded_meta : ℕ → List (List ℕ) → Result MetaNode ℕ
loaded_meta first bodies = meta_items_at 8 true nothing [] bodies >>= λ items. Ok (record { first = first; items = items })

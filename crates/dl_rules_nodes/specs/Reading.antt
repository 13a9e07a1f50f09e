-- Reading the items of a storage node's batches: the first fault in the order of the bytes comes, with its place.
use Rattle.std.specs.Prelude.{ℕ, zero, suc, ◌+◌, ◌-◌, ◌==◌, ◌||◌, nat_lt, if◌then◌else◌, List, [], ◌∷◌, length, Option, Some, None, Result, Ok, Err}
use Rattle.std.specs.Int.{w32, w64}
use Rattle.dl_fields.specs.declared.fault.Fault.{Fault}
use Rattle.dl_fields.specs.declared.fault.Fault.TheVariants.{Short, Bad, Long}
use Rattle.dl_fields.specs.Readers.{◌>>=◌, then_at, map_at, without_flaw}
use Rattle.dl_fields.specs.Fields.{number_from, counted_field_from}
use Rattle.dl_fields.specs.Codes.{code_from}
use Rattle.dl_record.specs.declared.entry_flaw.EntryFlaw.{EntryFlaw}
use Rattle.dl_record.specs.declared.entry_flaw.EntryFlaw.TheVariants as flaws
use Rattle.dl_record.specs.declared.stored.Stored.{Stored}
use Rattle.dl_record.specs.Reading.{entry_at}
use Rattle.dl_rules_nodes.specs.Limits.{longest_batch}
use Rattle.dl_rules_nodes.specs.Items.{Item, AddItem, CopyItem, FenceItem, ItemKind, AnAdd, ACopy, AFence, item_code, item_kinds}

-- ---- the entry in an item

-- the place of an entry's flaw, counted from its first byte
abbrev pub place_in : EntryFlaw → ℕ
place_in (flaws.BadFlags at) = at
place_in (flaws.Compressed at) = at
place_in (flaws.Short at) = at
place_in (flaws.TooLong at) = at
place_in (flaws.BadCount at) = at
place_in (flaws.TxidBack at) = at
place_in (flaws.Long at) = at

-- how many of so many bytes are left at the flaw
abbrev pub left_at : ℕ → Result (List Stored) EntryFlaw → Option ℕ
left_at size (Ok parts) = None
left_at size (Err flaw) = Some (size - place_in flaw)

-- the same of the bytes of an entry, where they have a flaw
abbrev pub entry_flaw : List ℕ → Option ℕ
entry_flaw bytes = left_at (length bytes) (entry_at bytes)

-- an entry behind its length
abbrev pub entry_from : List ℕ → Result (List ℕ × List ℕ) Fault
entry_from = without_flaw entry_flaw (counted_field_from w32)

-- ---- an item

-- the fields of an item that has an entry: ledger, entry, count and the entry's bytes
abbrev pub fields_from : (ℕ → ℕ → ℕ → List ℕ → Item) → List ℕ → Result (Item × List ℕ) Fault
fields_from make = map_at (λ (ledger, (entry, (count, bytes))). make ledger entry count bytes)
    (then_at (number_from w64) (λ l. then_at (number_from w64) (λ e. then_at (number_from w64) (λ n. entry_from))))

-- an item behind its kind
abbrev pub item_rest_from : ItemKind → List ℕ → Result (Item × List ℕ) Fault
item_rest_from AnAdd = fields_from AddItem
item_rest_from ACopy = fields_from CopyItem
item_rest_from AFence = map_at FenceItem (number_from w64)

-- an item
abbrev pub item_from : List ℕ → Result (Item × List ℕ) Fault
item_from = map_at (λ (kind, item). item) (then_at (code_from item_code item_kinds) item_rest_from)

-- ---- a batch

-- items up to the end of the bytes, at most so many
unfoldable pub items_upto : ℕ → List ℕ → Result (List Item) Fault
items_upto n [] = Ok []
items_upto zero (c ∷ cs) = Err (Long (length (c ∷ cs)))
items_upto (suc n) (c ∷ cs) = item_from (c ∷ cs) >>= λ x. items_upto n x.1 >>= λ xs. Ok (x.0 ∷ xs)

-- the items of a body; each takes at least one byte, so that there are at most as many as bytes
abbrev pub items_in : List ℕ → Result (List Item) Fault
items_in body = items_upto (length body) body

-- how many bytes are left at a fault
abbrev pub left_of : Fault → ℕ
left_of (Short left) = left
left_of (Bad left) = left
left_of (Long left) = left

-- a fault with its place in a file, where the bytes that were read end at this place of it
abbrev pub with_place : {A : Type 0} → ℕ → Result A Fault → Result A ℕ
with_place end (Ok x) = Ok x
with_place end (Err fault) = Err (end - left_of fault)

-- The items of a batch whose gate stands at this place of a file, or the place of the first fault. The body stands 13 bytes
-- behind the gate; one that is empty or too long is broken at its length, which stands 9 bytes behind it.
abbrev pub batch_at : ℕ → List ℕ → Result (List Item) ℕ
batch_at gate body =
    if length body == 0 || nat_lt longest_batch (length body) then Err (gate + 9)
    else with_place (gate + 13 + length body) (items_in body)

-- Reading items and bodies in parts, and what a check keeps of a reading.
use Rattle.std.specs.Prelude.{◌≡◌, ◌<◌, ℕ, List, ◌++◌, length, Result, Ok, Err}
use Rattle.std.specs.Int.{w64}
use Rattle.dl_fields.specs.declared.fault.Fault.{Fault}
use Rattle.dl_fields.specs.Readers.{then_at}
use Rattle.dl_fields.specs.Fields.{number_from}
use Rattle.dl_rules_nodes.specs.Items.{Item, ItemKind, AnAdd, ACopy, AFence, item_bytes, body_of, IsItem, IsBatch}
use Rattle.dl_rules_nodes.specs.Reading.{entry_from}
use Rattle.dl_items.specs.declared.kind.Kind.{Kind}
use Rattle.dl_items.specs.declared.kind.Kind.TheVariants as kinds

-- the kind as the rules have it
abbrev pub ruled_kind : Kind → ItemKind
ruled_kind kinds.Add = AnAdd
ruled_kind kinds.Copy = ACopy
ruled_kind kinds.Fence = AFence

-- the fields of an item that has an entry: ledger, entry, count and the entry's bytes
abbrev pub fields_and_entry : List ℕ → Result ((ℕ × (ℕ × (ℕ × List ℕ))) × List ℕ) Fault
fields_and_entry = then_at (number_from w64) (λ ledger. then_at (number_from w64) (λ entry. then_at (number_from w64) (λ count. entry_from)))

-- An item stands at the front of some bytes, which are fewer behind it.
pub record IsFront (x : Item) (rest bytes : List ℕ) : Type 0 where
  pub valid : IsItem x
  pub spelt : bytes ≡ item_bytes x ++ rest
  pub less : length rest < length bytes

-- what a check keeps of a reading: whether it met a fault, and which
abbrev pub verdict : {A F : Type 0} → Result A F → Result (Unit {0}) F
verdict (Ok x) = Ok tt
verdict (Err fault) = Err fault

-- a body is the spelling of a batch
abbrev pub IsBody : List ℕ → Type 0
IsBody body = (items : List Item) × IsBatch items × (body ≡ body_of items)

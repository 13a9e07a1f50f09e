-- The table of ledgers while items are counted into it.
use Rattle.std.specs.Prelude.{◌≡◌, ◌<◌, ◌≤◌, ◌⊎◌, ℕ, ◌+◌, max, Bool, true, false, ◌==◌, ◌||◌, if◌then◌else◌, List, [], ◌++◌, length, Option, Some, None}
use Rattle.std.specs.Prelude.{is_some, IsSome, ⊤}
use Rattle.std.specs.List.{AllByRecursion}
use Rattle.dl_rules_nodes.specs.Limits.{most_ledgers}
use Rattle.dl_rules_nodes.specs.Items.{Item, body_of, IsItem}
use Rattle.dl_rules_nodes.specs.Counts.{ledgers_count}
use Rattle.dl_items.specs.declared.head.Head.{Head}
use Rattle.dl_items.specs.Heads.{ledger_in, is_fence_head, count_of}
use Rattle.dl_marks.specs.declared.marks.LedgerMarks.{LedgerMarks}
use Rattle.dl_marks.specs.Tables.{Ledgers, ledger_at}
use Rattle.dl_marks.specs.Known.{ledger_known}
use Rattle.dl_restore.specs.Bodies.{all_of, AllSpell}

-- the marks of a ledger with one durable item more, maybe a fence, and its count
abbrev pub ledger_added : Option LedgerMarks → Bool → ℕ → LedgerMarks
ledger_added None fence count = record { fenced = fence; fencing = false; greatest = count }
ledger_added (Some m) fence count = record { fenced = m.fenced || fence; fencing = false; greatest = max m.greatest count }

-- The marks of this item's ledger count it, and no others.
pub record LedgerAdded (old new : Ledgers) (h : Head) : Type 0 where
  pub each : (l : ℕ) → ledger_at new l
      ≡ (if ledger_in h == l then Some (ledger_added (ledger_at old (ledger_in h)) (is_fence_head h) (count_of h)) else ledger_at old l)
  pub count : length new ≡ length old + (if is_some (ledger_at old (ledger_in h)) then 0 else 1)
  pub room : (length old < most_ledgers) ⊎ IsSome (ledger_at old (ledger_in h))

-- There is no room for this item's ledger.
pub record NoLedgerRoom (old : Ledgers) (h : Head) : Type 0 where
  pub full : most_ledgers ≤ length old
  pub missing : ledger_at old (ledger_in h) ≡ None

-- an item is counted, where there is room
abbrev pub AddsLedger : Ledgers → Ledgers → Head → Bool → Type 0
AddsLedger old new h true = LedgerAdded old new h
AddsLedger old new h false = NoLedgerRoom old h

-- the same where there was room for all ledgers before
abbrev pub CountsLedger : (had_room : Bool) → Ledgers → Ledgers → Head → (room : Bool) → Type 0
CountsLedger true old new h room = AddsLedger old new h room
CountsLedger false old new h true = ⊥
CountsLedger false old new h false = ⊤

-- The table says what these items say of each ledger.
pub record LedgersHold (items : List Item) (ledgers : Ledgers) : Type 0 where
  pub each : (l : ℕ) → ledger_at ledgers l ≡ ledger_known items [] [] l
  pub count : length ledgers ≡ ledgers_count items
  pub few : length ledgers ≤ most_ledgers

-- with room the table holds these items; without, they have too many ledgers
abbrev pub LedgersAdded : List Item → Ledgers → (room : Bool) → Type 0
LedgersAdded items ledgers true = LedgersHold items ledgers
LedgersAdded items ledgers false = most_ledgers < ledgers_count items

-- Some first items of a list are counted; the others are spelt by these bytes.
pub record LedgersUnderway (items : List Item) (rest : List ℕ) (ledgers : Ledgers) (room : Bool) : Type 0 where
  pub done : List Item
  pub todo : List Item
  pub all : items ≡ done ++ todo
  pub valid : AllByRecursion IsItem todo
  pub spelt : rest ≡ body_of todo
  pub counted : LedgersAdded done ledgers room

-- Some first batches are counted.
pub record LedgerBatchesUnderway (items : List (List Item)) (rest : List (List ℕ)) (ledgers : Ledgers) (room : Bool) : Type 0 where
  pub done : List (List Item)
  pub todo : List (List Item)
  pub all : items ≡ done ++ todo
  pub spell : AllSpell rest todo
  pub counted : LedgersAdded (all_of done) ledgers room

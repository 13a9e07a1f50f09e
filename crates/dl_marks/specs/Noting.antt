-- The marks of an entry and of a ledger of which one item more waits.
use Rattle.std.specs.Prelude.{◌≡◌, ◌<◌, ◌⊎◌, ℕ, ◌+◌, Bool, true, false, ◌==◌, ◌&&◌, ◌||◌, if◌then◌else◌, length, Option, Some, None, is_some, IsSome}
use Rattle.dl_rules_nodes.specs.Limits.{most_entries, most_ledgers}
use Rattle.dl_items.specs.declared.head.Head.{Head}
use Rattle.dl_items.specs.declared.head.Head.TheVariants as head
use Rattle.dl_items.specs.Heads.{ledger_in, is_fence_head}
use Rattle.dl_marks.specs.declared.marks.EntryMarks.{EntryMarks}
use Rattle.dl_marks.specs.declared.marks.LedgerMarks.{LedgerMarks}
use Rattle.dl_marks.specs.Tables.{Entries, Ledgers, marks_at, ledger_at}

-- ---- marks

-- the marks of an entry with one item more that waits, maybe an Add
abbrev pub entry_noted : Option EntryMarks → Bool → EntryMarks
entry_noted None adding = record { added = false; place = None; adding = adding; coming = true }
entry_noted (Some m) adding = record m { adding = m.adding || adding; coming = true }

-- the marks of a ledger with one item more that waits, maybe a fence
abbrev pub ledger_noted : Option LedgerMarks → Bool → LedgerMarks
ledger_noted None fencing = record { fenced = false; fencing = fencing; greatest = 0 }
ledger_noted (Some m) fencing = record m { fencing = m.fencing || fencing }

-- ---- room

-- there is room for the marks of an entry
abbrev pub EntryRoom : Entries → (ledger entry : ℕ) → Type 0
EntryRoom entries l e = (length entries < most_entries) ⊎ IsSome (marks_at entries l e)

-- there is room for the marks of a ledger
abbrev pub LedgerRoom : Ledgers → ℕ → Type 0
LedgerRoom ledgers l = (length ledgers < most_ledgers) ⊎ IsSome (ledger_at ledgers l)

-- there is room for the entry of an item; a fence needs none
abbrev pub HasEntryRoom : Entries → Head → Type 0
HasEntryRoom entries (head.Add l e n) = EntryRoom entries l e
HasEntryRoom entries (head.Copy l e n) = EntryRoom entries l e
HasEntryRoom entries (head.Fence l) = Unit {0}

-- there is room for the ledger of an item
abbrev pub HasLedgerRoom : Ledgers → Head → Type 0
HasLedgerRoom ledgers h = LedgerRoom ledgers (ledger_in h)

-- ---- tables

-- The marks of this entry are noted, and no others.
pub record EntryNoted (old new : Entries) (ledger entry : ℕ) (adding : Bool) : Type 0 where
  pub each : (l e : ℕ) → marks_at new l e ≡ (if ledger == l && entry == e then Some (entry_noted (marks_at old ledger entry) adding) else marks_at old l e)
  pub count : length new ≡ length old + (if is_some (marks_at old ledger entry) then 0 else 1)

-- The marks of this ledger are noted, and no others.
pub record LedgerNoted (old new : Ledgers) (ledger : ℕ) (fencing : Bool) : Type 0 where
  pub each : (l : ℕ) → ledger_at new l ≡ (if ledger == l then Some (ledger_noted (ledger_at old ledger) fencing) else ledger_at old l)
  pub count : length new ≡ length old + (if is_some (ledger_at old ledger) then 0 else 1)

-- the marks of an item's entry are noted, where it has one
abbrev pub EntriesNoted : Entries → Entries → Head → Type 0
EntriesNoted old new (head.Add l e n) = EntryNoted old new l e true
EntriesNoted old new (head.Copy l e n) = EntryNoted old new l e false
EntriesNoted old new (head.Fence l) = new ≡ old

-- the marks of an item's ledger are noted
abbrev pub LedgersNoted : Ledgers → Ledgers → Head → Type 0
LedgersNoted old new h = LedgerNoted old new (ledger_in h) (is_fence_head h)

-- An item with this head is noted in both tables.
pub record Noted (old new : Entries) (before now : Ledgers) (h : Head) : Type 0 where
  pub entries : EntriesNoted old new h
  pub ledgers : LedgersNoted before now h

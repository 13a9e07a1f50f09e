-- The marks of an entry and of a ledger of which an item that waited became durable.
use Rattle.std.specs.Prelude.{◌≡◌, ◌==◌, ℕ, max, Bool, true, false, not, ◌||◌, ◌&&◌, if◌then◌else◌, length, Option, Some, None}
use Rattle.dl_items.specs.declared.head.Head.{Head}
use Rattle.dl_items.specs.declared.head.Head.TheVariants as head
use Rattle.dl_items.specs.Heads.{ledger_in, count_of, is_fence_head}
use Rattle.dl_marks.specs.declared.marks.EntryMarks.{EntryMarks}
use Rattle.dl_marks.specs.declared.marks.LedgerMarks.{LedgerMarks}
use Rattle.dl_marks.specs.declared.marks.Place.{Place}
use Rattle.dl_marks.specs.Places.{or_place}
use Rattle.dl_marks.specs.Tables.{Entries, Ledgers, marks_at, ledger_at}

-- ---- marks

-- the marks of an entry with an item that became durable at this place, maybe an Add
abbrev pub entry_kept : Option EntryMarks → Bool → Place → Option EntryMarks
entry_kept None added place = None
entry_kept (Some m) added place = Some (record { added = m.added || added; place = or_place m.place (Some place); adding = false; coming = false })

-- the marks of a ledger with an item that became durable, maybe a fence, and its count
abbrev pub ledger_kept : Option LedgerMarks → Bool → ℕ → Option LedgerMarks
ledger_kept None fence count = None
ledger_kept (Some m) fence count = Some (record { fenced = m.fenced || fence; fencing = not fence && m.fencing; greatest = max m.greatest count })

-- ---- tables

-- The marks of this entry are kept, and no others.
pub record EntryKept (old new : Entries) (ledger entry : ℕ) (added : Bool) (place : Place) : Type 0 where
  pub each : (l e : ℕ) → marks_at new l e ≡ (if ledger == l && entry == e then entry_kept (marks_at old ledger entry) added place else marks_at old l e)
  pub size : length new ≡ length old

-- The marks of this ledger are kept, and no others.
pub record LedgerKept (old new : Ledgers) (ledger : ℕ) (fence : Bool) (count : ℕ) : Type 0 where
  pub each : (l : ℕ) → ledger_at new l ≡ (if ledger == l then ledger_kept (ledger_at old ledger) fence count else ledger_at old l)
  pub size : length new ≡ length old

-- the marks of an item's entry are kept, where it has one
abbrev pub EntriesKept : Entries → Entries → Head → Place → Type 0
EntriesKept old new (head.Add l e n) place = EntryKept old new l e true place
EntriesKept old new (head.Copy l e n) place = EntryKept old new l e false place
EntriesKept old new (head.Fence l) place = new ≡ old

-- the marks of an item's ledger are kept
abbrev pub LedgersKept : Ledgers → Ledgers → Head → Type 0
LedgersKept old new h = LedgerKept old new (ledger_in h) (is_fence_head h) (count_of h)

-- An item with this head is kept in both tables as durable.
pub record Kept (old new : Entries) (before now : Ledgers) (h : Head) (place : Place) : Type 0 where
  pub entries : EntriesKept old new h place
  pub ledgers : LedgersKept before now h

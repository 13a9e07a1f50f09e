-- The table of entries while the items of batches are counted into it.
use Rattle.std.specs.Prelude.{◌≡◌, ◌<◌, ◌≤◌, ◌⊎◌, ℕ, ◌+◌, Bool, true, false, ◌==◌, ◌&&◌, ◌||◌, if◌then◌else◌, List, [], ◌++◌, length, Option, Some, None}
use Rattle.std.specs.Prelude.{is_some, IsSome, ⊤}
use Rattle.std.specs.List.{AllByRecursion}
use Rattle.dl_rules_nodes.specs.Limits.{most_entries}
use Rattle.dl_rules_nodes.specs.Items.{Item, items_length, body_of, IsItem}
use Rattle.dl_rules_nodes.specs.Counts.{entries_count}
use Rattle.dl_rules_nodes.specs.Bookies.{gate_of}
use Rattle.dl_items.specs.declared.head.Head.{Head}
use Rattle.dl_items.specs.declared.head.Head.TheVariants as head
use Rattle.dl_marks.specs.declared.marks.EntryMarks.{EntryMarks}
use Rattle.dl_marks.specs.declared.marks.Place.{Place}
use Rattle.dl_marks.specs.Tables.{Entries, marks_at}
use Rattle.dl_marks.specs.Places.{place_of, place_in, or_place}
use Rattle.dl_marks.specs.Known.{entry_known}
use Rattle.dl_restore.specs.Bodies.{all_of, AllSpell}

-- the marks of an entry with one durable item more, maybe an Add, at this place
abbrev pub entry_added : Option EntryMarks → Bool → Place → EntryMarks
entry_added None added place = record { added = added; place = Some place; adding = false; coming = false }
entry_added (Some m) added place = record { added = m.added || added; place = or_place m.place (Some place); adding = false; coming = false }

-- The marks of this entry count one item more, and no others.
pub record EntryAdded (old new : Entries) (ledger entry : ℕ) (added : Bool) (place : Place) : Type 0 where
  pub each : (l e : ℕ) → marks_at new l e ≡ (if ledger == l && entry == e then Some (entry_added (marks_at old ledger entry) added place) else marks_at old l e)
  pub count : length new ≡ length old + (if is_some (marks_at old ledger entry) then 0 else 1)
  pub room : (length old < most_entries) ⊎ IsSome (marks_at old ledger entry)

-- There is no room for this entry.
pub record NoEntryRoom (old : Entries) (ledger entry : ℕ) : Type 0 where
  pub full : most_entries ≤ length old
  pub missing : marks_at old ledger entry ≡ None

-- an entry is counted, where there is room
abbrev pub AddsEntry : Entries → Entries → (ledger entry : ℕ) → Bool → Place → Bool → Type 0
AddsEntry old new l e added place true = EntryAdded old new l e added place
AddsEntry old new l e added place false = NoEntryRoom old l e

-- the same of the entry of an item, where it has one
abbrev pub AddsEntryOf : Entries → Entries → Head → Place → Bool → Type 0
AddsEntryOf old new (head.Add l e n) place room = AddsEntry old new l e true place room
AddsEntryOf old new (head.Copy l e n) place room = AddsEntry old new l e false place room
AddsEntryOf old new (head.Fence l) place true = new ≡ old
AddsEntryOf old new (head.Fence l) place false = ⊥

-- the same where there was room for all entries before
abbrev pub CountsEntry : (had_room : Bool) → Entries → Entries → Head → Place → (room : Bool) → Type 0
CountsEntry true old new h place room = AddsEntryOf old new h place room
CountsEntry false old new h place true = ⊥
CountsEntry false old new h place false = ⊤

-- The table says what these batches say of each entry, and the first items of the next one.
pub record EntriesHold (before : List (List Item)) (done : List Item) (entries : Entries) : Type 0 where
  pub each : (l e : ℕ) → marks_at entries l e
      ≡ entry_known (all_of before ++ done) [] [] (or_place (place_of before l e) (place_in (gate_of before + 13) done l e)) l e
  pub count : length entries ≡ entries_count (all_of before ++ done)
  pub few : length entries ≤ most_entries

-- with room the table holds some batches and the first items of the next one; without, these have too many entries
abbrev pub BatchAdded : List (List Item) → List Item → Entries → (room : Bool) → Type 0
BatchAdded before items entries true = EntriesHold before items entries
BatchAdded before items entries false = most_entries < entries_count (all_of before ++ items)

-- the same of batches alone
abbrev pub BatchesAdded : List (List Item) → Entries → (room : Bool) → Type 0
BatchesAdded batches entries true = EntriesHold batches [] entries
BatchesAdded batches entries false = most_entries < entries_count (all_of batches)

-- Some first items of a batch are counted; the others begin at this offset.
pub record Underway (before : List (List Item)) (items : List Item) (at : ℕ) (rest : List ℕ) (entries : Entries) (room : Bool) : Type 0 where
  pub done : List Item
  pub todo : List Item
  pub all : items ≡ done ++ todo
  pub valid : AllByRecursion IsItem todo
  pub spelt : rest ≡ body_of todo
  pub place : at ≡ gate_of before + 13 + items_length done
  pub counted : BatchAdded before done entries room

-- Some first batches are counted; the gate of the next one stands at this offset.
pub record BatchesUnderway (items : List (List Item)) (gate : ℕ) (rest : List (List ℕ)) (entries : Entries) (room : Bool) : Type 0 where
  pub done : List (List Item)
  pub todo : List (List Item)
  pub all : items ≡ done ++ todo
  pub spell : AllSpell rest todo
  pub place : gate ≡ gate_of done
  pub counted : BatchesAdded done entries room

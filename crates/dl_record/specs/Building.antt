-- Entries under way.
use Rattle.std.specs.Prelude.{◌≡◌, ℕ, ◌+◌, ◌≤◌, true, false, Option, Some, None, Result, Ok, Err, is_ok, List, [], ◌∷◌, length, drop}
use Rattle.std.specs.List.{flat_map}
use Rattle.dl_record.specs.declared.limits.TheConstants.{ENTRY_MAX}
use Rattle.dl_record.specs.declared.entry_flaw.EntryFlaw.{EntryFlaw}
use Rattle.dl_record.specs.declared.stored.Stored.{Stored}
use Rattle.dl_record.specs.Grammar.{payload_bytes, record_bytes, entry_bytes, IsRecord, Follows}
use Rattle.dl_record.specs.Reading.{records_at}
use Rattle.dl_record.specs.Rows.{row_count}

-- the last of these records, if there is one
abbrev pub last_of : List Stored → Option Stored
last_of [] = None
last_of (r ∷ []) = Some r
last_of (r ∷ s ∷ rs) = last_of (s ∷ rs)

-- A stored record that the grammar allows next, in an entry that has these so far, and for which there is room.
pub record MayFollow (before : List Stored) (next : Stored) : Type 0 where
  pub is : IsRecord next
  pub follows : Follows (last_of before) next
  pub room : length (entry_bytes before) + 20 + length (payload_bytes next) ≤ ENTRY_MAX

-- what was read, or nothing where it failed
abbrev pub or_nothing : Result (List Stored) EntryFlaw → List Stored
or_nothing (Ok parts) = parts
or_nothing (Err flaw) = []

-- the records that stand behind the room for the header
abbrev pub parts_in : ℕ → List ℕ → List Stored
parts_in count bytes = or_nothing (records_at count false None (drop 8 bytes) 0)

-- So many records, which hold so many rows, stand behind the room for the header.
pub record IsBuilding (count row_total : ℕ) (bytes : List ℕ) : Type 0 where
  pub room : 8 ≤ length bytes
  pub size : length bytes ≤ ENTRY_MAX
  pub reads : is_ok (records_at count false None (drop 8 bytes) 0) ≡ true
  pub stands : drop 8 bytes ≡ flat_map record_bytes (parts_in count bytes)
  pub counted : length (parts_in count bytes) ≡ count
  pub rows : row_total ≡ row_count (parts_in count bytes)

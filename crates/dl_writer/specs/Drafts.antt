-- Entries under way.
use Rattle.std.specs.Prelude.{◌≡◌, ℕ, ◌+◌, ◌≤◌, ◌<◌, ◌^◌, Bool, nat_lt, nat_le, Option, Some, None, List, [], ◌∷◌, ◌++◌, length}
use Rattle.dl_record.specs.declared.limits.TheConstants.{ENTRY_MAX}
use Rattle.dl_record.specs.declared.stored.Stored.{Stored}
use Rattle.dl_record.specs.declared.stored.Stored.TheVariants.{Plain, Control, Set}
use Rattle.dl_record.specs.Stored.{position_of, txid_of, rows_in}
use Rattle.dl_record.specs.Grammar.{IsRecord, payload_bytes}
use Rattle.dl_record.specs.Building.{last_of}
use Rattle.dl_record.specs.Rows.{row_count}
use Rattle.dl_rules_stream.specs.LogWriters.{Pending, parts_size, longest_entry}
use Rattle.dl_writer.specs.Facts.{DraftFacts}

-- the record that stands behind the last one has this position, and the last one's id is not above this one
abbrev pub EndsAt : Option Stored → (next last : ℕ) → Type 0
EndsAt None next last = Unit {0}
EndsAt (Some r) next last = (position_of r + rows_in r ≡ next) × (txid_of r ≤ last)

-- What fits together in an entry under way: it has a row where it has a record, and the next record's position follows.
pub record IsDraft (d : DraftFacts) : Type 0 where
  pub ends : EndsAt (last_of d.parts) d.next d.last
  pub rows : row_count d.parts ≡ length d.pending
  pub some : nat_lt 0 (length d.parts) ≡ nat_lt 0 (length d.pending)

-- an entry without a record
abbrev pub empty_draft : (next last : ℕ) → DraftFacts
empty_draft next last = record { parts = []; pending = []; next = next; last = last }

-- an entry with one stored record more, and with its rows
abbrev pub with_part : DraftFacts → Stored → List Pending → DraftFacts
with_part d part rows =
    record { parts = d.parts ++ part ∷ []; pending = d.pending ++ rows; next = d.next + length rows; last = txid_of part }

-- whether a stored record with a payload of this length still fits
abbrev pub fits_parts : List Stored → ℕ → Bool
fits_parts parts size = nat_le (parts_size parts + 20 + size) longest_entry

-- records of users
abbrev pub IsUsers : Stored → Type 0
IsUsers (Plain position txid payload) = Unit {0}
IsUsers (Control position txid) = ⊥
IsUsers (Set position txid payloads) = Unit {0}

-- A stored record that may stand next behind what was taken, with its rows.
pub record MayTake (next last : ℕ) (part : Stored) (rows : List Pending) : Type 0 where
  pub is : IsRecord part
  pub users : IsUsers part
  pub position : position_of part ≡ next
  pub order : last ≤ txid_of part
  pub rows_are : length rows ≡ rows_in part
  pub some : 0 < length rows
  pub few : next + length rows < 2 ^ 32

-- there is room for it
abbrev pub HasRoom : List Stored → Stored → Type 0
HasRoom parts part = parts_size parts + 20 + length (payload_bytes part) ≤ ENTRY_MAX

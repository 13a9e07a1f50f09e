-- The user rows of an entry, and what a walk over its bytes has left of them.
use Rattle.std.specs.Prelude.{ℕ, zero, suc, ◌+◌, None, Result, Ok, Err, List, [], ◌∷◌, ◌++◌, length, slice_range, true}
use Rattle.dl_record.specs.declared.entry_flaw.EntryFlaw.{EntryFlaw}
use Rattle.dl_record.specs.declared.kind.Kind.{Kind}
use Rattle.dl_record.specs.declared.kind.Kind.TheVariants as kinds
use Rattle.dl_record.specs.declared.stored.Stored.{Stored}
use Rattle.dl_record.specs.Stored.{txid_of, payloads_of, rows_in}
use Rattle.dl_record.specs.Reading.{head_at, members_count_at, member_end_at}
use Rattle.dl_record.specs.UserRows.{RowOf, row_of}

-- rows with these payloads and one transaction id, in successive slots
abbrev pub rows_of : (slot txid : ℕ) → List (List ℕ) → List RowOf
rows_of slot txid [] = []
rows_of slot txid (payload ∷ payloads) = row_of slot txid payload ∷ rows_of (slot + 1) txid payloads

-- the user rows of stored records, in slots from this one on
abbrev pub rows_from : ℕ → List Stored → List RowOf
rows_from slot [] = []
rows_from slot (r ∷ rs) = rows_of slot (txid_of r) (payloads_of r) ++ rows_from (slot + rows_in r) rs

-- The user rows of an entry, in slots from 0 on: members of a set take successive slots and share its id, and control
-- records have none.
abbrev pub user_rows : List Stored → List RowOf
user_rows parts = rows_from 0 parts

-- the user rows of what is read as an entry: none where it has a flaw
abbrev pub rows_read : Result (List Stored) EntryFlaw → List RowOf
rows_read (Ok parts) = user_rows parts
rows_read (Err flaw) = []

-- how many user rows there are
abbrev pub row_count : List Stored → ℕ
row_count parts = length (user_rows parts)

-- ---- a walk

-- the rows that follow a reading, or none where it found a flaw
abbrev pub or_none : {A : Type 0} → Result A EntryFlaw → (A → List RowOf) → List RowOf
or_none (Ok x) rows = rows x
or_none (Err flaw) rows = []

-- the rows of so many members from a place on, and then the others
unfoldable pub members_walk : ℕ → (slot txid : ℕ) → List ℕ → ℕ → List RowOf → List RowOf
members_walk zero slot txid bytes at others = others
members_walk (suc n) slot txid bytes at others =
    or_none (member_end_at bytes at) (λ end. row_of slot txid (slice_range bytes (at + 4) end) ∷ members_walk n (slot + 1) txid bytes end others)

-- the rows of a stored record of this kind, and then the others
abbrev pub kind_walk : Kind → (slot txid : ℕ) → List ℕ → (at end : ℕ) → (ℕ → List RowOf) → List RowOf
kind_walk kinds.Plain slot txid bytes at end others = row_of slot txid (slice_range bytes at end) ∷ others (slot + 1)
kind_walk kinds.Control slot txid bytes at end others = []
kind_walk kinds.Set slot txid bytes at end others =
    or_none (members_count_at bytes (at + 2)) (λ count. members_walk count slot txid bytes (at + 4) (others (slot + count)))

-- the rows of so many stored records from a place on
unfoldable pub records_walk : ℕ → ℕ → List ℕ → ℕ → List RowOf
records_walk zero slot bytes at = []
records_walk (suc n) slot bytes at =
    or_none (head_at true None bytes at) (λ head.
    kind_walk head.kind slot head.txid bytes (at + 20) head.end (λ next. records_walk n next bytes head.end))

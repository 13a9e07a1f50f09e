-- What a walk has left, by where it stands.
use Rattle.std.specs.Prelude.{◌≡◌, ℕ, ◌+◌, ◌≤◌, List, ◌∷◌, length, slice_range}
use Rattle.dl_record.specs.declared.limits.TheConstants.{ENTRY_MAX}
use Rattle.dl_record.specs.declared.cursor.Cursor.{Cursor}
use Rattle.dl_record.specs.declared.step.RowSpan.{RowSpan}
use Rattle.dl_record.specs.declared.step.Step.{Step}
use Rattle.dl_record.specs.UserRows.{RowOf, row_of}
use Rattle.dl_record.specs.Rows.{members_walk, records_walk}

-- the rows from this place of a walk on
abbrev pub rows_left : List ℕ → Cursor → List RowOf
rows_left bytes c = members_walk c.members c.slot c.txid bytes c.member_at (records_walk c.records (c.slot + c.members) bytes c.at)

-- A walk stands within its bytes, and no slot passes the length of the longest entry.
pub record IsWalk (bytes : List ℕ) (c : Cursor) : Type 0 where
  pub size : length bytes ≤ ENTRY_MAX
  pub within : c.at ≤ length bytes
  pub slots : c.slot + length (rows_left bytes c) ≤ ENTRY_MAX

-- the row that lies at a span of the bytes
abbrev pub span_row : List ℕ → RowSpan → RowOf
span_row bytes s = row_of s.slot s.txid (slice_range bytes s.start s.end)

-- A step leads over the next row, which lies within the bytes, to the place where the walk goes on.
pub record Leads (bytes : List ℕ) (c : Cursor) (s : Step) : Type 0 where
  pub rows : rows_left bytes c ≡ span_row bytes s.row ∷ rows_left bytes s.next
  pub slot : s.next.slot ≡ c.slot + 1
  pub at : s.next.at ≤ length bytes
  pub starts : s.row.start ≤ s.row.end
  pub ends : s.row.end ≤ length bytes

-- What a reader keeps of a read.
use Rattle.std.specs.Prelude.{ℕ, ◌++◌, List, [], Option, None, take}
use Rattle.dl_types.specs.Places.{place}
use Rattle.dl_record.specs.UserRows.{RowOf}
use Rattle.dl_rules_stream.specs.Seeks.{Position}
use Rattle.dl_types.specs.declared.read_row.ReadRow.{ReadRow}
use Rattle.dl_formats.specs.declared.segment_name.SegmentName.{SegmentName}
use Rattle.dl_rules_stream.specs.LogReaders.{Read}

-- The read as the rule has it, and the segments that are left.
pub record ReadingFacts : Type 0 where
  pub read : Read
  pub left : List SegmentName

-- a read that has gathered more rows, up to its count
abbrev pub with_rows : Read → List ReadRow → Read
with_rows r rows = record r { rows = take r.count (r.rows ++ rows) }

-- a read with these rows and this ledger, whose node was gone
abbrev pub with_gone : Read → List ReadRow → Option ℕ → Read
with_gone r rows gone = record r { rows = rows; gone = gone }

-- a read of so many rows from a position on, which has gathered none
abbrev pub new_read : (tag count : ℕ) → Position → Read
new_read tag count from = record { tag = tag; count = count; from = from; rows = []; gone = None }

-- a user row of an entry at its place in the stream
abbrev pub row_at : (segment entry : ℕ) → RowOf → ReadRow
row_at segment entry u = record { place = place segment entry u.slot; txid = u.txid; payload = u.payload }

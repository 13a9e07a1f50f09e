-- When a table stands for the rows that were shown of a stream.
use Rattle.std.specs.Prelude.{◌≡◌, ℕ, Bool, true, not, ◌&&◌, ◌==◌, if◌then◌else◌, nat_le, nat_eq, List, map, Option, Some, None, is_some}
use Rattle.std.specs.List.{list_any, list_all}
use Rattle.indexmap.specs.IndexMap.{get, get_by}
use Rattle.dl_types.specs.declared.dlsn.Dlsn.{Dlsn}
use Rattle.dl_types.specs.declared.row.Row.{Row}
use Rattle.dl_types.specs.Places.{is_before, is_same}
use Rattle.dl_transcript.specs.Legal.{last_or, is_some_and, is_from, are_below}
use Rattle.dl_shown.specs.declared.rows.RecordKey.{RecordKey}
use Rattle.dl_shown.specs.declared.rows.RowsShown.{RowsShown}

-- a key of a table is this record
abbrev pub is_record : ℕ → ℕ → RecordKey → Bool
is_record c n key = c == key.client && n == key.call

-- where the row of a record stands
abbrev pub place_of : RowsShown → ℕ → ℕ → Option Dlsn
place_of t c n = get_by (is_record c n) t.places

-- the place stands above the last one, where there is one
abbrev pub is_above : Option Dlsn → Dlsn → Bool
is_above None d = true
is_above (Some top) d = is_before top d

-- a row may grow: above all rows, its id not below the last one, and once
abbrev pub may_grow : List Row → Dlsn → ℕ → ℕ → ℕ → Bool
may_grow rows d txid c n =
    list_all (λ r. is_before r.place d) rows && nat_le (last_or 0 (map (λ r. r.txid) rows)) txid && not (list_any (is_from c n) rows)

-- the row of a record stands at a place
abbrev pub is_at : List Row → ℕ → ℕ → Dlsn → Bool
is_at rows c n d = list_any (λ r. is_from c n r && is_same r.place d) rows

-- The table stands for these rows: it keeps them, what stands above all of them and above those of a segment, the id of the last
-- one, and where the row of each record stands.
pub record StandsFor (t : RowsShown) (rows : List Row) : Type 0 where
  pub kept : t.rows.items ≡ rows
  pub above : (d : Dlsn) → is_above t.top d ≡ list_all (λ r. is_before r.place d) rows
  pub last : t.last ≡ last_or 0 (map (λ r. r.txid) rows)
  pub below : (d : Dlsn) → is_above (get nat_eq t.tops d.segment) d ≡ are_below d rows
  pub grown : (c n : ℕ) → is_some (place_of t c n) ≡ list_any (is_from c n) rows
  pub stands : (c n : ℕ) (d : Dlsn) → is_some_and (λ p. is_same p d) (place_of t c n) ≡ is_at rows c n d

-- The table knows where this row stands, that it is the last one, and its id; it keeps the rows that it had.
pub record IsNoted (old new : RowsShown) (row : Row) : Type 0 where
  pub kept : new.rows ≡ old.rows
  pub top : new.top ≡ Some row.place
  pub last : new.last ≡ row.txid
  pub places : (c n : ℕ) → place_of new c n ≡ (if row.origin.client == c && row.origin.call == n then Some row.place else place_of old c n)
  pub tops : (k : ℕ) → get nat_eq new.tops k ≡ (if row.place.segment == k then Some row.place else get nat_eq old.tops k)

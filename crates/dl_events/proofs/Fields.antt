-- The fields of events are read exactly.
use Rattle.std.proofs.Common.{◌≡◌, ℕ, ◌<◌, List, ◌++◌, Err, refl, ap, ◌∙◌, append_assoc, arith, lit<, lit≤}
use Rattle.dl_types.specs.declared.dlsn.Dlsn.{Dlsn}
use Rattle.dl_types.specs.declared.read_row.ReadRow.{ReadRow}
use Rattle.dl_text.specs.Ends.{space, colon, line_feed}
use Rattle.dl_text.specs.Readers.{Exact}
use Rattle.dl_text.specs.Fields.{place_field}
use Rattle.dl_text.specs.Hex.{hex}
use Rattle.dl_text.specs.ListFields.{AreUpTo, list_field, list_at}
use Rattle.dl_text.specs.Numbers.{number, number_at, IsNoDigit, IsWithin, most_u32, most_u64}
use Rattle.dl_text.specs.PlaceFields.{IsPlaceFrom}
use Rattle.dl_text.proofs.ReaderLemmas.{then_exact, made_exact}
use Rattle.dl_text.proofs.HexLemmas.{hex_exact, hex_apart}
use Rattle.dl_text.proofs.ListLemmas.{list_exact}
use Rattle.dl_text.proofs.NumberLemmas.{number_exact}
use Rattle.dl_text.proofs.PlaceLemmas.{low_byte, place_exact}
use Rattle.dl_schedule.proofs.FieldExactness.{txid}
use Rattle.dl_transcript.specs.Lines.{slash, row_field}
use Rattle.dl_transcript.specs.Ranges.{IsSession, IsU32, IsU64, IsReadRow}
use Rattle.dl_transcript.specs.Reading.{session_at, u32_at, u64_at, any_place_at, row_at}

-- the number of a session is read exactly, to the end of the line
pub session : Exact IsSession (number line_feed) (session_at line_feed)
session = number_exact 1 most_u64 line_feed (record { low_high = lit≤ tt; low_small = lit≤ tt; high_fits = lit< tt; end_apart = low_byte line_feed (lit< tt) })

-- a number of 32 bits is read exactly
pub u32 : (end : ℕ) → end < 48 → Exact IsU32 (number end) (u32_at end)
u32 end low = number_exact 0 most_u32 end (record { low_high = lit≤ tt; low_small = lit≤ tt; high_fits = lit< tt; end_apart = low_byte end low })

-- a number of 64 bits is read exactly, to the end of the line
pub u64 : Exact IsU64 (number line_feed) (u64_at line_feed)
u64 = number_exact 0 most_u64 line_feed (record { low_high = lit≤ tt; low_small = lit≤ tt; high_fits = lit< tt; end_apart = low_byte line_feed (lit< tt) })

-- a colon is no digit
no_colon : IsNoDigit colon
no_colon c l h = λ e. omega (arith, e)

-- the number of a segment is read exactly, with the colon behind it
pub segment : Exact IsU64 (number colon) (u64_at colon)
segment = number_exact 0 most_u64 colon (record { low_high = lit≤ tt; low_small = lit≤ tt; high_fits = lit< tt; end_apart = no_colon })

-- a place of any segment is read exactly
pub any_place : (end : ℕ) → end < 48 → Exact (IsPlaceFrom 0) (place_field end) (any_place_at end)
any_place end low = place_exact 0 end (lit≤ tt) low

-- how many messages there are is read exactly, to the end of the line
pub count : Exact (IsWithin 1 most_u32) (number line_feed) (number_at 1 most_u32 line_feed)
count = number_exact 1 most_u32 line_feed (record { low_high = lit≤ tt; low_small = lit≤ tt; high_fits = lit< tt; end_apart = low_byte line_feed (lit< tt) })

-- a row is read exactly
row_exact : (end : ℕ) → end < 45 → Exact IsReadRow (row_field end) (row_at end)
row_exact end low = made_exact _ _ _ (λ (x : Dlsn × (ℕ × List ℕ)). record { place = x.0; txid = x.1.0; payload = x.1.1 }) IsReadRow (row_field end)
    (then_exact _ _ _ _ _ _ (any_place slash (lit< tt)) (λ d v. then_exact _ _ _ _ _ _ (txid slash (lit< tt)) (λ t u. hex_exact end low)))
    (λ x v. (v, refl)) (λ row w. ((row.place, (row.txid, row.payload)), w, refl))

-- a row that a line feed ends is none that a space ends
row_apart : (row : ReadRow) (rest : List ℕ) → IsReadRow row → (left : ℕ) × (row_at space (row_field line_feed row ++ rest) ≡ Err left)
row_apart row rest v =
    let w = hex_apart space line_feed row.payload rest (lit< tt) (λ e. omega (arith, e)) v.1.1 in (
      w.0,
      ap (row_at space) (parts row rest)
          ∙ rw ((any_place slash (lit< tt)).again row.place _ v.0, (txid slash (lit< tt)).again row.txid _ v.1.0, w.1) refl,
    )
  where
    parts : (row : ReadRow) (rest : List ℕ) → row_field line_feed row ++ rest
        ≡ place_field slash row.place ++ (number slash row.txid ++ (hex line_feed row.payload ++ rest))
    parts row rest = append_assoc (place_field slash row.place) _ rest ∙ ap (λ t. place_field slash row.place ++ t) (append_assoc
        (number slash row.txid) _ rest)

-- rows to the end of the line are read exactly
pub row_list : (more : ℕ) → Exact (AreUpTo IsReadRow more) (list_field row_field) (list_at row_at more)
row_list = list_exact IsReadRow row_field row_at (record {
  parted = row_exact space (lit< tt);
  last = row_exact line_feed (lit< tt);
  apart = row_apart;
})

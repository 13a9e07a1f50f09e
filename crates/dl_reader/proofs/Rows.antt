-- Rows that are gathered.
use Rattle.std.proofs.Common.{◌≡◌, ℕ, zero, suc, ◌-◌, ◌<◌, Bool, true, false, cond, List, [], ◌∷◌, ◌++◌, length, map, take, filter, get_or}
use Rattle.std.proofs.Common.{Result, Ok, Err, refl, sym, ap, ◌∙◌, subst, arith}
use Rattle.dl_types.specs.declared.read_row.ReadRow.{ReadRow}
use Rattle.dl_types.specs.Places.{after_place}
use Rattle.dl_record.specs.declared.entry_flaw.EntryFlaw.{EntryFlaw}
use Rattle.dl_record.specs.declared.stored.Stored.{Stored}
use Rattle.dl_record.specs.Rows.{rows_read}
use Rattle.dl_record.specs.UserRows.{RowOf}
use Rattle.dl_formats.specs.NodeBytes.{max_u64}
use Rattle.dl_rules_stream.specs.Seeks.{Position}
use Rattle.dl_rules_stream.specs.LogReaders.{behind, rows_in}
use Rattle.dl_reader.specs.Low.{AreLow}
use Rattle.dl_reader.specs.Readings.{row_at}

-- rows behind others
pub low_append : (a b : List ReadRow) → AreLow a → AreLow b → AreLow (a ++ b)
low_append [] b la lb = lb
low_append (x ∷ a) b la lb = (la.0, low_append a b la.1 lb)

-- the first of them
pub low_take : (n : ℕ) (a : List ReadRow) → AreLow a → AreLow (take n a)
low_take zero a la = tt
low_take (suc n) [] la = tt
low_take (suc n) (x ∷ a) la = (la.0, low_take n a la.1)

-- those that pass a test
low_filter : (p : ReadRow → Bool) (a : List ReadRow) → AreLow a → AreLow (filter p a)
low_filter p [] la = tt
low_filter p (x ∷ a) la =
    elim (p x) as (λ v. AreLow (cond v (x ∷ filter p a) (filter p a))) [ true ↦ (la.0, low_filter p a la.1) | false ↦ low_filter p a la.1 ]

-- the rows of an entry that isn't the greatest
low_entry : (segment entry : ℕ) (us : List RowOf) → entry < max_u64 → AreLow (map (row_at segment entry) us)
low_entry segment entry [] h = tt
low_entry segment entry (u ∷ us) h = (h, low_entry segment entry us h)

-- the rows of what is read as an entry
pub rows_in_is : (segment entry : ℕ) (read : Result (List Stored) EntryFlaw) → map (row_at segment entry) (rows_read read) ≡ rows_in segment entry read
rows_in_is segment entry (Ok parts) = refl
rows_in_is segment entry (Err flaw) = refl

-- the rows of an entry are low
pub low_wanted : (segment entry : ℕ) (p : ReadRow → Bool) (read : Result (List Stored) EntryFlaw) → entry < max_u64
    → AreLow (filter p (rows_in segment entry read))
low_wanted segment entry p read h = low_filter p _ (subst AreLow (rows_in_is segment entry read) (low_entry segment entry (rows_read read) h))

-- the last row behind another one
last_behind : (x y : ReadRow) (rows : List ReadRow) (d : ReadRow)
    → get_or (x ∷ y ∷ rows) (length (x ∷ y ∷ rows) - 1) d ≡ get_or (y ∷ rows) (length (y ∷ rows) - 1) d
last_behind x y rows d = let e : length (x ∷ y ∷ rows) - 1 ≡ suc (length (y ∷ rows) - 1) = omega arith in ap (λ i. get_or (x ∷ y ∷ rows) i d) e

-- the position is that behind the last row
pub behind_last : (p : Position) (rows : List ReadRow) (d : ReadRow) → 0 < length rows
    → behind p rows ≡ record p { cursor = after_place (get_or rows (length rows - 1) d).place }
behind_last p [] d h = absurd (omega arith)
behind_last p (x ∷ []) d h = refl
behind_last p (x ∷ y ∷ rows) d h =
    behind_last p (y ∷ rows) d (omega arith) ∙ sym (ap (λ (row : ReadRow). record p { cursor = after_place row.place }) (last_behind x y rows d))

-- the last of low rows is low
pub low_last : (rows : List ReadRow) (d : ReadRow) → AreLow rows → 0 < length rows → (get_or rows (length rows - 1) d).place.entry < max_u64
low_last [] d low h = absurd (omega arith)
low_last (x ∷ []) d low h = low.0
low_last (x ∷ y ∷ rows) d low h =
    subst (λ (row : ReadRow). row.place.entry < max_u64) (sym (last_behind x y rows d)) (low_last (y ∷ rows) d low.1 (omega arith))

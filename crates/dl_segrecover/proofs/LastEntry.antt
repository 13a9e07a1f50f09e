-- What the last entry of a segment tells.
use Rattle.std.proofs.Common.{◌≡◌, ℕ, ◌+◌, ◌-◌, List, [], ◌∷◌, length, Some, refl, sym, ap, ◌∙◌}
use Rattle.std.specs.List.{slice_get}
use Rattle.std.proofs.Math.Numerals.{sub-one}
use Rattle.dl_record.specs.declared.stored.Stored.{Stored}
use Rattle.dl_record.specs.Stored.{position_of, rows_in, txid_of}
use Rattle.dl_record.specs.Building.{last_of}
use Rattle.dl_record.specs.Grammar.{IsEntry, entry_bytes}
use Rattle.dl_record.specs.Reading.{entry_at}
use Rattle.dl_record.proofs.Entries.{entry_again}
use Rattle.dl_rules_stream.specs.SegmentRecoveries.{end_by, end_in}

-- the last record stands behind all others
last_at : (r : Stored) (rs : List Stored) → slice_get (r ∷ rs) (length rs) ≡ last_of (r ∷ rs)
last_at r [] = refl
last_at r (s ∷ rs) = last_at s rs

-- it is at the last place
last_is : (rs : List Stored) → slice_get rs (length rs - 1) ≡ last_of rs
last_is [] = refl
last_is (r ∷ rs) = rw sub-one (last_at r rs)

-- it tells the segment's end
pub end_of_last : (rs : List Stored) (r : Stored) → Some r ≡ slice_get rs (length rs - 1)
    → (position_of r + rows_in r, txid_of r) ≡ end_by (last_of rs)
end_of_last rs r e = ap end_by (e ∙ last_is rs)

-- the records of an entry that was read tell what its bytes tell
pub end_read : (bytes : List ℕ) (rs read : List Stored) → IsEntry rs → bytes ≡ entry_bytes rs → read ≡ rs
    → end_by (last_of read) ≡ end_in (entry_at bytes)
end_read bytes rs read is spelt same =
    ap (λ (xs : List Stored). end_by (last_of xs)) same ∙ ap end_in (sym (ap entry_at spelt ∙ entry_again rs is))

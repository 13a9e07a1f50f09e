-- Places are read exactly.
use Rattle.std.proofs.Common.{◌≡◌, ℕ, ◌≤◌, ◌<◌, List, refl, arith, lit<, lit≤}
use Rattle.dl_types.specs.declared.dlsn.Dlsn.{Dlsn}
use Rattle.dl_types.specs.Places.{place}
use Rattle.dl_text.specs.Ends.{colon}
use Rattle.dl_text.specs.Readers.{Exact}
use Rattle.dl_text.specs.Fields.{place_field}
use Rattle.dl_text.specs.Numbers.{number, number_at, IsNoDigit, IsWithin, IsRange, most_u32, most_u64}
use Rattle.dl_text.specs.PlaceFields.{IsPlaceFrom, place_at}
use Rattle.dl_text.proofs.ReaderLemmas.{then_exact, made_exact}
use Rattle.dl_text.proofs.NumberLemmas.{number_exact}

-- a colon is no digit
no_colon : IsNoDigit colon
no_colon c l h = λ e. omega (arith, e)

-- an end below 48 is no digit
pub low_byte : (end : ℕ) → end < 48 → IsNoDigit end
low_byte end low c l h = λ e. omega (arith, e)

-- a number of 64 bits before a colon, from 0 or from 1 on, is read exactly
segment : (low : ℕ) → low ≤ 1 → Exact (IsWithin low most_u64) (number colon) (number_at low most_u64 colon)
segment low small = number_exact low most_u64 colon (record { low_high = omega (arith, small); low_small = small; high_fits = lit< tt; end_apart = no_colon })

-- a number of 32 bits is read exactly
slot : (end : ℕ) → end < 48 → Exact (IsWithin 0 most_u32) (number end) (number_at 0 most_u32 end)
slot end low = number_exact 0 most_u32 end (record { low_high = lit≤ tt; low_small = lit≤ tt; high_fits = lit< tt; end_apart = low_byte end low })

-- A place is read exactly.
pub place_exact : (low end : ℕ) → low ≤ 1 → end < 48 → Exact (IsPlaceFrom low) (place_field end) (place_at low end)
place_exact low end small apart = made_exact _ _ _ (λ x. place x.0 x.1.0 x.1.1) (IsPlaceFrom low) (place_field end)
    (then_exact _ _ _ _ _ _ (segment low small) (λ s v. then_exact _ _ _ _ _ _ (segment 0 (lit≤ tt)) (λ e w. slot end apart)))
    (λ x v. (v, refl)) from
  where
    from : (d : Dlsn) → IsPlaceFrom low d → (x : ℕ × (ℕ × ℕ)) × (IsWithin low most_u64 x.0 × (IsWithin 0 most_u64 x.1.0 × IsWithin 0 most_u32 x.1.1))
        × (place x.0 x.1.0 x.1.1 ≡ d)
    from d w = ((d.segment, (d.entry, d.slot)), w, refl)

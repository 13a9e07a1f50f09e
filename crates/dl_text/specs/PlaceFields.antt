-- Places as fields of lines: segment:entry:slot, with the byte that ends them; the spelling is `place_field`.
use Rattle.std.specs.Prelude.{ℕ, List, Result}
use Rattle.dl_types.specs.declared.dlsn.Dlsn.{Dlsn}
use Rattle.dl_types.specs.Places.{place}
use Rattle.dl_text.specs.Ends.{colon}
use Rattle.dl_text.specs.Readers.{then_at, map_at}
use Rattle.dl_text.specs.Numbers.{number_at, IsWithin, most_u32, most_u64}

-- a place whose segment is at least this one, with numbers that fit
abbrev pub IsPlaceFrom : ℕ → Dlsn → Type 0
IsPlaceFrom low d = IsWithin low most_u64 d.segment × (IsWithin 0 most_u64 d.entry × IsWithin 0 most_u32 d.slot)

-- a place whose segment is at least this one, and the byte that ends it
abbrev pub place_at : (low end : ℕ) → List ℕ → Result (Dlsn × List ℕ) ℕ
place_at low end =
    map_at (λ (segment, (entry, slot)). place segment entry slot)
    (then_at (number_at low most_u64 colon) (λ segment. then_at (number_at 0 most_u64 colon) (λ entry. number_at 0 most_u32 end)))

-- Numbers of lines: decimal, without leading zeros, with the byte that ends them.
use Rattle.std.specs.Prelude.{◌≢◌, ℕ, ◌+◌, ◌*◌, ◌-◌, ◌^◌, ◌≤◌, ◌<◌, not, ◌&&◌, List, [], ◌∷◌, ◌++◌, length, Result, Ok, Err, nat_le, ◌==◌, if◌then◌else◌}
use Rattle.std.specs.Fmt.{decimal}

-- the greatest numbers of 32 and of 64 bits
abbrev pub most_u32 : ℕ
most_u32 = 4294967295

-- the greatest number of 64 bits
abbrev pub most_u64 : ℕ
most_u64 = 18446744073709551615

-- the one spelling of a number, and the byte that ends it
abbrev pub number : ℕ → ℕ → List ℕ
number end n = decimal n ++ end ∷ []

-- a number lies from low to high
abbrev pub IsWithin : ℕ → ℕ → ℕ → Type 0
IsWithin low high n = (low ≤ n) × (n ≤ high)

-- a byte is none of 0 to 9
abbrev pub IsNoDigit : ℕ → Type 0
IsNoDigit end = (c : ℕ) → 48 ≤ c → c ≤ 57 → c ≢ end

-- What a number field may be: its range is not empty, begins with 0 or 1 and fits 64 bits, and no digit ends it.
pub record IsRange (low high end : ℕ) : Type 0 where
  pub low_high : low ≤ high
  pub low_small : low ≤ 1
  pub high_fits : high < 2 ^ 64
  pub end_apart : IsNoDigit end

-- more digits of a number of at most high, of which the digits before make value, and the byte that ends it
abbrev pub digits_at : (high end value : ℕ) → List ℕ → Result (ℕ × List ℕ) ℕ
digits_at high end value [] = Err 0
digits_at high end value (c ∷ cs) =
    if c == end then Ok (value, cs)
    else if nat_le 48 c && nat_le c 57 && not (value == 0) && nat_le (value * 10 + (c - 48)) high then digits_at high end (value * 10 + (c - 48)) cs
    else Err (1 + length cs)

-- a number from low to high, and the byte that ends it
abbrev pub number_at : (low high end : ℕ) → List ℕ → Result (ℕ × List ℕ) ℕ
number_at low high end [] = Err 0
number_at low high end (c ∷ cs) =
    if nat_le (48 + low) c && nat_le c 57 && nat_le (c - 48) high then digits_at high end (c - 48) cs
    else Err (1 + length cs)

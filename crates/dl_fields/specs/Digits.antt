-- Numbers in decimal digits, with zeros before them.
use Rattle.std.specs.Prelude.{ℕ, zero, suc, ◌+◌, ◌/◌, ◌%◌, ◌^◌, ◌<◌, List, [], ◌∷◌, ◌++◌}

-- the last digits of a number, so many
abbrev pub digits : ℕ → ℕ → List ℕ
digits zero k = []
digits (suc n) k = digits n (k / 10) ++ (48 + k % 10) ∷ []

-- ten digits spell the whole number
abbrev pub HasTenDigits : ℕ → Type 0
HasTenDigits k = k < 10 ^ 10

-- The opening lines, byte for byte.
use Rattle.std.proofs.Common.{◌≡◌, [], ◌∷◌, refl, lit<}
use Rattle.std.specs.Fmt.{decimal}
use Rattle.std.proofs.lemmas.Fmt.{decimal_digit}
use Rattle.dl_schedule.specs.declared.opening.Opening.TheVariants as opening
use Rattle.dl_schedule.specs.EarlyLines.{opening_text}

-- 0 is spelt by one digit
zero_text : decimal 0 ≡ 48 ∷ []
zero_text = decimal_digit 0 (lit< tt)

-- 2 is spelt by one digit
two_text : decimal 2 ≡ 50 ∷ []
two_text = decimal_digit 2 (lit< tt)

-- 3 is spelt by one digit
three_text : decimal 3 ≡ 51 ∷ []
three_text = decimal_digit 3 (lit< tt)

-- setup 3 3 3 2
pub setup_line : 115 ∷ 101 ∷ 116 ∷ 117 ∷ 112 ∷ 32 ∷ 51 ∷ 32 ∷ 51 ∷ 32 ∷ 51 ∷ 32 ∷ 50 ∷ 10 ∷ [] ≡ opening_text opening.Setup
setup_line = rw (three_text, two_text) refl

-- join 0
pub join_line : 106 ∷ 111 ∷ 105 ∷ 110 ∷ 32 ∷ 48 ∷ 10 ∷ [] ≡ opening_text opening.Join
join_line = rw zero_text refl

-- create 0 s
pub create_line : 99 ∷ 114 ∷ 101 ∷ 97 ∷ 116 ∷ 101 ∷ 32 ∷ 48 ∷ 32 ∷ 115 ∷ 10 ∷ [] ≡ opening_text opening.Create
create_line = rw zero_text refl

-- open 0 s
pub open_line : 111 ∷ 112 ∷ 101 ∷ 110 ∷ 32 ∷ 48 ∷ 32 ∷ 115 ∷ 10 ∷ [] ≡ opening_text opening.Open
open_line = rw zero_text refl

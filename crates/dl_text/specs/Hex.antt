-- Bytes of lines: `-` for none, else pairs of lower-case hex digits, with the byte that ends them.
use Rattle.std.specs.Prelude.{◌≡◌, ℕ, ◌+◌, ◌*◌, ◌-◌, ◌/◌, ◌%◌, ◌<◌, ◌≤◌, Bool, true, false, ◌&&◌, ◌||◌, List, []}
use Rattle.std.specs.Prelude.{◌∷◌, ◌++◌, length, take, drop, Result, Ok, Err, nat_le, ◌==◌, if◌then◌else◌}
use Rattle.std.specs.List.{list_all}
use Rattle.dl_text.specs.Readers.{◌>>=◌}

-- a byte is one of 0 to 9 and a to f
abbrev pub is_hex : ℕ → Bool
is_hex c = (nat_le 48 c && nat_le c 57) || (nat_le 97 c && nat_le c 102)

-- the value of a hex digit
abbrev pub hex_value : ℕ → ℕ
hex_value c = if nat_le c 57 then c - 48 else c - 87

-- the hex digit of a value below 16
abbrev pub hex_char : ℕ → ℕ
hex_char d = if nat_le d 9 then 48 + d else 87 + d

-- two hex digits a byte
abbrev pub pairs : List ℕ → List ℕ
pairs [] = []
pairs (b ∷ bs) = hex_char (b / 16) ∷ hex_char (b % 16) ∷ pairs bs

-- the one spelling of bytes, and the byte that ends it
abbrev pub hex : ℕ → List ℕ → List ℕ
hex end [] = 45 ∷ end ∷ []
hex end (b ∷ bs) = pairs (b ∷ bs) ++ end ∷ []

-- each number of a list is a byte
abbrev pub AllBytes : List ℕ → Type 0
AllBytes [] = Unit {0}
AllBytes (b ∷ bs) = (b < 256) × AllBytes bs

-- any number of pairs of hex digits, and the byte that ends them
abbrev pub pairs_at : (end : ℕ) → List ℕ → Result (List ℕ × List ℕ) ℕ
pairs_at end [] = Err 0
pairs_at end (c ∷ []) = if is_hex c then Err 0 else if c == end then Ok ([], []) else Err 1
pairs_at end (c ∷ d ∷ ds) =
    if is_hex c then (if is_hex d then (pairs_at end ds >>= λ x. Ok ((hex_value c * 16 + hex_value d) ∷ x.0, x.1)) else Err (1 + length ds))
    else if c == end then Ok ([], d ∷ ds)
    else Err (1 + length (d ∷ ds))

-- no bytes, and the byte that ends them
abbrev pub end_at : (end : ℕ) → List ℕ → Result (List ℕ × List ℕ) ℕ
end_at end [] = Err 0
end_at end (d ∷ ds) = if d == end then Ok ([], ds) else Err (1 + length ds)

-- bytes, and the byte that ends them
abbrev pub hex_at : (end : ℕ) → List ℕ → Result (List ℕ × List ℕ) ℕ
hex_at end [] = Err 0
hex_at end (c ∷ cs) = if c == 45 then end_at end cs else if is_hex c then pairs_at end (c ∷ cs) else Err (1 + length cs)

-- the bytes that pairs of hex digits spell
abbrev pub bytes_of : List ℕ → List ℕ
bytes_of [] = []
bytes_of (c ∷ []) = []
bytes_of (c ∷ d ∷ ds) = (hex_value c * 16 + hex_value d) ∷ bytes_of ds

-- a hex digit stands at the front
abbrev pub begins_digit : List ℕ → Bool
begins_digit [] = false
begins_digit (c ∷ cs) = is_hex c

-- so many hex digits stand at the front of the bytes, and no more
pub record IsDigitCount (bytes : List ℕ) (count : ℕ) : Type 0 where
  pub within : count ≤ length bytes
  pub all : list_all is_hex (take count bytes) ≡ true
  pub no_more : begins_digit (drop count bytes) ≡ false

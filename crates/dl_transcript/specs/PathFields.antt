-- Paths as fields of lines, with the byte that ends them; the spelling is `bytes_field`.
use Rattle.std.specs.Prelude.{ℕ, ◌+◌, ◌-◌, Bool, true, false, ◌&&◌, ◌||◌, nat_lt, ◌==◌, if◌then◌else◌, List, [], ◌∷◌, length, Result, Ok, Err}
use Rattle.dl_fields.specs.Paths.{is_part_byte, max_part}
use Rattle.dl_text.specs.Readers.{◌>>=◌}

-- the byte in front of each part of a path
abbrev pub separator : ℕ
separator = 47

-- the most bytes of a path: its length fits 16 bits
abbrev pub max_path : ℕ
max_path = 65535

-- At most so many more bytes of a path, and the byte that ends it, behind so many bytes of a part. It may end behind a
-- part, or as the root's path, which is a separator alone; a separator has room for a part behind it.
abbrev pub parts_at : (end room part : ℕ) → (root : Bool) → List ℕ → Result (List ℕ × List ℕ) ℕ
parts_at end room part root [] = Err 0
parts_at end room part root (c ∷ cs) =
    if c == end && (root || nat_lt 0 part) then Ok ([], cs)
    else if c == separator && nat_lt 0 part && nat_lt 1 room then (parts_at end (room - 1) 0 false cs >>= λ x. Ok (c ∷ x.0, x.1))
    else if is_part_byte c && nat_lt part max_part && nat_lt 0 room then (parts_at end (room - 1) (part + 1) false cs >>= λ x. Ok (c ∷ x.0, x.1))
    else Err (1 + length cs)

-- a path, and the byte that ends it
abbrev pub path_at : (end : ℕ) → List ℕ → Result (List ℕ × List ℕ) ℕ
path_at end [] = Err 0
path_at end (c ∷ cs) = if c == separator then (parts_at end (max_path - 1) 0 true cs >>= λ x. Ok (c ∷ x.0, x.1)) else Err (1 + length cs)

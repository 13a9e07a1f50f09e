-- Names of streams as fields of lines, with the byte that ends them; the spelling is `bytes_field`.
use Rattle.std.specs.Prelude.{◌≡◌, ℕ, ◌+◌, ◌-◌, ◌&&◌, List, [], ◌∷◌, length, None, Result, Ok, Err, nat_lt, ◌==◌, if◌then◌else◌}
use Rattle.dl_types.specs.declared.name.TheConstants.{MAX_NAME}
use Rattle.dl_types.specs.Names.{name_fault, is_letter, is_name_byte}
use Rattle.dl_text.specs.Readers.{◌>>=◌}

-- bytes that are a name
abbrev pub IsName : List ℕ → Type 0
IsName name = name_fault name ≡ None

-- at most so many bytes of a name, and the byte that ends it
abbrev pub name_bytes_at : (end room : ℕ) → List ℕ → Result (List ℕ × List ℕ) ℕ
name_bytes_at end room [] = Err 0
name_bytes_at end room (c ∷ cs) =
    if c == end then Ok ([], cs)
    else if is_name_byte c && nat_lt 0 room then (name_bytes_at end (room - 1) cs >>= λ x. Ok (c ∷ x.0, x.1))
    else Err (1 + length cs)

-- a name, and the byte that ends it: a letter first, and at most MAX_NAME bytes
abbrev pub name_at : (end : ℕ) → List ℕ → Result (List ℕ × List ℕ) ℕ
name_at end [] = Err 0
name_at end (c ∷ cs) = if is_letter c then name_bytes_at end MAX_NAME (c ∷ cs) else Err (1 + length cs)

-- Names of streams: 1 to MAX_NAME bytes of a to z, 0 to 9, _ and -, the first a letter.
use Rattle.dl_types.specs.declared.name.TheConstants.{MAX_NAME}
use Rattle.std.specs.Prelude.{ℕ, ◌+◌, Option, Some, None, Bool, ◌&&◌, ◌||◌, List, [], ◌∷◌, nat_le, ◌==◌, if◌then◌else◌}

-- a to z
abbrev pub is_letter : ℕ → Bool
is_letter c = nat_le 97 c && nat_le c 122

-- a byte of a name
abbrev pub is_name_byte : ℕ → Bool
is_name_byte c = is_letter c || (nat_le 48 c && nat_le c 57) || c == 95 || c == 45

-- the place of the first byte, from this place on, that is none of a name; a byte past the most is none
abbrev pub bad_from : ℕ → List ℕ → Option ℕ
bad_from at [] = None
bad_from at (c ∷ cs) = if nat_le MAX_NAME at then Some MAX_NAME else if is_name_byte c then bad_from (at + 1) cs else Some at

-- the place of the first byte that breaks the form of a name
abbrev pub name_fault : List ℕ → Option ℕ
name_fault [] = Some 0
name_fault (c ∷ cs) = if is_letter c then bad_from 0 (c ∷ cs) else Some 0

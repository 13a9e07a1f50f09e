-- The form of paths and of the names in them.
use Rattle.std.specs.Prelude.{◌≡◌, ℕ, suc, ◌<◌, ◌≤◌, nat_le, nat_lt, Bool, true, not, ◌==◌, ◌&&◌, ◌||◌}
use Rattle.std.specs.Prelude.{if◌then◌else◌, List, [], ◌∷◌, length, Option, Some, None, Result}
use Rattle.std.specs.List.{flat_map, AllByRecursion, suffix_len}
use Rattle.std.specs.Int.{w16}
use Rattle.dl_fields.specs.declared.fault.Fault.{Fault}
use Rattle.dl_fields.specs.Readers.{with_test, without_flaw}
use Rattle.dl_fields.specs.Fields.{counted_field_from}

-- the most bytes of a part of a path
abbrev pub max_part : ℕ
max_part = 80

-- the most bytes of the last part of a path to which ten digits may be added
abbrev pub max_stem_part : ℕ
max_stem_part = 70

-- the most bytes of a path to which ten digits may be added: with them it fits its length of 16 bits
abbrev pub max_stem : ℕ
max_stem = 65525

-- a byte of a part: a letter, a digit, `_` or `-`
abbrev pub is_part_byte : ℕ → Bool
is_part_byte c = (nat_le 97 c && nat_le c 122) || (nat_le 65 c && nat_le c 90) || (nat_le 48 c && nat_le c 57) || c == 95 || c == 45

-- A part of a path: 1 to 80 bytes.
pub record IsPart (part : List ℕ) : Type 0 where
  pub some : 0 < length part
  pub few : length part ≤ max_part
  pub bytes : AllByRecursion (λ c. is_part_byte c ≡ true) part

-- each part behind a `/`
abbrev pub with_slashes : List (List ℕ) → List ℕ
with_slashes parts = flat_map (λ part. 47 ∷ part) parts

-- the path of these parts; without one it is the root's, `/`
abbrev pub path_of_parts : List (List ℕ) → List ℕ
path_of_parts [] = 47 ∷ []
path_of_parts (part ∷ parts) = with_slashes (part ∷ parts)

-- a path: the root's, or parts
abbrev pub IsPath : List ℕ → Type 0
IsPath path = (parts : List (List ℕ)) × AllByRecursion IsPart parts × (path ≡ path_of_parts parts)

-- how many bytes are left at the first one that breaks the form, where one does, behind so many bytes of a part; a `/`
-- that ends the path breaks it
abbrev pub flaw_behind : ℕ → List ℕ → Option ℕ
flaw_behind n [] = if n == 0 then Some 1 else None
flaw_behind n (c ∷ cs) =
    if c == 47 then (if n == 0 then Some (suc (length cs)) else flaw_behind 0 cs)
    else (if is_part_byte c && nat_lt n max_part then flaw_behind (suc n) cs else Some (suc (length cs)))

-- the same of a whole path that is not empty
abbrev pub path_flaw : List ℕ → Option ℕ
path_flaw [] = None
path_flaw (c ∷ cs) = if not (c == 47) then Some (suc (length cs)) else (if length cs == 0 then None else flaw_behind 0 cs)

-- the same of a part that is not empty, behind so many of its bytes
abbrev pub part_flaw : ℕ → List ℕ → Option ℕ
part_flaw n [] = None
part_flaw n (c ∷ cs) = if is_part_byte c && nat_lt n max_part then part_flaw (suc n) cs else Some (suc (length cs))

-- bytes behind their length, at least one
abbrev pub some_from : List ℕ → Result (List ℕ × List ℕ) Fault
some_from = with_test (λ run. not (length run == 0)) (counted_field_from w16)

-- a path behind its length
abbrev pub path_from : List ℕ → Result (List ℕ × List ℕ) Fault
path_from = without_flaw path_flaw some_from

-- a name of a listing behind its length
abbrev pub name_from : List ℕ → Result (List ℕ × List ℕ) Fault
name_from = without_flaw (part_flaw 0) some_from

-- a part has no slash
abbrev pub NoSlash : List ℕ → Type 0
NoSlash [] = Unit {0}
NoSlash (c ∷ cs) = (c ≡ 47 → ⊥) × NoSlash cs

-- how many bytes the last part has
abbrev pub last_length : List ℕ → ℕ
last_length path = suffix_len (λ c. not (c == 47)) path

-- a path to which ten digits may be added: its last part has at most 70 bytes, and the path at most 65,525
abbrev pub is_stem : List ℕ → Bool
is_stem path = nat_le (last_length path) max_stem_part && nat_le (length path) max_stem

-- such a path behind its length; another one is bad at the first byte of its length
abbrev pub stem_from : List ℕ → Result (List ℕ × List ℕ) Fault
stem_from = with_test is_stem path_from

-- the paths and the names that have a spelling: their length fits 16 bits
abbrev pub IsPathField : List ℕ → Type 0
IsPathField path = IsPath path × (length path < 65536)

-- the paths to which ten digits may be added, and that have a spelling
abbrev pub IsStemField : List ℕ → Type 0
IsStemField path = IsPathField path × (is_stem path ≡ true)

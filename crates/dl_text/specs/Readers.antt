-- Readers of fields: a reader takes one field off the front of a text, or says how many bytes are left at the first
-- byte at which no such field goes on.
use Rattle.std.specs.Prelude.{◌≡◌, ℕ, ◌+◌, ◌≤◌, List, [], ◌∷◌, ◌++◌, length, Option, Some, None, Result, Ok, Err, ◌==◌, if◌then◌else◌}
pub use Rattle.dl_text.specs.Readings.{◌>>=◌, then_at, map_at, GivesBy}
use Rattle.dl_text.specs.declared.stop.Stop.{Stop}
use Rattle.dl_text.specs.declared.stop.Stop.TheVariants.{NoMemory, Left}

-- how many first bytes two texts share
abbrev pub shared_length : List ℕ → List ℕ → ℕ
shared_length [] ys = 0
shared_length (x ∷ xs) [] = 0
shared_length (x ∷ xs) (y ∷ ys) = if x == y then 1 + shared_length xs ys else 0

-- a field behind which nothing is left
abbrev pub whole_field : {A : Type 0} → A × List ℕ → Result A ℕ
whole_field x = if length x.1 == 0 then Ok x.0 else Err (length x.1)

-- a field that is the whole text
abbrev pub whole_at : {A : Type 0} → (List ℕ → Result (A × List ℕ) ℕ) → List ℕ → Result A ℕ
whole_at read bytes = read bytes >>= whole_field

-- where a reading stops; want of memory says nothing of it
abbrev pub place_of : Stop → Option ℕ
place_of NoMemory = None
place_of (Left left) = Some left

-- what a function returned, seen by view, is what the reading gives, unless memory ran out
abbrev pub Gives : {X Y : Type 0} → (X → Y) → Result X Stop → Result Y ℕ → Type 0
Gives = GivesBy place_of

-- A reader is exact for the values that are valid and their spelling: what it reads is valid and spelt so; what is
-- valid and spelt so is read, whatever follows; and where it stops, the spelling of some valid value shares all bytes
-- before that place with the text, and none shares more.
pub record Exact {A : Type 0} (Valid : A → Type 0) (print : A → List ℕ) (read : List ℕ → Result (A × List ℕ) ℕ) : Type 0 where
  pub found : (bytes : List ℕ) (a : A) (rest : List ℕ) → read bytes ≡ Ok (a, rest) → Valid a × (bytes ≡ print a ++ rest)
  pub again : (a : A) (rest : List ℕ) → Valid a → read (print a ++ rest) ≡ Ok (a, rest)
  pub near : (bytes : List ℕ) (left : ℕ) → read bytes ≡ Err left → (a : A) × Valid a × (shared_length bytes (print a) + left ≡ length bytes)
  pub far : (bytes : List ℕ) (left : ℕ) → read bytes ≡ Err left → (a : A) → Valid a → shared_length bytes (print a) + left ≤ length bytes

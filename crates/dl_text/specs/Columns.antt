-- Where a text stops to be one of the grammar.
use Rattle.std.specs.Prelude.{◌≡◌, ℕ, ◌+◌, ◌-◌, ◌<◌, List, [], ◌∷◌, ◌++◌, length, Result, Ok, Err}
use Rattle.dl_text.specs.Readers.{shared_length}

-- up to the column, counted from 1, some valid text goes on as the bytes do, and none goes on further
pub record IsColumn {A : Type 0} (Valid : A → Type 0) (print : A → List ℕ) (bytes : List ℕ) (column : ℕ) : Type 0 where
  pub goes_on : (a : A) × Valid a × (shared_length bytes (print a) + 1 ≡ column)
  pub no_further : (a : A) → Valid a → shared_length bytes (print a) < column

-- some valid text begins with these bytes
abbrev pub Begins : {A : Type 0} → (A → Type 0) → (A → List ℕ) → List ℕ → Type 0
Begins {A} Valid print front = (a : A) × Valid a × (more : List ℕ) × (print a ≡ front ++ more)

-- The column, from 1, is the place of the first byte at which no valid text goes on, or one past the last byte.
pub record StopsAt {A : Type 0} (Valid : A → Type 0) (print : A → List ℕ) (bytes : List ℕ) (column : ℕ) : Type 0 where
  pub front : List ℕ
  pub rest : List ℕ
  pub parts : bytes ≡ front ++ rest
  pub place : length front + 1 ≡ column
  pub goes_on : Begins Valid print front
  pub stops : (b : ℕ) (more : List ℕ) → rest ≡ b ∷ more → Begins Valid print (front ++ b ∷ []) → ⊥

-- a reading of the whole text, with the column where it stops in place of the number of bytes that are left
abbrev pub column_of : {A : Type 0} → List ℕ → Result A ℕ → Result A ℕ
column_of bytes (Ok a) = Ok a
column_of bytes (Err left) = Err (length bytes - left + 1)

-- a text is the spelling of a valid value, which it gives, or it stops to be one at the column
abbrev pub ReadsWhole : {A : Type 0} → (A → Type 0) → (A → List ℕ) → List ℕ → Result A ℕ → Type 0
ReadsWhole Valid print bytes (Ok a) = Valid a × (bytes ≡ print a)
ReadsWhole Valid print bytes (Err column) = StopsAt Valid print bytes column

-- Sets of ensemble places.
use Rattle.std.specs.Prelude.{◌≡◌, ℕ, ◌<◌, Bool, ◌==◌, List, length, slice_index}
use Rattle.std.specs.Int.{bit_at}

-- whether a place is in a set: its bit is set
abbrev pub holds : ℕ → ℕ → Bool
holds set place = bit_at set place == 1

-- the bookie stands at the place of an ensemble
pub record IsPlaceOf (members : List ℕ) (bookie place : ℕ) : Type 0 where
  pub within : place < length members
  pub stands : slice_index members place ≡ bookie

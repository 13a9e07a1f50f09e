-- The first of places whose letter waits.
use Rattle.std.specs.Prelude.{◌≡◌, ℕ, ◌<◌, ◌≤◌, min, Bool, true, false, if◌then◌else◌, List, [], ◌∷◌, length, Option, Some, None, slice_index, slice_index_or}

-- the first of these places whose letter was never delivered
abbrev pub first_waiting : List Bool → List ℕ → Option ℕ
first_waiting delivered [] = None
first_waiting delivered (place ∷ places) = if slice_index_or delivered place false then first_waiting delivered places else Some place

-- the earlier of two places that there may be
abbrev pub earlier : Option ℕ → Option ℕ → Option ℕ
earlier None other = other
earlier (Some place) None = Some place
earlier (Some place) (Some other) = Some (min place other)

-- The letters at so many first places were delivered.
pub record AreGone (delivered : List Bool) (places : List ℕ) (gone : ℕ) : Type 0 where
  pub within : gone ≤ length places
  pub each : (k : ℕ) → k < gone → slice_index_or delivered (slice_index places k) false ≡ true

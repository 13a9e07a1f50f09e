-- The sets of places that a writer keeps for the entries of its window.
use Rattle.std.specs.Prelude.{◌≡◌, ℕ, ◌<◌, Bool, ◌||◌, List, length, slice_index}
use Rattle.dl_quorum.specs.Places.{holds}

-- of the places below a bound, each set has gained those that a test on its index and the place passes
pub record Gains (bound : ℕ) (test : ℕ → ℕ → Bool) (old new : List ℕ) : Type 0 where
  pub size : length new ≡ length old
  pub places : (i place : ℕ) → i < length old → place < bound
      → holds (slice_index new i) place ≡ (test i place || holds (slice_index old i) place)

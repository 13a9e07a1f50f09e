-- Lists in rising order, and two lists side by side.
use Rattle.std.specs.Prelude.{ℕ, ◌<◌, ◌≤◌, List, [], ◌∷◌}
use Rattle.dl_session.specs.Sessions.{Live}

-- the numbers rise, from above the low bound to at most the high one
abbrev pub Rises : ℕ → ℕ → List ℕ → Type 0
Rises low high [] = low ≤ high
Rises low high (x ∷ xs) = (low < x) × Rises x high xs

-- sessions beside their numbers
abbrev pub beside : List ℕ → List ℕ → List Live
beside [] numbers = []
beside (x ∷ xs) [] = []
beside (x ∷ xs) (n ∷ ns) = record { session = x; number = n } ∷ beside xs ns

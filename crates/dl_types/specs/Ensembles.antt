-- The rule of an ensemble.
use Rattle.std.specs.Prelude.{ℕ, ◌<◌, ◌≤◌}

-- the first bookie is one of the bookies, and at least one and at most all of them belong to the ensemble
pub record IsEnsemble (first bookies e : ℕ) : Type 0 where
  pub one_of_them : first < bookies
  pub some : 1 ≤ e
  pub within : e ≤ bookies
  pub few : bookies ≤ 16

-- Places of bookies in an ensemble.
use Rattle.std.specs.Prelude.{◌≡◌, ℕ, ◌+◌, ◌<◌, ◌≤◌, Bool, false, ◌==◌, Option, Some, None}
use Rattle.dl_types.specs.declared.ensemble.Ensemble.{Ensemble}

-- so many steps round all bookies lead from the ensemble's first bookie to another
pub record LeadsTo (x : Ensemble) (bookie steps : ℕ) : Type 0 where
  pub few : bookie < x.bookies
  pub on : x.first ≤ bookie → x.first + steps ≡ bookie
  pub round : bookie < x.first → x.first + steps ≡ bookie + x.bookies

-- whether a place, where there is one, is this one
abbrev pub is_at : Option ℕ → ℕ → Bool
is_at None place = false
is_at (Some at) place = at == place

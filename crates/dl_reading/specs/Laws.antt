-- The laws of readings.
use Rattle.std.specs.Prelude.{◌≡◌, Result, Ok, Err, ◌⊎◌}
use Rattle.dl_reading.specs.Readings.{◌>>=◌}

-- A reading of two gives a value only by the values of both, and a fault only as the fault of one of them, which is the
-- second's only where the first has a value.
pub record FirstFaultWins (A B F : Type 0) : Type 0 where
  pub value : (r : Result A F) (f : A → Result B F) (y : B) → (r >>= f) ≡ Ok y → (x : A) × (r ≡ Ok x) × (f x ≡ Ok y)
  pub fault : (r : Result A F) (f : A → Result B F) (e : F) → (r >>= f) ≡ Err e → (r ≡ Err e) ⊎ ((x : A) × (r ≡ Ok x) × (f x ≡ Err e))

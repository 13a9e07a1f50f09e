-- One of two readings.
use Rattle.std.specs.Prelude.{ℕ, min, List, Result, Ok, Err}

-- the first reading, or else the second; where both stop, as far as the one that goes on further
abbrev pub either : {A : Type 0} → Result A ℕ → Result A ℕ → Result A ℕ
either (Ok x) second = Ok x
either (Err left) (Ok x) = Ok x
either (Err left) (Err more) = Err (min left more)

-- a field that one of two readers reads
abbrev pub or_at : {A : Type 0} → (List ℕ → Result (A × List ℕ) ℕ) → (List ℕ → Result (A × List ℕ) ℕ) → List ℕ → Result (A × List ℕ) ℕ
or_at first second bytes = either (first bytes) (second bytes)

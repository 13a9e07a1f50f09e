-- Readings, whatever their faults are: a reading gives a value, or the first fault; a reader takes one value off the
-- front of a list. A fault of a reading is told by its bytes alone: want of memory is none.
use Rattle.std.specs.Prelude.{◌≡◌, ℕ, List, Option, Result, Ok, Err, IfSome}

-- one reading and then another; the first fault is the fault of both
infixl 10 ◌>>=◌
abbrev pub ◌>>=◌ : {A B F : Type 0} → Result A F → (A → Result B F) → Result B F
(Ok x) >>= f = f x
(Err fault) >>= f = Err fault

-- a field and then another, which may depend on it
abbrev pub then_at : {A B F : Type 0} → (List ℕ → Result (A × List ℕ) F) → (A → List ℕ → Result (B × List ℕ) F) → List ℕ → Result ((A × B) × List ℕ) F
then_at first second bytes = first bytes >>= λ x. second x.0 x.1 >>= λ y. Ok ((x.0, y.0), y.1)

-- a field as another value
abbrev pub map_at : {A B F : Type 0} → (A → B) → (List ℕ → Result (A × List ℕ) F) → List ℕ → Result (B × List ℕ) F
map_at make read bytes = read bytes >>= λ x. Ok (make x.0, x.1)

-- The error of a function names the fault of the reading. An error that is no fault of it, as want of memory, says
-- nothing of it.
abbrev pub FaultBy : {Y E F : Type 0} → (E → Option F) → E → Result Y F → Type 0
FaultBy fault error read = IfSome (fault error) (λ f. read ≡ Err f)

-- what a function returned, seen by view, is what the reading gives, and so is its error, seen by fault
abbrev pub GivesBy : {X Y E F : Type 0} → (E → Option F) → (X → Y) → Result X E → Result Y F → Type 0
GivesBy fault view (Ok x) read = read ≡ Ok (view x)
GivesBy fault view (Err error) read = FaultBy fault error read

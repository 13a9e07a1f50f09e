-- Readers of bytes: a reader takes one value off the front of the bytes, or says which fault comes first, and how many
-- bytes are left at it.
use Rattle.std.specs.Prelude.{◌≡◌, ℕ, ◌≤◌, Bool, List, ◌++◌, length, Option, Some, None, Result, Ok, Err, ◌==◌, ◌+◌, if◌then◌else◌}
pub use Rattle.dl_reading.specs.Readings.{◌>>=◌, then_at, map_at, FaultBy, GivesBy}
use Rattle.dl_codec.specs.Fields.{IsBytes}
use Rattle.dl_fields.specs.declared.fault.Fault.{Fault}
use Rattle.dl_fields.specs.declared.fault.Fault.TheVariants.{Short, Bad, Long}
use Rattle.dl_fields.specs.declared.stop.Stop.{Stop}
use Rattle.dl_fields.specs.declared.stop.Stop.TheVariants as stop

-- no bytes, as a value
abbrev pub nothing_from : {A : Type 0} → A → List ℕ → Result (A × List ℕ) Fault
nothing_from a bytes = Ok (a, bytes)

-- a field that passes a test; another is bad at its first byte
abbrev pub field_with_test : {A : Type 0} → (A → Bool) → ℕ → A × List ℕ → Result (A × List ℕ) Fault
field_with_test test size x = if test x.0 then Ok x else Err (Bad size)

-- the field that is read, where it passes the test
abbrev pub with_test : {A : Type 0} → (A → Bool) → (List ℕ → Result (A × List ℕ) Fault) → List ℕ → Result (A × List ℕ) Fault
with_test test read bytes = read bytes >>= field_with_test test (length bytes)

-- a field without a flaw; a flaw is bad so many bytes before the field's end
abbrev pub field_without_flaw : {A : Type 0} → Option ℕ → A × List ℕ → Result (A × List ℕ) Fault
field_without_flaw None x = Ok x
field_without_flaw (Some back) x = Err (Bad (length x.1 + back))

-- the field that is read, where it has no flaw
abbrev pub without_flaw : {A : Type 0} → (A → Option ℕ) → (List ℕ → Result (A × List ℕ) Fault) → List ℕ → Result (A × List ℕ) Fault
without_flaw flaw read bytes = read bytes >>= λ x. field_without_flaw (flaw x.0) x

-- a field behind which nothing is left
abbrev pub whole_field : {A : Type 0} → A × List ℕ → Result A Fault
whole_field x = if length x.1 == 0 then Ok x.0 else Err (Long (length x.1))

-- a field that is all of the bytes
abbrev pub whole_from : {A : Type 0} → (List ℕ → Result (A × List ℕ) Fault) → List ℕ → Result A Fault
whole_from read bytes = read bytes >>= whole_field

-- the fault of the bytes that a stop names; want of memory names none
abbrev pub fault_of : Stop → Option Fault
fault_of stop.NoMemory = None
fault_of (stop.Fault fault) = Some fault

-- what a function that takes memory returned, seen by view, is what the reading gives, unless memory ran out
abbrev pub Gives : {X Y : Type 0} → (X → Y) → Result X Stop → Result Y Fault → Type 0
Gives = GivesBy fault_of

-- what a function that takes no memory returned, seen by view, is what the reading gives
abbrev pub Reads : {X Y F : Type 0} → (X → Y) → Result X F → Result Y F → Type 0
Reads = GivesBy Some

-- a fault stands within so many bytes
abbrev pub IsWithin : ℕ → Fault → Type 0
IsWithin size (Short left) = left ≤ size
IsWithin size (Bad left) = left ≤ size
IsWithin size (Long left) = left ≤ size

-- A reader is exact for the values that are valid and their spelling: what it reads is valid and spelt so; what is
-- valid and spelt so is read, whatever follows; and a fault stands within the bytes.
pub record Exact {A : Type 0} (Valid : A → Type 0) (print : A → List ℕ) (read : List ℕ → Result (A × List ℕ) Fault) : Type 0 where
  pub found : (bytes : List ℕ) (a : A) (rest : List ℕ) → IsBytes bytes → read bytes ≡ Ok (a, rest) → Valid a × (bytes ≡ print a ++ rest)
  pub again : (a : A) (rest : List ℕ) → Valid a → read (print a ++ rest) ≡ Ok (a, rest)
  pub within : (bytes : List ℕ) (fault : Fault) → IsBytes bytes → read bytes ≡ Err fault → IsWithin (length bytes) fault

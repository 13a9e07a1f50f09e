-- Codes: the values of a closed list, each of which stands for one byte.
use Rattle.std.specs.Prelude.{ℕ, List, [], ◌∷◌, Option, Some, None, Result, Ok, Err, length, ◌==◌, if◌then◌else◌}
use Rattle.std.specs.Int.{w8}
use Rattle.dl_codec.specs.Fields.{field}
use Rattle.dl_fields.specs.declared.fault.Fault.{Fault}
use Rattle.dl_fields.specs.declared.fault.Fault.TheVariants.{Bad}
use Rattle.dl_fields.specs.Readers.{◌>>=◌}
use Rattle.dl_fields.specs.Fields.{number_from}

-- the first value of the list that has this code
abbrev pub value_of_code : {K : Type 0} → (K → ℕ) → List K → ℕ → Option K
value_of_code code [] n = None
value_of_code code (k ∷ ks) n = if code k == n then Some k else value_of_code code ks n

-- the value that was found, or a bad byte where so many bytes are left
abbrev pub or_bad : {K : Type 0} → Option K → ℕ → List ℕ → Result (K × List ℕ) Fault
or_bad (Some k) size rest = Ok (k, rest)
or_bad None size rest = Err (Bad size)

-- the value whose code is the first byte; a byte that is no code of the list is bad
abbrev pub code_from : {K : Type 0} → (K → ℕ) → List K → List ℕ → Result (K × List ℕ) Fault
code_from code ks bytes = number_from w8 bytes >>= λ x. or_bad (value_of_code code ks x.0) (length bytes) x.1

-- the byte of a code
abbrev pub code_byte : {K : Type 0} → (K → ℕ) → K → List ℕ
code_byte code k = field w8 (code k)

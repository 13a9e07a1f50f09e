-- Fields of one byte that say yes or no.
use Rattle.std.specs.Prelude.{ℕ, Bool, true, false, List, [], ◌∷◌, Result}
use Rattle.dl_fields.specs.declared.fault.Fault.{Fault}
use Rattle.dl_fields.specs.Codes.{code_byte, code_from}

-- 1 says yes, 0 says no
abbrev pub flag_code : Bool → ℕ
flag_code true = 1
flag_code false = 0

-- all that a flag says
abbrev pub flags : List Bool
flags = false ∷ true ∷ []

-- the byte of a flag
abbrev pub flag_byte : Bool → List ℕ
flag_byte on = code_byte flag_code on

-- the flag at the front of the bytes
abbrev pub flag_from : List ℕ → Result (Bool × List ℕ) Fault
flag_from = code_from flag_code flags

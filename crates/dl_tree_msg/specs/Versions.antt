-- Versions, which a request names or not.
use Rattle.std.specs.Prelude.{ℕ, Bool, true, false, Option, Some, None, List, [], ◌++◌, Result}
use Rattle.std.specs.Int.{w64}
use Rattle.dl_codec.specs.Fields.{field}
use Rattle.dl_fields.specs.declared.fault.Fault.{Fault}
use Rattle.dl_fields.specs.Readers.{then_at, map_at, nothing_from}
use Rattle.dl_fields.specs.Fields.{number_from, Fits}
use Rattle.dl_fields.specs.Flags.{flag_byte, flag_from}

-- whether a version is named
abbrev pub is_named : Option ℕ → Bool
is_named None = false
is_named (Some version) = true

-- what stands behind that flag
abbrev pub version_rest : Option ℕ → List ℕ
version_rest None = []
version_rest (Some version) = field w64 version

-- the spelling of a version that is named, or of none
abbrev pub version_bytes : Option ℕ → List ℕ
version_bytes v = flag_byte (is_named v) ++ version_rest v

-- the versions that have a spelling
abbrev pub IsVersion : Option ℕ → Type 0
IsVersion None = Unit {0}
IsVersion (Some version) = Fits w64 version

-- a version behind the flag
abbrev pub version_rest_from : Bool → List ℕ → Result (Option ℕ × List ℕ) Fault
version_rest_from false = nothing_from None
version_rest_from true = map_at Some (number_from w64)

-- a version that is named, or none
abbrev pub version_from : List ℕ → Result (Option ℕ × List ℕ) Fault
version_from = map_at (λ (named, version). version) (then_at flag_from version_rest_from)

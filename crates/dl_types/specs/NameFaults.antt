-- When bytes are refused as a name.
use Rattle.std.specs.Prelude.{◌≡◌, ℕ, List, Some}
use Rattle.dl_types.specs.declared.name_fault.NameFault.{NameFault}
use Rattle.dl_types.specs.declared.name_fault.NameFault.TheVariants.{NoMemory, BadName}
use Rattle.dl_types.specs.Names.{name_fault}

-- a refusal names the first byte that breaks the form; want of memory says nothing of the bytes
abbrev pub IsNameFault : List ℕ → NameFault → Type 0
IsNameFault bytes NoMemory = Unit {0}
IsNameFault bytes (BadName at) = name_fault bytes ≡ Some at

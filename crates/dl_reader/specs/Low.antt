-- Rows below the greatest number of an entry.
use Rattle.std.specs.Prelude.{◌<◌, List, [], ◌∷◌}
use Rattle.dl_types.specs.declared.read_row.ReadRow.{ReadRow}
use Rattle.dl_formats.specs.NodeBytes.{max_u64}

-- no row is of the entry of the greatest number
abbrev pub AreLow : List ReadRow → Type 0
AreLow [] = Unit {0}
AreLow (row ∷ rows) = (row.place.entry < max_u64) × AreLow rows

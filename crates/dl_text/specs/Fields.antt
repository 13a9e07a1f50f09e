-- Fields of lines that are more than one number or that are bytes as they are: names, paths, places.
use Rattle.std.specs.Prelude.{ℕ, List, [], ◌∷◌, ◌++◌}
use Rattle.dl_types.specs.declared.dlsn.Dlsn.{Dlsn}
use Rattle.dl_text.specs.Ends.{colon}
use Rattle.dl_text.specs.Numbers.{number}

-- bytes as they are, and the byte that ends them
abbrev pub bytes_field : ℕ → List ℕ → List ℕ
bytes_field end bytes = bytes ++ end ∷ []

-- the one spelling of a place, and the byte that ends it
abbrev pub place_field : ℕ → Dlsn → List ℕ
place_field end d = number colon d.segment ++ (number colon d.entry ++ number end d.slot)

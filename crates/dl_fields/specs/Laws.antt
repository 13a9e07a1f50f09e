-- The laws of the readers of this crate.
use Rattle.std.specs.Prelude.{◌≡◌, ℕ, ◌<◌, List, length, None, Some}
use Rattle.std.specs.List.{Contains}
use Rattle.std.specs.Int.{Width, w16}
use Rattle.dl_codec.specs.Fields.{field}
use Rattle.dl_fields.specs.Readers.{Exact}
use Rattle.dl_fields.specs.Fields.{number_from, Fits, counted_field_from, counted_field, IsCounted}
use Rattle.dl_fields.specs.Codes.{value_of_code, code_from, code_byte}
use Rattle.dl_fields.specs.Paths.{IsPart, IsPath, IsPathField, IsStemField, path_flaw, path_from, name_from, stem_from}

-- numbers of a width, and bytes behind their length, are read exactly
pub record WidthIsExact (w : Width) : Type 0 where
  pub number : Exact (Fits w) (field w) (number_from w)
  pub counted : Exact (IsCounted w) (counted_field w) (counted_field_from w)

-- values of a closed list are read exactly, where each value of the list is found by its code and each code is a byte
abbrev pub CodesAreExact : {K : Type 0} → (K → ℕ) → Type 0
CodesAreExact {K} code =
    (ks : List K) → ((k : K) → Contains ks k → value_of_code code ks (code k) ≡ Some k) → ((k : K) → Contains ks k → code k < 256)
    → Exact (Contains ks) (code_byte code) (code_from code ks)

-- Paths, stems and names are read exactly; the flaw of a path is none exactly where it has the form.
pub record PathsAreExact : Type 0 where
  pub path : Exact IsPathField (counted_field w16) path_from
  pub stem : Exact IsStemField (counted_field w16) stem_from
  pub name : Exact IsPart (counted_field w16) name_from
  pub sound : (path : List ℕ) → 0 < length path → path_flaw path ≡ None → IsPath path
  pub complete : (path : List ℕ) → IsPath path → path_flaw path ≡ None

-- Lists of values behind their count.
use Rattle.std.specs.Prelude.{ℕ, zero, suc, List, [], ◌∷◌, ◌++◌, length, Result, Ok}
use Rattle.std.specs.List.{flat_map}
use Rattle.std.specs.Int.{Width}
use Rattle.dl_codec.specs.Fields.{field}
use Rattle.dl_fields.specs.declared.fault.Fault.{Fault}
use Rattle.dl_fields.specs.Readers.{◌>>=◌, then_at, map_at}

-- so many values
abbrev pub items_from : {A : Type 0} → (List ℕ → Result (A × List ℕ) Fault) → ℕ → List ℕ → Result (List A × List ℕ) Fault
items_from read zero bytes = Ok ([], bytes)
items_from read (suc n) bytes = read bytes >>= λ x. items_from read n x.1 >>= λ y. Ok (x.0 ∷ y.0, y.1)

-- values behind their count
abbrev pub list_from : {A : Type 0} → (List ℕ → Result (ℕ × List ℕ) Fault) → (List ℕ → Result (A × List ℕ) Fault) → List ℕ → Result (List A × List ℕ) Fault
list_from count read = map_at (λ x. x.1) (then_at count (items_from read))

-- the spelling of values behind their count
abbrev pub list_bytes : {A : Type 0} → Width → (A → List ℕ) → List A → List ℕ
list_bytes w print xs = field w (length xs) ++ flat_map print xs

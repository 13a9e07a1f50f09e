-- The path of an operation at a place of a request.
use Rattle.std.proofs.Common.{◌≡◌, ℕ, zero, suc, ◌<◌, ◌≤◌, List, [], ◌∷◌, length, get_or, refl, arith}
use Rattle.dl_types.specs.declared.one_op.OneOp.{OneOp}
use Rattle.dl_fields.specs.Paths.{path_of_parts}
use Rattle.dl_rules_stream.specs.Requests.{path_in, path_nth}

-- where there is an operation, it is the one that it names
pub path_nth_is : (xs : List OneOp) (i : ℕ) (d : OneOp) → i < length xs → path_nth xs i ≡ path_in (get_or xs i d)
path_nth_is [] i d lt = absurd (omega arith)
path_nth_is (y ∷ xs) zero d lt = refl
path_nth_is (y ∷ xs) (suc i) d lt = path_nth_is xs i d (omega arith)

-- where there is none, it is the root's path
pub path_nth_past : (xs : List OneOp) (i : ℕ) → length xs ≤ i → path_nth xs i ≡ path_of_parts []
path_nth_past [] i le = refl
path_nth_past (y ∷ xs) zero le = absurd (omega arith)
path_nth_past (y ∷ xs) (suc i) le = path_nth_past xs i (omega arith)

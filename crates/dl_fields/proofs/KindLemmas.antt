-- What follows a kind is read as that kind says.
use Rattle.std.proofs.Common.{◌≡◌, ℕ, ◌<◌, Bool, true, false, List, [], ◌++◌, Some, Result, Ok, Err, refl, sym, ap, subst, lit<}
use Rattle.std.specs.List.{Contains}
use Rattle.dl_fields.specs.declared.fault.Fault.{Fault}
use Rattle.dl_fields.specs.Readers.{then_at, map_at, nothing_from, Exact}
use Rattle.dl_fields.specs.Codes.{value_of_code, code_byte, code_from}
use Rattle.dl_fields.specs.Flags.{flag_code, flags, flag_byte, flag_from}
use Rattle.dl_fields.proofs.ReaderLemmas.{Both, print_both, then_exact, made_exact, ok_is}
use Rattle.dl_fields.proofs.CodeLemmas.{all_codes_exact}

-- A field, and then one that doesn't depend on it.
pub also_exact : {A B : Type 0} {V : A → Type 0} {p : A → List ℕ} {r : List ℕ → Result (A × List ℕ) Fault} {W : B → Type 0} {q : B
    → List ℕ} {s : List ℕ → Result (B × List ℕ) Fault} → Exact V p r → Exact W q s → Exact (Both V (λ a. W)) (print_both p (λ a. q)) (then_at r (λ a. s))
also_exact {A} {B} {V} {p} {r} {W} {q} {s} first second = then_exact V p r (λ a. W) (λ a. q) (λ a. s) first (λ a v. second)

-- No bytes, as the only value that is valid.
pub nothing_exact : {A : Type 0} (a : A) (W : A → Type 0) (q : A → List ℕ) → W a → q a ≡ [] → ((x : A) → W x → a ≡ x) → Exact W q (nothing_from a)
nothing_exact {A} a W q w e only = record {
  found = λ bytes x rest fits h. let same : (a, bytes) ≡ (x, rest) = ok_is {A = A × List ℕ} (a, bytes) (x, rest) h in
      let P : A × List ℕ → Type 0 = λ y. W y.0 × (bytes ≡ q y.0 ++ y.1) in
      subst P same (w, ap (λ (l : List ℕ). l ++ bytes) (sym e));
  again = λ x rest v. let P : A → Type 0 = λ y. nothing_from a (q y ++ rest) ≡ Ok (y, rest) in
      subst P (only x v) (ap (λ (l : List ℕ). nothing_from a (l ++ rest)) e);
  within = λ bytes fault fits h. absurd (let wrong : Ok (a, bytes) ≡ Err fault = h in cc);
}

-- A kind, and then what that kind says.
pub kinded_exact : {K A : Type 0} {kp : K → List ℕ} {kr : List ℕ → Result (K × List ℕ) Fault} (kind_of : A → K) (W : A → Type 0) (rest : A → List ℕ)
    (read : K → List ℕ → Result (A × List ℕ) Fault) → Exact (λ (k : K). Unit {0}) kp kr
    → ((k : K) → Exact (λ a. W a × (kind_of a ≡ k)) rest (read k)) → Exact W (λ a. kp (kind_of a) ++ rest a) (map_at (λ x. x.1) (then_at kr read))
kinded_exact {K} {A} {kp} {kr} kind_of W rest read first second =
    made_exact _ _ _ (λ x. x.1) W (λ a. kp (kind_of a) ++ rest a)
    (then_exact (λ (k : K). Unit {0}) kp kr (λ k a. W a × (kind_of a ≡ k)) (λ k. rest) read first (λ k u. second k))
    (λ x v. (v.1.0, ap (λ (k : K). kp k ++ rest x.1) v.1.1))
    (λ a w. ((kind_of a, a), (tt, (w, refl)), refl))

-- a value of the list, which is found by its code, and its code is a byte
abbrev pub Coded : {K : Type 0} → (K → ℕ) → List K → K → Type 0
Coded code ks k = Contains ks k × ((value_of_code code ks (code k) ≡ Some k) × (code k < 256))

-- Values that are all of the list are read exactly.
pub kinds_exact : {K : Type 0} (code : K → ℕ) (ks : List K) → ((k : K) → Coded code ks k) → Exact (λ (k : K). Unit {0}) (code_byte code) (code_from code ks)
kinds_exact code ks c = all_codes_exact code ks (λ k. (c k).0) (λ k. (c k).1.0) (λ k. (c k).1.1)

-- both flags are of the list
flag_coded : (on : Bool) → Coded flag_code flags on
flag_coded false = ((0, lit< tt, refl), (refl, lit< tt))
flag_coded true = ((1, lit< tt, refl), (refl, lit< tt))

-- A flag is read exactly.
pub flag_exact : Exact (λ (on : Bool). Unit {0}) flag_byte flag_from
flag_exact = kinds_exact flag_code flags flag_coded

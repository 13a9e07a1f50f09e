-- Codes of closed lists are read exactly.
use Rattle.std.proofs.Common.{◌≡◌, ℕ, suc, ◌+◌, ◌≤◌, ◌<◌, Bool, true, false, cond, eqb, List, [], ◌∷◌, ◌++◌, length}
use Rattle.std.proofs.Common.{drop, get_or, Option, Some, None, Ok, Err, inl, inr, refl, sym, ap, subst, ◌∙◌, arith}
use Rattle.std.specs.List.{Contains}
use Rattle.std.specs.Int.{w8}
use Rattle.std.proofs.lemmas.Bool.{eqb-true}
use Rattle.std.proofs.lemmas.List.{drop_more}
use Rattle.dl_codec.specs.Fields.{field}
use Rattle.dl_fields.specs.declared.fault.Fault.{Fault}
use Rattle.dl_fields.specs.declared.fault.Fault.TheVariants.{Bad}
use Rattle.dl_fields.specs.Readers.{Exact, IsWithin}
use Rattle.dl_fields.specs.Fields.{number_from}
use Rattle.dl_fields.specs.Codes.{value_of_code, or_bad, code_from, code_byte}
use Rattle.dl_fields.proofs.ReaderLemmas.{bind_ok, bind_err, ok_is, err_is}
use Rattle.dl_fields.proofs.FieldLemmas.{u8_exact}

-- what is found by a code has it, and is of the list
value_of_code_is : {K : Type 0} (code : K → ℕ) (ks : List K) (n : ℕ) (k : K) → value_of_code code ks n ≡ Some k → Contains ks k × (code k ≡ n)
value_of_code_is code [] n k e = absurd cc
value_of_code_is {K} code (j ∷ ks) n k e = go (eqb (code j) n) refl e (value_of_code_is code ks n k)
  where
    go : (t : Bool) → eqb (code j) n ≡ t → cond t (Some j) (value_of_code code ks n) ≡ Some k
        → (value_of_code code ks n ≡ Some k → Contains ks k × (code k ≡ n))
        → Contains (j ∷ ks) k × (code k ≡ n)
    go true t h ih = let same : j ≡ k = cc in ((0, omega arith, same), ap code (sym same) ∙ eqb-true (code j) n t)
    go false t h ih = let i = ih h in ((suc i.0.0, omega (arith, i.0.1), i.0.2), i.1)

-- a value that is known was found, and nothing behind it is lost
or_bad_ok : {K : Type 0} (o : Option K) (size : ℕ) (rest : List ℕ) (y : K × List ℕ) → or_bad o size rest ≡ Ok y → (o ≡ Some y.0) × (rest ≡ y.1)
or_bad_ok {K} (Some k) size rest y e = let p : (k, rest) ≡ y = ok_is (k, rest) y e in (ap (λ (x : K × List ℕ). Some x.0) p, ap (λ (x : K × List ℕ). x.1) p)
or_bad_ok None size rest y e = absurd cc

-- a value that was not found is bad at its byte
or_bad_err : {K : Type 0} (o : Option K) (size : ℕ) (rest : List ℕ) (fault : Fault) → or_bad o size rest ≡ Err fault → Bad size ≡ fault
or_bad_err (Some k) size rest fault e = absurd cc
or_bad_err {K} None size rest fault e = err_is {A = K × List ℕ} (Bad size) fault e

-- Values that are found by their codes are read exactly.
pub codes_exact : {K : Type 0} (code : K → ℕ) (ks : List K) → ((k : K) → Contains ks k → value_of_code code ks (code k) ≡ Some k)
    → ((k : K) → Contains ks k → code k < 256) → Exact (Contains ks) (code_byte code) (code_from code ks)
codes_exact {K} code ks each small = record {
  found = λ bytes k rest fits e.
      let u = bind_ok (number_from w8 bytes) (λ (x : ℕ × List ℕ). or_bad (value_of_code code ks x.0) (length bytes) x.1) (k, rest) e in
      let g = or_bad_ok (value_of_code code ks u.0.0) (length bytes) u.0.1 (k, rest) u.2 in
      let i = value_of_code_is code ks u.0.0 k g.0 in
      let f = u8_exact.found bytes u.0.0 u.0.1 fits u.1 in
      (i.0, f.1 ∙ ap (λ (n : ℕ). field w8 n ++ u.0.1) (sym i.1) ∙ ap (λ (l : List ℕ). field w8 (code k) ++ l) g.1);
  again = λ k rest v. rw (u8_exact.again (code k) rest (small k v)) (rw (each k v) refl);
  within = λ bytes fault fits e. elim (bind_err (number_from w8 bytes) (λ (x : ℕ × List ℕ). or_bad (value_of_code code ks x.0) (length bytes) x.1) fault e) [
    | inl h ↦ u8_exact.within bytes fault fits h
    | inr w ↦ subst (IsWithin (length bytes)) (or_bad_err (value_of_code code ks w.0.0) (length bytes) w.0.1 fault w.2)
        (let le : length bytes ≤ length bytes = omega arith in le)
  ];
}

-- Values that are listed whole: each value is one of the list.
pub all_codes_exact : {K : Type 0} (code : K → ℕ) (ks : List K) → ((k : K) → Contains ks k) → ((k : K) → value_of_code code ks (code k) ≡ Some k)
    → ((k : K) → code k < 256) → Exact (λ (k : K). Unit {0}) (code_byte code) (code_from code ks)
all_codes_exact code ks all each small = let exact = codes_exact code ks (λ k c. each k) (λ k c. small k) in record {
  found = λ bytes k rest fits e. (tt, (exact.found bytes k rest fits e).1);
  again = λ k rest v. exact.again k rest (all k);
  within = exact.within;
}

-- one turn of the search: a value of another code is passed
pub coded_step : {K : Type 0} (code : K → ℕ) (ks : List K) (i n : ℕ) (k : K) (o : Option K) → k ≡ get_or ks i k → i < length ks
    → eqb (code k) n ≡ false → value_of_code code (drop i ks) n ≡ o → value_of_code code (drop (i + 1) ks) n ≡ o
coded_step {K} code ks i n k o reads within other same =
    let parts : drop i ks ≡ k ∷ drop (i + 1) ks = drop_more ks i k within ∙ ap (λ (x : K). x ∷ drop (i + 1) ks) (sym reads) in
    let turned : value_of_code code (k ∷ drop (i + 1) ks) n ≡ o = ap (λ (l : List K). value_of_code code l n) (sym parts) ∙ same in
    sym (ap (λ (t : Bool). cond t (Some k) (value_of_code code (drop (i + 1) ks) n)) other) ∙ turned

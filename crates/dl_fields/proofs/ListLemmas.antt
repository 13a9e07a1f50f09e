-- Lists behind their count are read exactly.
use Rattle.std.proofs.Common.{◌≡◌, ℕ, zero, suc, ◌≤◌, List, [], ◌∷◌, ◌++◌, length, Result, Ok, Err, inl}
use Rattle.std.proofs.Common.{inr, refl, sym, ap, subst, ◌∙◌, append_assoc, arith, length-append}
use Rattle.std.specs.List.{flat_map, AllByRecursion}
use Rattle.std.specs.Int.{Width}
use Rattle.dl_codec.specs.Fields.{field, IsBytes}
use Rattle.dl_fields.specs.declared.fault.Fault.{Fault}
use Rattle.dl_fields.specs.Readers.{Exact, IsWithin, ◌>>=◌}
use Rattle.dl_fields.specs.Lists.{items_from, list_from, list_bytes}
use Rattle.dl_fields.proofs.ReaderLemmas.{bind_ok, bind_err, ok_is, bytes_behind, within_more, then_exact, made_exact}

-- so many valid values
abbrev pub AreItems : {A : Type 0} → (A → Type 0) → ℕ → List A → Type 0
AreItems V n xs = (length xs ≡ n) × AllByRecursion V xs

-- values that are read are valid, so many, and spelt so
items_found : {A : Type 0} {V : A → Type 0} {p : A → List ℕ} {r : List ℕ → Result (A × List ℕ) Fault} → Exact V p r
    → (n : ℕ) (bytes : List ℕ) (xs : List A) (rest : List ℕ) → IsBytes bytes → items_from r n bytes ≡ Ok (xs, rest)
    → AreItems V n xs × (bytes ≡ flat_map p xs ++ rest)
items_found {A} {V} {p} {r} exact zero bytes xs rest fits e =
    let made : List A × List ℕ = ([], bytes) in
    subst (λ (m : List A × List ℕ). AreItems V 0 m.0 × (bytes ≡ flat_map p m.0 ++ m.1)) (ok_is made (xs, rest) e) ((refl, tt), refl)
items_found {A} {V} {p} {r} exact (suc n) bytes xs rest fits e =
    let u = bind_ok (r bytes) (λ (x : A × List ℕ). items_from r n x.1 >>= λ y. Ok (x.0 ∷ y.0, y.1)) (xs, rest) e in
    let v = bind_ok (items_from r n u.0.1) (λ (y : List A × List ℕ). Ok (u.0.0 ∷ y.0, y.1)) (xs, rest) u.2 in
    let f = exact.found bytes u.0.0 u.0.1 fits u.1 in
    let g = items_found exact n u.0.1 v.0.0 v.0.1 (bytes_behind (p u.0.0) u.0.1 bytes f.1 fits) v.1 in
    let made : List A × List ℕ = (u.0.0 ∷ v.0.0, v.0.1) in
    let whole : bytes ≡ flat_map p made.0 ++ v.0.1 = f.1 ∙ ap (λ (l : List ℕ). p u.0.0 ++ l) g.1 ∙ sym (append_assoc (p u.0.0) (flat_map p v.0.0) v.0.1) in
    subst (λ (m : List A × List ℕ). AreItems V (suc n) m.0 × (bytes ≡ flat_map p m.0 ++ m.1)) (ok_is made (xs, rest) v.2) ((ap suc g.0.0, (f.0, g.0.1)), whole)

-- valid values are read as they are spelt
items_again : {A : Type 0} {V : A → Type 0} {p : A → List ℕ} {r : List ℕ → Result (A × List ℕ) Fault} → Exact V p r → (xs : List A) (rest : List ℕ)
    → AllByRecursion V xs → items_from r (length xs) (flat_map p xs ++ rest) ≡ Ok (xs, rest)
items_again exact [] rest v = refl
items_again {A} {V} {p} {r} exact (x ∷ xs) rest v =
    ap (items_from r (suc (length xs))) (append_assoc (p x) (flat_map p xs) rest)
    ∙ rw (exact.again x (flat_map p xs ++ rest) v.0) (rw (items_again exact xs rest v.1) refl)

-- a fault of values stands within their bytes
items_within : {A : Type 0} {V : A → Type 0} {p : A → List ℕ} {r : List ℕ → Result (A × List ℕ) Fault} → Exact V p r
    → (n : ℕ) (bytes : List ℕ) (fault : Fault) → IsBytes bytes → items_from r n bytes ≡ Err fault → IsWithin (length bytes) fault
items_within exact zero bytes fault fits e = absurd cc
items_within {A} {V} {p} {r} exact (suc n) bytes fault fits e =
    elim (bind_err (r bytes) (λ (x : A × List ℕ). items_from r n x.1 >>= λ y. Ok (x.0 ∷ y.0, y.1)) fault e) [
      | inl h ↦ exact.within bytes fault fits h
      | inr w ↦ elim (bind_err (items_from r n w.0.1) (λ (y : List A × List ℕ). Ok (w.0.0 ∷ y.0, y.1)) fault w.2) [
        | inl h ↦ let f = exact.found bytes w.0.0 w.0.1 fits w.1 in
            let less : length w.0.1 ≤ length bytes = omega (arith, ap length f.1, length-append (p w.0.0) w.0.1) in
            within_more (length w.0.1) (length bytes) fault less (items_within exact n w.0.1 fault (bytes_behind (p w.0.0) w.0.1 bytes f.1 fits) h)
        | inr z ↦ absurd (let wrong : Ok (w.0.0 ∷ z.0.0, z.0.1) ≡ Err fault = z.2 in cc)
      ]
    ]

-- So many values.
pub items_exact : {A : Type 0} (V : A → Type 0) (p : A → List ℕ) (r : List ℕ → Result (A × List ℕ) Fault) → Exact V p r → (n : ℕ)
    → Exact (AreItems V n) (flat_map p) (items_from r n)
items_exact {A} V p r exact n = record {
  found = items_found exact n;
  again = λ xs rest v. subst (λ k. items_from r k (flat_map p xs ++ rest) ≡ Ok (xs, rest)) v.0 (items_again exact xs rest v.1);
  within = items_within exact n;
}

-- Values behind a count that is allowed.
pub list_exact : {A : Type 0} (V : A → Type 0) (p : A → List ℕ) (r : List ℕ → Result (A × List ℕ) Fault) → Exact V p r
    → (C : ℕ → Type 0) (w : Width) (count : List ℕ → Result (ℕ × List ℕ) Fault) → Exact C (field w) count
    → Exact (λ xs. C (length xs) × AllByRecursion V xs) (list_bytes w p) (list_from count r)
list_exact {A} V p r exact C w count counts = made_exact _ _ _ (λ x. x.1) (λ xs. C (length xs) × AllByRecursion V xs) (list_bytes w p)
    (then_exact C (field w) count (AreItems V) (λ n xs. flat_map p xs) (items_from r) counts (λ n v. items_exact V p r exact n))
    (λ x v. ((subst C (sym v.1.0) v.0, v.1.1), ap (λ (n : ℕ). field w n ++ flat_map p x.1) v.1.0))
    (λ xs v. ((length xs, xs), (v.0, (refl, v.1)), refl))

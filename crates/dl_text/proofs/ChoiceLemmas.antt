-- One field or another is read exactly.
use Rattle.std.proofs.Common.{◌≡◌, ℕ, ◌+◌, ◌≤◌, min, List, ◌++◌, length, Result, Ok, Err, ◌⊎◌, inl, inr, refl, ◌∙◌, arith}
use Rattle.std.proofs.lemmas.Bool.{cases_lt}
use Rattle.dl_text.specs.Readers.{shared_length, Exact}
use Rattle.dl_text.specs.Choices.{either, or_at}

-- a choice gives what one of its two readings gives
ok_of : {A : Type 0} (x y : Result A ℕ) (z : A) → either x y ≡ Ok z → (x ≡ Ok z) ⊎ (y ≡ Ok z)
ok_of (Ok x) y z e = inl e
ok_of (Err m) (Ok y) z e = inr e
ok_of (Err m) (Err n) z e = absurd cc

-- a choice stops only where both readings stop, as far as the one that leaves fewer bytes
err_of : {A : Type 0} (x y : Result A ℕ) (left : ℕ) → either x y ≡ Err left → (m n : ℕ) × (x ≡ Err m) × (y ≡ Err n) × (min m n ≡ left)
err_of (Ok x) y left e = absurd cc
err_of (Err m) (Ok y) left e = absurd cc
err_of (Err m) (Err n) left e = (m, n, refl, refl, cc)

-- Two fields of one type, where the first reader stops at each text of the second.
pub either_exact : {A : Type 0} (V W : A → Type 0) (p : A → List ℕ) (r s : List ℕ → Result (A × List ℕ) ℕ) → Exact V p r → Exact W p s
    → ((a : A) (rest : List ℕ) → W a → (left : ℕ) × (r (p a ++ rest) ≡ Err left)) → Exact (λ a. V a ⊎ W a) p (or_at r s)
either_exact {A} V W p r s one other apart = record {
  found = λ bytes a rest e. elim (ok_of (r bytes) (s bytes) (a, rest) e) [
    | inl h ↦ let f = one.found bytes a rest h in (inl f.0, f.1)
    | inr h ↦ let f = other.found bytes a rest h in (inr f.0, f.1)
  ];
  again = λ a rest v. elim v [
    | inl h ↦ rw (one.again a rest h) refl
    | inr h ↦ let n = apart a rest h in rw (n.1, other.again a rest h) refl
  ];
  near = λ bytes left e. let k = err_of (r bytes) (s bytes) left e in
      let x = one.near bytes k.0 k.2 in
      let y = other.near bytes k.1 k.3 in
      elim (cases_lt k.0 k.1) [
        | inl less ↦ (x.0, inl x.1, omega (arith, x.2, k.4, less))
        | inr more ↦ (y.0, inr y.1, omega (arith, y.2, k.4, more))
      ];
  far = λ bytes left e a v. let k = err_of (r bytes) (s bytes) left e in elim v [
    | inl h ↦ omega (arith, one.far bytes k.0 k.2 a h, k.4)
    | inr h ↦ omega (arith, other.far bytes k.1 k.3 a h, k.4)
  ];
}

-- The numbers below a bound.
use Rattle.std.proofs.Common.{◌≡◌, ℕ, zero, suc, ◌+◌, ◌<◌, Bool, true, false, ◌&&◌, [], ◌∷◌, ◌++◌, map}
use Rattle.std.proofs.Common.{length, get_or, refl, sym, ap, ◌∙◌, arith, add-one, inl, inr, ◌⊎◌}
use Rattle.std.proofs.lemmas.Bool.{and_parts, cases_eq, and_left, and_right}
use Rattle.std.proofs.lemmas.List.{length-append, get_or_append_left, get_or-map}
use Rattle.std.proofs.Math.Seq.{get_or-append_seam}
use Rattle.std.proofs.lemmas.List.Folds.{list_all-append}
use Rattle.std.specs.List.{list_all}
use Rattle.dl_types.specs.Upto.{upto}

-- the numbers below n are n
pub length-upto : (n : ℕ) → length (upto n) ≡ n
length-upto zero = refl
length-upto (suc n) = omega (arith, length-append (upto n) (n ∷ []), length-upto n)

-- the number at each place below the bound is the place itself
pub get_or-upto : (n k d : ℕ) → k < n → get_or (upto n) k d ≡ k
get_or-upto zero k d below = absurd (omega arith)
get_or-upto (suc n) k d below = go (cases_eq k n) (get_or-upto n k d)
  where
    go : (k ≡ n) ⊎ (k ≡ n → ⊥) → (k < n → get_or (upto n) k d ≡ k) → get_or (upto n ++ n ∷ []) k d ≡ k
    go (inl e) rest =
        ap (λ i. get_or (upto n ++ n ∷ []) i d) (e ∙ sym (length-upto n)) ∙ get_or-append_seam (upto n) n [] d ∙ sym e
    go (inr other) rest =
        let front : k < length (upto n) = omega (arith, length-upto n) in
        get_or_append_left (upto n) (n ∷ []) d k front ∙ rest (omega arith)

-- the image at each place below the bound is the place's own image
pub get_or-map-upto : {X : Type 0} (f : ℕ → X) (n k : ℕ) (d : X) → k < n → get_or (map f (upto n)) k d ≡ f k
get_or-map-upto f n k d below =
    get_or-map f (upto n) k 0 d (omega (arith, length-upto n)) ∙ ap f (get_or-upto n k 0 below)

-- what all numbers below the bound pass, each of them passes
pub list_all-upto : (p : ℕ → Bool) (n k : ℕ) → list_all p (upto n) ≡ true → k < n → p k ≡ true
list_all-upto p zero k all below = absurd (omega arith)
list_all-upto p (suc n) k all below = go (cases_eq k n) (list_all-upto p n k parts.0)
  where
    parts : (list_all p (upto n) ≡ true) × ((p n && true) ≡ true)
    parts = and_parts (list_all p (upto n)) (p n && true) (sym (list_all-append p (upto n) (n ∷ [])) ∙ all)

    go : (k ≡ n) ⊎ (k ≡ n → ⊥) → (k < n → p k ≡ true) → p k ≡ true
    go (inl e) rest = ap p e ∙ (and_parts (p n) true parts.1).0
    go (inr other) rest = rest (omega arith)

-- to ask for a fact and for what always holds is to ask for the fact
and_true : (b : Bool) → (b && true) ≡ b
and_true true = refl
and_true false = refl

-- one number more
pub list_all_upto_more : (p : ℕ → Bool) (n : ℕ) → list_all p (upto (n + 1)) ≡ (list_all p (upto n) && p n)
list_all_upto_more p n =
    ap (λ k. list_all p (upto k)) (add-one n) ∙ list_all-append p (upto n) (n ∷ []) ∙ ap (λ t. list_all p (upto n) && t) (and_true (p n))

-- one number below the bound that fails is enough
pub list_all_upto_fails : (p : ℕ → Bool) (n k : ℕ) → k < n → p k ≡ false → list_all p (upto n) ≡ false
list_all_upto_fails p zero k below fails = absurd (omega arith)
list_all_upto_fails p (suc n) k below fails = list_all-append p (upto n) (n ∷ []) ∙ go (cases_eq k n) (list_all_upto_fails p n k)
  where
    go : (k ≡ n) ⊎ (k ≡ n → ⊥) → (k < n → p k ≡ false → list_all p (upto n) ≡ false) → (list_all p (upto n) && (p n && true)) ≡ false
    go (inl e) rest = and_right _ _ (and_left _ _ (ap p (sym e) ∙ fails))
    go (inr other) rest = and_left _ _ (rest (omega arith) fails)

-- two facts that hold, hold together
both_true : (a b : Bool) → a ≡ true → b ≡ true → (a && b) ≡ true
both_true true true x y = refl
both_true false b x y = cc
both_true true false x y = cc

-- all numbers below the bound pass
pub list_all_upto_all : (p : ℕ → Bool) (n : ℕ) → ((k : ℕ) → k < n → p k ≡ true) → list_all p (upto n) ≡ true
list_all_upto_all p zero all = refl
list_all_upto_all p (suc n) all =
    list_all-append p (upto n) (n ∷ [])
    ∙ both_true _ _ (list_all_upto_all p n (λ k below. all k (omega arith))) (both_true _ _ (all n (omega arith)) refl)

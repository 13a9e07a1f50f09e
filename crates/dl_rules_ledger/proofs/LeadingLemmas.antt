-- Counting from 0 on, up to the first number that fails.
use Rattle.std.proofs.Common.{◌≡◌, ℕ, zero, suc, ◌<◌, ◌≤◌, Bool, true, false, cond, ◌&&◌, ◌==◌, refl, sym, ap, ◌∙◌, arith, inl, inr, ◌⊎◌, le_refl}
use Rattle.std.proofs.Common.{eq-eqb, eqb-true}
use Rattle.std.proofs.lemmas.Bool.{cases_eq, cases_lt, ne_eqb, cond_both, and_parts, and_from, and_right, and_left, and_cases, cond-true, cond-false}
use Rattle.std.proofs.lemmas.Bool.{false≢true}
use Rattle.dl_rules_ledger.specs.Leading.{leading_count}

-- one number more
leading_step : (p : ℕ → Bool) (n e : ℕ) → (e < leading_count p n → p e ≡ true) → (t : Bool) → (leading_count p n == n && p n) ≡ t
    → e < cond t (suc n) (leading_count p n) → p e ≡ true
leading_step p n e before false w h = before h
leading_step p n e before true w h = let parts = and_parts (leading_count p n == n) (p n) w in
    at_or_below (cases_eq e n)
  where
    at_or_below : (e ≡ n) ⊎ (e ≡ n → ⊥) → p e ≡ true
    at_or_below (inl k) = ap p k ∙ (and_parts (leading_count p n == n) (p n) w).1
    at_or_below (inr k) = before (omega (arith, eqb-true (leading_count p n) n (and_parts (leading_count p n == n) (p n) w).0))

-- each number below the count passes
pub leading_count-below : (p : ℕ → Bool) (n e : ℕ) → e < leading_count p n → p e ≡ true
leading_count-below p zero e h = absurd (omega arith)
leading_count-below p (suc n) e h = leading_step p n e (leading_count-below p n e) (leading_count p n == n && p n) refl h

-- the count is one of those numbers
pub leading_count-le : (p : ℕ → Bool) (n : ℕ) → leading_count p n ≤ n
leading_count-le p zero = le_refl _
leading_count-le p (suc n) =
    cond_both (leading_count p n == n && p n) (suc n) (leading_count p n) (λ x. x ≤ suc n) (λ _. le_refl _) (λ _. omega (arith, leading_count-le p n))

-- below c all pass, and at c one doesn't, or c is the end
pub leading_count-is : (p : ℕ → Bool) (n c : ℕ) → c ≤ n → ((e : ℕ) → e < c → p e ≡ true) → (c < n → p c ≡ false) → leading_count p n ≡ c
leading_count-is p zero c h below at = omega arith
leading_count-is p (suc n) c h below at = go (cases_eq c (suc n)) (leading_count-is p n)
  where
    go : (c ≡ suc n) ⊎ (c ≡ suc n → ⊥)
        → ((c : ℕ) → c ≤ n → ((e : ℕ) → e < c → p e ≡ true) → (c < n → p c ≡ false) → leading_count p n ≡ c) → leading_count p (suc n) ≡ c
    go (inl e) ih =
        let m = ih n (omega arith) (λ k b. below k (omega arith)) (λ b. absurd (omega arith)) in
        cond-true _ _ _ (and_from _ _ (eq-eqb _ _ m) (below n (omega arith))) ∙ sym e
    go (inr d) ih =
        let m = ih c (omega arith) below (λ b. at (omega arith)) in
        top m (cases_eq c n)
      where
        top : leading_count p n ≡ c → (c ≡ n) ⊎ (c ≡ n → ⊥) → leading_count p (suc n) ≡ c
        top m (inl e) = cond-false (leading_count p n == n && p n) _ _ (and_right _ _ (ap p (sym e) ∙ at (omega arith))) ∙ m
        top m (inr e) = cond-false (leading_count p n == n && p n) _ _ (and_left _ _ (ne_eqb _ _ (λ k. e (sym m ∙ k)))) ∙ m

-- where the count isn't the end, the number there fails
pub leading_count-stops : (p : ℕ → Bool) (n : ℕ) → leading_count p n < n → p (leading_count p n) ≡ false
leading_count-stops p zero h = absurd (omega arith)
leading_count-stops p (suc n) h = go (leading_count p n == n && p n) refl (leading_count-stops p n) h
  where
    go : (t : Bool) → (leading_count p n == n && p n) ≡ t → (leading_count p n < n → p (leading_count p n) ≡ false)
        → cond t (suc n) (leading_count p n) < suc n → p (cond t (suc n) (leading_count p n)) ≡ false
    go true w ih k = absurd (omega arith)
    go false w ih k = at (cases_lt (leading_count p n) n)
      where
        at : (leading_count p n < n) ⊎ (n ≤ leading_count p n) → p (leading_count p n) ≡ false
        at (inl m) = ih m
        at (inr m) = let same : leading_count p n ≡ n = omega (arith, leading_count-le p n) in
            ap p same ∙ (other (and_cases (leading_count p n == n) (p n) w) same)
          where
            other : ((leading_count p n == n) ≡ false) ⊎ (p n ≡ false) → leading_count p n ≡ n → p n ≡ false
            other (inl x) same = absurd (false≢true (sym x ∙ eq-eqb _ _ same))
            other (inr x) same = x

-- it is the greatest such number
pub leading_count-greatest : (p : ℕ → Bool) (n c : ℕ) → c ≤ n → ((e : ℕ) → e < c → p e ≡ true) → c ≤ leading_count p n
leading_count-greatest p n c within below = go (cases_lt (leading_count p n) c)
  where
    go : (leading_count p n < c) ⊎ (c ≤ leading_count p n) → c ≤ leading_count p n
    go (inl less) = absurd (false≢true (sym (leading_count-stops p n (omega (arith, within, less))) ∙ below (leading_count p n) less))
    go (inr enough) = enough

-- Ten digits and their number.
use Rattle.std.proofs.Common.{◌≡◌, ℕ, zero, suc, ◌+◌, ◌-◌, ◌*◌, ◌/◌, ◌%◌, ◌^◌, ◌<◌, List, [], ◌∷◌, ◌++◌, length, take}
use Rattle.std.proofs.Common.{get_or, refl, sym, ap, ap₂, ◌∙◌, arith, add-one, pow-suc, append_assoc, length-append}
use Rattle.std.proofs.lemmas.List.{take_more}
use Rattle.dl_fields.specs.Digits.{digits}

-- lists with the same last item are the same before it
last_item : (xs ys : List ℕ) (a b : ℕ) → xs ++ a ∷ [] ≡ ys ++ b ∷ [] → (xs ≡ ys) × (a ≡ b)
last_item [] [] a b e = (refl, cc)
last_item [] (y ∷ []) a b e = absurd (cc)
last_item [] (y ∷ z ∷ ys) a b e = absurd (cc)
last_item (x ∷ []) [] a b e = absurd (cc)
last_item (x ∷ z ∷ xs) [] a b e = absurd (cc)
last_item (x ∷ xs) (y ∷ ys) a b e =
    let tail : xs ++ a ∷ [] ≡ ys ++ b ∷ [] = cc in
    let head : x ≡ y = cc in
    let r = last_item xs ys a b tail in (cc, r.1)

-- so many digits tell the numbers that they spell whole
pub same_digits : (n a b : ℕ) → a < 10 ^ n → b < 10 ^ n → digits n a ≡ digits n b → a ≡ b
same_digits zero a b ha hb e = omega arith
same_digits (suc n) a b ha hb e =
    let r = last_item (digits n (a / 10)) (digits n (b / 10)) (48 + a % 10) (48 + b % 10) e in
    let high : a / 10 ≡ b / 10 = same_digits n (a / 10) (b / 10) (below a ha) (below b hb) r.0 in
    omega (arith, r.1)
  where
    below : (c : ℕ) → c < 10 ^ suc n → c / 10 < 10 ^ n
    below c h = omega (arith, pow-suc 10 n)

-- so many digits
pub length-digits : (n k : ℕ) → length (digits n k) ≡ n
length-digits zero k = refl
length-digits (suc n) k = omega (arith, length-append (digits n (k / 10)) ((48 + k % 10) ∷ []), length-digits n (k / 10))

-- one digit more at the end
pub digit_put : (n k : ℕ) (old mid new : List ℕ) → (n ≡ 0 → ⊥) → mid ≡ old ++ digits (n - 1) (k / 10) → new ≡ mid ++ (48 + k % 10) ∷ []
    → new ≡ old ++ digits n k
digit_put zero k old mid new some m e = absurd (some refl)
digit_put (suc n) k old mid new some m e =
    let less : suc n - 1 ≡ n = omega arith in
    e ∙ ap (λ (t : List ℕ). t ++ (48 + k % 10) ∷ []) (m ∙ ap (λ (j : ℕ). old ++ digits j (k / 10)) less)
    ∙ append_assoc old (digits n (k / 10)) ((48 + k % 10) ∷ [])

-- one digit more that was read
pub digit_read : (n k b : ℕ) (text : List ℕ) → n < length text → get_or text n 0 ≡ 48 + b → b < 10 → k < 10 ^ n → digits n k ≡ take n text
    → (k * 10 + b < 10 ^ (n + 1)) × (digits (n + 1) (k * 10 + b) ≡ take (n + 1) text)
digit_read n k b text room here digit below spelt =
    let high : (k * 10 + b) / 10 ≡ k = omega arith in
    let low : (k * 10 + b) % 10 ≡ b = omega arith in
    let more : take (n + 1) text ≡ take n text ++ get_or text n 0 ∷ [] = take_more text n 0 room in
    let last : digits (suc n) (k * 10 + b) ≡ take n text ++ (48 + b) ∷ [] =
    ap₂ (λ (j d : ℕ). digits n j ++ (48 + d) ∷ []) high low ∙ ap (λ (t : List ℕ). t ++ (48 + b) ∷ []) spelt in
    (rw add-one (omega (arith, pow-suc 10 n)), rw add-one (last ∙ ap (λ (d : ℕ). take n text ++ d ∷ []) (sym here)) ∙ sym more)

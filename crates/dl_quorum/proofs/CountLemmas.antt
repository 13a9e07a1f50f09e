-- Counting the members of a list that pass a test.
use Rattle.std.proofs.Common.{◌≡◌, ℕ, ◌+◌, ◌<◌, ◌≤◌, Bool, true, false, cond, ◌&&◌, List, [], ◌∷◌, map}
use Rattle.std.proofs.Common.{length, count_by, refl, sym, ap, ◌∙◌, arith, le_refl, true≢false, add-one}
use Rattle.std.specs.List.{list_any}
use Rattle.std.proofs.lemmas.Bool.{or_parts}
use Rattle.std.proofs.lemmas.List.{map-append}
use Rattle.std.proofs.lemmas.List.Sums.{sum_by-cons, sum_by_push}
use Rattle.dl_types.specs.Upto.{upto}

-- the members of a list that pass are its first one, if it passes, and those of the rest
pub count_by-cons : {X : Type 0} (p : X → Bool) (x : X) (xs : List X) → count_by p (x ∷ xs) ≡ cond (p x) 1 0 + count_by p xs
count_by-cons p x xs = sum_by-cons (λ y. cond (p y) 1 0) x xs

-- as many images pass a test as members pass it by their image
pub count_by-map : {X Y : Type 0} (p : Y → Bool) (f : X → Y) (xs : List X) → count_by p (map f xs) ≡ count_by (λ x. p (f x)) xs
count_by-map p f [] = refl
count_by-map p f (x ∷ xs) =
    count_by-cons p (f x) (map f xs) ∙ ap (λ n. cond (p (f x)) 1 0 + n) (count_by-map p f xs) ∙ sym (count_by-cons (λ y. p (f y)) x xs)

-- a member counts at most as much by a test as by one that it implies
one_le : (a b : Bool) → (a ≡ true → b ≡ true) → cond {A = ℕ} a 1 0 ≤ cond b 1 0
one_le true true h = le_refl _
one_le true false h = absurd (true≢false (sym (h refl)))
one_le false true h = omega arith
one_le false false h = le_refl _

-- who passes the one test passes the other
pub count_by-mono : {X : Type 0} (p r : X → Bool) → ((x : X) → p x ≡ true → r x ≡ true) → (xs : List X) → count_by p xs ≤ count_by r xs
count_by-mono p r h [] = le_refl _
count_by-mono p r h (x ∷ xs) =
    omega (arith, count_by-cons p x xs, count_by-cons r x xs, one_le (p x) (r x) (h x), count_by-mono p r h xs)

-- a member counts at most once by two tests that it doesn't both pass
one_of : (a b : Bool) → (a && b) ≡ false → cond {A = ℕ} a 1 0 + cond b 1 0 ≤ 1
one_of true true h = absurd (true≢false h)
one_of true false h = omega arith
one_of false true h = omega arith
one_of false false h = omega arith

-- two tests that no member passes both pass at most all members together
pub count_by-apart : {X : Type 0} (p r : X → Bool) (xs : List X) → list_any (λ x. p x && r x) xs ≡ false → count_by p xs + count_by r xs ≤ length xs
count_by-apart p r [] h = omega arith
count_by-apart p r (x ∷ xs) h =
    let parts = or_parts (p x && r x) (list_any (λ y. p y && r y) xs) h in
    omega (arith, count_by-cons p x xs, count_by-cons r x xs, one_of (p x) (r x) parts.0, count_by-apart p r xs parts.1)

-- two tests that together pass more than all members pass one of them both
pub list_any_shared : {X : Type 0} (p r : X → Bool) (xs : List X) → length xs < count_by p xs + count_by r xs → list_any (λ x. p x && r x) xs ≡ true
list_any_shared p r xs many = go (list_any (λ x. p x && r x) xs) refl
  where
    go : (t : Bool) → list_any (λ x. p x && r x) xs ≡ t → list_any (λ x. p x && r x) xs ≡ true
    go true e = e
    go false e = absurd (omega (arith, count_by-apart p r xs e))

-- one number more
pub count_by-map-upto_more : (p : ℕ → Bool) (f : ℕ → ℕ) (i : ℕ) → count_by p (map f (upto (i + 1))) ≡ count_by p (map f (upto i)) + cond (p (f i)) 1 0
count_by-map-upto_more p f i =
    ap (λ n. count_by p (map f (upto n))) (add-one i) ∙ ap (count_by p) (map-append f (upto i) (i ∷ []))
    ∙ sum_by_push (λ x. cond (p x) 1 0) (map f (upto i)) (f i)

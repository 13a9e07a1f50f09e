-- What holds of each item of a list, or of a value where there is one.
use Rattle.std.proofs.Common.{ℕ, zero, suc, Bool, true, false, cond, List, [], ◌∷◌, ◌++◌, take, drop, map, Result, Ok, Err}
use Rattle.std.specs.Prelude.{slice_get}
use Rattle.std.specs.List.{AllByRecursion, flat_map}
pub use Rattle.dl_rules_client.specs.EventRanges.{AllSome}

-- what holds of both sides of a test holds of it
pub cond_both : {A : Type 0} (P : A → Type 0) (t : Bool) (x y : A) → P x → P y → P (cond t x y)
cond_both P true x y h k = h
cond_both P false x y h k = k

-- nothing is asked of a value
abbrev pub Any : {A : Type 0} → A → Type 0
Any a = Unit {0}

-- it holds of the value, where there is no error
abbrev pub AllOk : {A E : Type 0} → Result A E → (A → Type 0) → Type 0
AllOk (Ok x) P = P x
AllOk (Err e) P = Unit {0}

-- what holds of each of two lists holds of each of both in a row
pub all-append : {A : Type 0} (P : A → Type 0) (xs ys : List A) → AllByRecursion P xs → AllByRecursion P ys → AllByRecursion P (xs ++ ys)
all-append P [] ys a b = b
all-append P (x ∷ xs) ys a b = (a.0, all-append P xs ys a.1 b)

-- one item more at the end
pub all-last : {A : Type 0} (P : A → Type 0) (xs : List A) (x : A) → AllByRecursion P xs → P x → AllByRecursion P (xs ++ x ∷ [])
all-last P xs x a b = all-append P xs (x ∷ []) a (b, tt)

-- what holds of each item holds of the first of them
pub all-take : {A : Type 0} (P : A → Type 0) (n : ℕ) (xs : List A) → AllByRecursion P xs → AllByRecursion P (take n xs)
all-take P zero xs a = tt
all-take P (suc n) [] a = tt
all-take P (suc n) (x ∷ xs) a = (a.0, all-take P n xs a.1)

-- and of the others
pub all-drop : {A : Type 0} (P : A → Type 0) (n : ℕ) (xs : List A) → AllByRecursion P xs → AllByRecursion P (drop n xs)
all-drop P zero xs a = a
all-drop P (suc n) [] a = tt
all-drop P (suc n) (x ∷ xs) a = all-drop P n xs a.1

-- what holds of each item gives what holds of its image
pub all-map : {A B : Type 0} (P : A → Type 0) (Q : B → Type 0) (f : A → B) → ((x : A) → P x → Q (f x)) → (xs : List A)
    → AllByRecursion P xs → AllByRecursion Q (map f xs)
all-map P Q f h [] a = tt
all-map P Q f h (x ∷ xs) a = (h x a.0, all-map P Q f h xs a.1)

-- the same where each image is a list
pub all-flat : {A B : Type 0} (P : A → Type 0) (Q : B → Type 0) (f : A → List B) → ((x : A) → P x → AllByRecursion Q (f x)) → (xs : List A)
    → AllByRecursion P xs → AllByRecursion Q (flat_map f xs)
all-flat P Q f h [] a = tt
all-flat P Q f h (x ∷ xs) a = all-append Q (f x) (flat_map f xs) (h x a.0) (all-flat P Q f h xs a.1)

-- what holds of each item holds of the one at a place, where there is one
pub all-get : {A : Type 0} (P : A → Type 0) (xs : List A) (k : ℕ) → AllByRecursion P xs → AllSome P (slice_get xs k)
all-get P [] k a = tt
all-get P (x ∷ xs) zero a = a.0
all-get P (x ∷ xs) (suc k) a = all-get P xs k a.1

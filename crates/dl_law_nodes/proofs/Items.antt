-- Items in lists: what is found in two lists in a row, and fences that are last.
use Rattle.std.proofs.Common.{◌≡◌, ℕ, Bool, true, false, ◌||◌, ◌==◌, List, [], ◌∷◌, ◌++◌, Option, Some, None, refl, sym, ap, ◌∙◌, subst, inl, inr, ◌⊎◌}
use Rattle.std.proofs.Common.{option_to_list, append-nil}
use Rattle.std.specs.List.{list_any, AllByRecursion}
use Rattle.std.proofs.lemmas.Bool.{true≢false, eqb-true, eq-eqb, ne_eqb, or_cases, or_left, or_right, or_parts, or_from, and_left}
use Rattle.std.proofs.lemmas.List.Folds.{list_any-append}
use Rattle.dl_rules_nodes.specs.Items.{Item, AddItem, CopyItem, FenceItem, is_add, is_entry, is_fence}
use Rattle.dl_law_nodes.specs.Promises.{AddsNone, FencesLast}

-- ---- two lists in a row

-- what is found in the first of two lists
pub any_left : {A : Type 0} (p : A → Bool) (xs ys : List A) → list_any p xs ≡ true → list_any p (xs ++ ys) ≡ true
any_left p xs ys h = list_any-append p xs ys ∙ or_left _ _ h

-- and in the second
pub any_right : {A : Type 0} (p : A → Bool) (xs ys : List A) → list_any p ys ≡ true → list_any p (xs ++ ys) ≡ true
any_right p xs ys h = list_any-append p xs ys ∙ or_right _ _ h

-- what is found in neither
pub any_none : {A : Type 0} (p : A → Bool) (xs ys : List A) → list_any p xs ≡ false → list_any p ys ≡ false → list_any p (xs ++ ys) ≡ false
any_none p xs ys a b = list_any-append p xs ys ∙ or_from _ _ a b

-- what is not found in both is found in neither
pub any_parts : {A : Type 0} (p : A → Bool) (xs ys : List A) → list_any p (xs ++ ys) ≡ false → (list_any p xs ≡ false) × (list_any p ys ≡ false)
any_parts p xs ys h = or_parts _ _ (sym (list_any-append p xs ys) ∙ h)

-- what is found by a test is found by a weaker one
pub any_weaker : {A : Type 0} (p q : A → Bool) → ((x : A) → p x ≡ true → q x ≡ true) → (xs : List A) → list_any p xs ≡ true → list_any q xs ≡ true
any_weaker p q h [] e = e
any_weaker p q h (x ∷ xs) e = go (or_cases (p x) (list_any p xs) e) (any_weaker p q h xs)
  where
    go : (p x ≡ true) ⊎ (list_any p xs ≡ true) → (list_any p xs ≡ true → list_any q xs ≡ true) → (q x || list_any q xs) ≡ true
    go (inl a) rest = or_left _ _ (h x a)
    go (inr a) rest = or_right _ _ (rest a)

-- what holds of each item of two lists in a row holds of each of the first
pub all_front : {A : Type 0} (P : A → Type 0) (xs ys : List A) → AllByRecursion P (xs ++ ys) → AllByRecursion P xs
all_front P [] ys a = tt
all_front P (x ∷ xs) ys a = (a.0, all_front P xs ys a.1)

-- what holds of each item is weaker
pub all_weaker : {A : Type 0} (P Q : A → Type 0) → ((x : A) → P x → Q x) → (xs : List A) → AllByRecursion P xs → AllByRecursion Q xs
all_weaker P Q h [] a = tt
all_weaker P Q h (x ∷ xs) a = (h x a.0, all_weaker P Q h xs a.1)

-- an item that adds an entry has it
pub add_is_entry : (l e : ℕ) (x : Item) → is_add l e x ≡ true → is_entry l e x ≡ true
add_is_entry l e (AddItem m f n bytes) h = h
add_is_entry l e (CopyItem m f n bytes) h = absurd (true≢false (sym h))
add_is_entry l e (FenceItem m) h = absurd (true≢false (sym h))

-- ---- fences that are last

-- an item that may be put behind others: one that adds no entry of a ledger that is fenced among them
abbrev pub MayFollow : List Item → Item → Type 0
MayFollow items (AddItem l e n bytes) = list_any (is_fence l) items ≡ false
MayFollow items (CopyItem l e n bytes) = Unit {0}
MayFollow items (FenceItem l) = Unit {0}

-- the same of an item where there is one
abbrev pub MayWait : List Item → Option Item → Type 0
MayWait items None = Unit {0}
MayWait items (Some x) = MayFollow items x

-- the first of two lists in a row
pub fences_front : (xs ys : List Item) → FencesLast (xs ++ ys) → FencesLast xs
fences_front [] ys h = tt
fences_front (AddItem l e n bytes ∷ xs) ys h = fences_front xs ys h
fences_front (CopyItem l e n bytes ∷ xs) ys h = fences_front xs ys h
fences_front (FenceItem l ∷ xs) ys h = (λ e. (any_parts (is_add l e) xs ys (h.0 e)).0, fences_front xs ys h.1)

-- behind a list with a fence no entry of its ledger is added
pub none_behind : (l : ℕ) (xs ys : List Item) → FencesLast (xs ++ ys) → list_any (is_fence l) xs ≡ true → AddsNone l ys
none_behind l [] ys h w = absurd (true≢false (sym w))
none_behind l (AddItem m f n bytes ∷ xs) ys h w = none_behind l xs ys h w
none_behind l (CopyItem m f n bytes ∷ xs) ys h w = none_behind l xs ys h w
none_behind l (FenceItem m ∷ xs) ys h w = go (or_cases (m == l) (list_any (is_fence l) xs) w) (none_behind l xs ys h.1)
  where
    go : ((m == l) ≡ true) ⊎ (list_any (is_fence l) xs ≡ true) → (list_any (is_fence l) xs ≡ true → AddsNone l ys) → AddsNone l ys
    go (inl a) rest = subst (λ x. AddsNone x ys) (eqb-true m l a) (λ e. (any_parts (is_add m e) xs ys (h.0 e)).1)
    go (inr a) rest = rest a

-- an item that may follow a list may follow all but its first
may_follow_rest : (y : Item) (xs : List Item) (x : Item) → MayFollow (y ∷ xs) x → MayFollow xs x
may_follow_rest y xs (AddItem l e n bytes) a = (or_parts _ _ a).1
may_follow_rest y xs (CopyItem l e n bytes) a = tt
may_follow_rest y xs (FenceItem l) a = tt

-- an item that may follow a fence adds no entry of its ledger
pub not_added : (l e : ℕ) (xs : List Item) (x : Item) → list_any (is_fence l) xs ≡ true → MayFollow xs x → is_add l e x ≡ false
not_added l e xs (AddItem m f n bytes) w a =
    and_left _ _ (ne_eqb m l (λ s. true≢false (sym w ∙ ap (λ i. list_any (is_fence i) xs) (sym s) ∙ a)))
not_added l e xs (CopyItem m f n bytes) w a = refl
not_added l e xs (FenceItem m) w a = refl

-- a list that begins with a fence of a ledger has one
first_fences : (l : ℕ) (xs : List Item) → list_any (is_fence l) (FenceItem l ∷ xs) ≡ true
first_fences l xs = or_left _ _ (eq-eqb l l refl)

-- one item more
pub fences_more : (xs : List Item) (x : Item) → FencesLast xs → MayFollow xs x → FencesLast (xs ++ x ∷ [])
fences_more [] (AddItem l e n bytes) h a = tt
fences_more [] (CopyItem l e n bytes) h a = tt
fences_more [] (FenceItem l) h a = (λ e. refl, tt)
fences_more (AddItem l e n bytes ∷ xs) x h a = fences_more xs x h (may_follow_rest (AddItem l e n bytes) xs x a)
fences_more (CopyItem l e n bytes ∷ xs) x h a = fences_more xs x h (may_follow_rest (CopyItem l e n bytes) xs x a)
fences_more (FenceItem l ∷ xs) x h a = (
  λ e. any_none (is_add l e) xs (x ∷ []) (h.0 e) (or_from _ _ (not_added l e (FenceItem l ∷ xs) x (first_fences l xs) a) refl),
  fences_more xs x h.1 (may_follow_rest (FenceItem l) xs x a),
)

-- one item more, where there is one
pub fences_with : (xs : List Item) (x : Option Item) → FencesLast xs → MayWait xs x → FencesLast (xs ++ option_to_list x)
fences_with xs None h a = subst FencesLast (sym (append-nil xs)) h
fences_with xs (Some x) h a = fences_more xs x h a

-- an item that may wait behind a fence adds no entry of its ledger
pub waits_apart : (l e : ℕ) (xs : List Item) (x : Option Item) → list_any (is_fence l) xs ≡ true → MayWait xs x → list_any (is_add l e) (option_to_list x) ≡ false
waits_apart l e xs None w a = refl
waits_apart l e xs (Some x) w a = or_from _ _ (not_added l e xs x w a) refl

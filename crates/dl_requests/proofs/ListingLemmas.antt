-- A stable sort of segments by their numbers is what the rules make of them.
use Rattle.std.proofs.Common.{◌≡◌, ℕ, suc, ◌<◌, ◌≤◌, Bool, true, false, not, ◌&&◌, nat_lt, if◌then◌else◌, List, [], ◌∷◌}
use Rattle.std.proofs.Common.{◌++◌, length, get_or, filter, flat_map, option_to_list, Option, Some, None, IfSome, refl, sym, ap, subst, ◌∙◌, arith}
use Rattle.std.specs.Ordering.{nat_cmp, is_lt}
use Rattle.std.specs.List.Sorted.{ties, IsNonDecreasingBy, IsStableByKey}
use Rattle.std.proofs.lemmas.Bool.Decides.{nat_tests}
use Rattle.std.proofs.lemmas.List.{append-nil, append_assoc}
use Rattle.dl_formats.specs.declared.segment_name.SegmentName.{SegmentName}
use Rattle.dl_formats.specs.declared.segment_name.SegmentName.TheVariants.{Progress, Completed}
use Rattle.dl_formats.specs.Children.{IsSegmentName}
use Rattle.dl_formats.specs.NodeBytes.{ten_nines}
use Rattle.dl_rules_stream.specs.Listings.{segment_in, segments_of, number_of, with_segment, sorted_into, last_segment}
use Rattle.dl_rules_stream.proofs.NameLaws.{names_are_read}

-- whether two segments have one number
abbrev tie : SegmentName → SegmentName → Bool
tie = ties (λ x y. is_lt (nat_cmp (number_of x) (number_of y)))

-- each of the segments has at least this number
abbrev AreFrom : ℕ → List SegmentName → Type 0
AreFrom k [] = Unit {0}
AreFrom k (x ∷ xs) = (k ≤ number_of x) × AreFrom k xs

-- the numbers of the segments rise or stay
abbrev Rise : List SegmentName → Type 0
Rise [] = Unit {0}
Rise (x ∷ xs) = AreFrom (number_of x) xs × Rise xs

-- ---- ties

-- equal numbers tie
tie_of : (a b : ℕ) → a ≡ b → (not (is_lt (nat_cmp a b)) && not (is_lt (nat_cmp b a))) ≡ true
tie_of a b e = grind (arith, nat_tests)

-- a lesser number has no tie with a greater one
tie_below : (a b : ℕ) → a < b → (not (is_lt (nat_cmp a b)) && not (is_lt (nat_cmp b a))) ≡ false
tie_below a b lt = grind (arith, nat_tests)

-- nor a greater one with a lesser
tie_above : (a b : ℕ) → b < a → (not (is_lt (nat_cmp a b)) && not (is_lt (nat_cmp b a))) ≡ false
tie_above a b lt = grind (arith, nat_tests)

-- numbers that tie are equal
tied : (a b : ℕ) → (not (is_lt (nat_cmp a b)) && not (is_lt (nat_cmp b a))) ≡ true → a ≡ b
tied a b e = grind (arith, nat_tests)

-- segments of greater numbers have no tie with one
none_tie : (w : SegmentName) (k : ℕ) (xs : List SegmentName) → number_of w < k → AreFrom k xs → filter (tie w) xs ≡ []
none_tie w k [] lt from = refl
none_tie w k (x ∷ xs) lt from = rw (tie_below (number_of w) (number_of x) (omega (arith, lt, from.0))) (none_tie w k xs lt from.1)

-- ---- one segment more

-- what is at least the greater is at least the lesser
from_less : (j k : ℕ) (xs : List SegmentName) → j ≤ k → AreFrom k xs → AreFrom j xs
from_less j k [] le from = tt
from_less j k (x ∷ xs) le from = (omega (arith, le, from.0), from_less j k xs le from.1)

-- with one more that is at least it, all are
placed_from : (k : ℕ) (x : SegmentName) (ys : List SegmentName) → k ≤ number_of x → AreFrom k ys → AreFrom k (with_segment x ys)
placed_from k x [] le from = (le, tt)
placed_from k x (y ∷ ys) le from = go (nat_lt (number_of x) (number_of y)) (placed_from k x ys le from.1)
  where
    go : (b : Bool) → AreFrom k (with_segment x ys) → AreFrom k (if b then x ∷ y ∷ ys else y ∷ with_segment x ys)
    go true rest = (le, from)
    go false rest = (from.0, rest)

-- it is placed among numbers that rise
placed_rises : (x : SegmentName) (ys : List SegmentName) → Rise ys → Rise (with_segment x ys)
placed_rises x [] rise = (tt, tt)
placed_rises x (y ∷ ys) rise = go (nat_lt (number_of x) (number_of y)) refl (placed_rises x ys rise.1)
  where
    go : (b : Bool) → nat_lt (number_of x) (number_of y) ≡ b → Rise (with_segment x ys) → Rise (if b then x ∷ y ∷ ys else y ∷ with_segment x ys)
    go true e rest = let lt : number_of x < number_of y = grind (arith, nat_tests) in
        ((omega (arith, lt), from_less (number_of x) (number_of y) ys (omega (arith, lt)) rise.0), rise)
    go false e rest = (placed_from (number_of y) x ys (grind (arith, nat_tests)) rise.0, rest)

-- it stands behind those that it has a tie with
placed_ties : (w x : SegmentName) (ys : List SegmentName) → Rise ys → filter (tie w) (with_segment x ys) ≡ filter (tie w) ys ++ filter (tie w) (x ∷ [])
placed_ties w x [] rise = refl
placed_ties w x (y ∷ ys) rise = go (nat_lt (number_of x) (number_of y)) refl (placed_ties w x ys rise.1)
  where
    front : (b : Bool) → tie w x ≡ b → number_of x < number_of y
        → filter (tie w) (x ∷ y ∷ ys) ≡ filter (tie w) (y ∷ ys) ++ filter (tie w) (x ∷ [])
    front false e lt = rw e (sym (append-nil (filter (tie w) (y ∷ ys))))
    front true e lt =
        let same : number_of w ≡ number_of x = tied (number_of w) (number_of x) e in
        let none : filter (tie w) (y ∷ ys) ≡ [] = none_tie w (number_of y) (y ∷ ys) (omega (arith, lt, same)) (omega arith, rise.0) in
        rw e (rw none refl)

    behind : (b : Bool) → tie w y ≡ b → filter (tie w) (with_segment x ys) ≡ filter (tie w) ys ++ filter (tie w) (x ∷ [])
        → filter (tie w) (y ∷ with_segment x ys) ≡ filter (tie w) (y ∷ ys) ++ filter (tie w) (x ∷ [])
    behind true e rest = rw e (ap (λ zs. y ∷ zs) rest)
    behind false e rest = rw e rest

    go : (b : Bool) → nat_lt (number_of x) (number_of y) ≡ b → filter (tie w) (with_segment x ys) ≡ filter (tie w) ys ++ filter (tie w) (x ∷ [])
        → filter (tie w) (if b then x ∷ y ∷ ys else y ∷ with_segment x ys) ≡ filter (tie w) (y ∷ ys) ++ filter (tie w) (x ∷ [])
    go true e rest = front (tie w x) refl (grind (arith, nat_tests))
    go false e rest = behind (tie w y) refl rest

-- ---- all of them

-- what the rules make rises
sorted_rises : (ys xs : List SegmentName) → Rise ys → Rise (sorted_into ys xs)
sorted_rises ys [] rise = rise
sorted_rises ys (x ∷ xs) rise = sorted_rises (with_segment x ys) xs (placed_rises x ys rise)

-- the ties of the first, and of the others
one_more : (w x : SegmentName) (xs : List SegmentName) → filter (tie w) (x ∷ []) ++ filter (tie w) xs ≡ filter (tie w) (x ∷ xs)
one_more w x xs = go (tie w x) refl
  where
    go : (b : Bool) → tie w x ≡ b → filter (tie w) (x ∷ []) ++ filter (tie w) xs ≡ filter (tie w) (x ∷ xs)
    go true e = rw e refl
    go false e = rw e refl

-- those that tie keep their order
sorted_ties : (w : SegmentName) (ys xs : List SegmentName) → Rise ys
    → filter (tie w) (sorted_into ys xs) ≡ filter (tie w) ys ++ filter (tie w) xs
sorted_ties w ys [] rise = sym (append-nil (filter (tie w) ys))
sorted_ties w ys (x ∷ xs) rise =
    sorted_ties w (with_segment x ys) xs (placed_rises x ys rise) ∙ ap (λ zs. zs ++ filter (tie w) xs) (placed_ties w x ys rise)
    ∙ append_assoc (filter (tie w) ys) (filter (tie w) (x ∷ [])) (filter (tie w) xs) ∙ ap (λ zs. filter (tie w) ys ++ zs) (one_more w x xs)

-- ---- there is one such list

-- the first has a tie with itself
first_tie : (x : SegmentName) (xs : List SegmentName) → filter (tie x) (x ∷ xs) ≡ x ∷ filter (tie x) xs
first_tie x xs = rw (tie_of (number_of x) (number_of x) refl) refl

-- the first of the one isn't below that of the other
first_least : (x y : SegmentName) (xs ys : List SegmentName) → Rise (y ∷ ys)
    → filter (tie x) (x ∷ xs) ≡ filter (tie x) (y ∷ ys) → number_of y ≤ number_of x
first_least x y xs ys rise same = go (nat_lt (number_of x) (number_of y)) refl
  where
    go : (b : Bool) → nat_lt (number_of x) (number_of y) ≡ b → number_of y ≤ number_of x
    go false e = grind (arith, nat_tests)
    go true e =
        let lt : number_of x < number_of y = grind (arith, nat_tests) in
        let none : filter (tie x) (y ∷ ys) ≡ [] = none_tie x (number_of y) (y ∷ ys) lt (omega arith, rise.0) in
        let clash : x ∷ filter (tie x) xs ≡ [] = sym (first_tie x xs) ∙ same ∙ none in
        absurd cc

-- without a first that both have, the ties are still the same
rest_ties : (w x : SegmentName) (xs ys : List SegmentName) → filter (tie w) (x ∷ xs) ≡ filter (tie w) (x ∷ ys)
    → filter (tie w) xs ≡ filter (tie w) ys
rest_ties w x xs ys = go (tie w x)
  where
    go : (b : Bool) → (if b then x ∷ filter (tie w) xs else filter (tie w) xs) ≡ (if b then x ∷ filter (tie w) ys else filter (tie w) ys)
        → filter (tie w) xs ≡ filter (tie w) ys
    go true e = cc
    go false e = e

-- lists whose numbers rise, and whose ties are the same, are one list
one_list : (xs ys : List SegmentName) → Rise xs → Rise ys → ((w : SegmentName) → filter (tie w) xs ≡ filter (tie w) ys) → xs ≡ ys
one_list [] [] up rise same = refl
one_list [] (y ∷ ys) up rise same = let clash : [] ≡ y ∷ filter (tie y) ys = same y ∙ first_tie y ys in absurd cc
one_list (x ∷ xs) [] up rise same = let clash : x ∷ filter (tie x) xs ≡ [] = sym (first_tie x xs) ∙ same x in absurd cc
one_list (x ∷ xs) (y ∷ ys) up rise same =
    let above : number_of y ≤ number_of x = first_least x y xs ys rise (same x) in
    let below : number_of x ≤ number_of y = first_least y x ys xs up (sym (same y)) in
    let heads : x ∷ filter (tie x) xs ≡ y ∷ filter (tie x) ys =
    sym (first_tie x xs) ∙ same x ∙ tied_first x y ys (omega (arith, above, below)) in
    let first : x ≡ y = cc in
    ap (λ z. z ∷ xs) first ∙ ap (λ zs. y ∷ zs) (one_list xs ys up.1 rise.1 (λ w. rest_ties w y xs ys
    (subst (λ (z : SegmentName). filter (tie w) (z ∷ xs) ≡ filter (tie w) (y ∷ ys)) first (same w))))
  where
    tied_first : (x y : SegmentName) (ys : List SegmentName) → number_of x ≡ number_of y → filter (tie x) (y ∷ ys) ≡ y ∷ filter (tie x) ys
    tied_first x y ys e = rw (tie_of (number_of x) (number_of y) e) refl

-- ---- from the sort

-- each by its place
from_index : (k : ℕ) (xs : List SegmentName) → ((j : ℕ) (d : SegmentName) → j < length xs → k ≤ number_of (get_or xs j d)) → AreFrom k xs
from_index k [] h = tt
from_index k (x ∷ xs) h = (h 0 x (omega arith), from_index k xs (λ j d lt. h (suc j) d (omega (arith, lt))))

-- numbers that don't fall by places rise
rise_from : (xs : List SegmentName) → IsNonDecreasingBy number_of xs → Rise xs
rise_from [] h = tt
rise_from (x ∷ xs) h = (
  from_index (number_of x) xs (λ j d lt. h 0 (suc j) d (omega arith) (omega (arith, lt))),
  rise_from xs (λ i j d le lt. h (suc i) (suc j) d (omega (arith, le)) (omega (arith, lt))),
)

-- what a stable sort by the numbers makes is what the rules make
pub sort_is : (xs ys : List SegmentName) → IsNonDecreasingBy number_of ys → IsStableByKey number_of nat_cmp xs ys → ys ≡ sorted_into [] xs
sort_is xs ys up stable =
    one_list ys (sorted_into [] xs) (rise_from ys up) (sorted_rises [] xs tt) (λ w. stable w ∙ sym (sorted_ties w [] xs tt))

-- ---- numbers of ten digits

-- the numbers of the segments have ten digits
abbrev AreShort : List SegmentName → Type 0
AreShort [] = Unit {0}
AreShort (x ∷ xs) = (number_of x ≤ ten_nines) × AreShort xs

-- the number in a segment's name has ten digits
short_name : (x : SegmentName) → IsSegmentName x → number_of x ≤ ten_nines
short_name (Progress k) is = omega (arith, is.1)
short_name (Completed k) is = omega (arith, is.1)

-- so have those of the names of a listing
named_short : (names : List (List ℕ)) → AreShort (flat_map (λ name. option_to_list (segment_in name)) names)
named_short [] = tt
named_short (name ∷ names) = go (segment_in name) refl (named_short names)
  where
    go : (read : Option SegmentName) → segment_in name ≡ read → AreShort (flat_map (λ name. option_to_list (segment_in name)) names)
        → AreShort (option_to_list read ++ flat_map (λ name. option_to_list (segment_in name)) names)
    go None e rest = rest
    go (Some x) e rest = (short_name x (names_are_read.segment_found name x e).0, rest)

-- one more of ten digits
placed_short : (x : SegmentName) (ys : List SegmentName) → number_of x ≤ ten_nines → AreShort ys → AreShort (with_segment x ys)
placed_short x [] le short = (le, tt)
placed_short x (y ∷ ys) le short = go (nat_lt (number_of x) (number_of y)) (placed_short x ys le short.1)
  where
    go : (b : Bool) → AreShort (with_segment x ys) → AreShort (if b then x ∷ y ∷ ys else y ∷ with_segment x ys)
    go true rest = (le, short)
    go false rest = (short.0, rest)

-- all of them, sorted
sorted_short : (ys xs : List SegmentName) → AreShort ys → AreShort xs → AreShort (sorted_into ys xs)
sorted_short ys [] short more = short
sorted_short ys (x ∷ xs) short more = sorted_short (with_segment x ys) xs (placed_short x ys more.0 short) more.1

-- and the last of them
last_of_short : (xs : List SegmentName) → AreShort xs → IfSome (last_segment xs) (λ x. number_of x ≤ ten_nines)
last_of_short [] short = tt
last_of_short (x ∷ []) short = short.0
last_of_short (x ∷ y ∷ ys) short = last_of_short (y ∷ ys) short.1

-- the last of the segments that are listed has ten digits
pub last_short : (names : List (List ℕ)) → IfSome (last_segment (segments_of names)) (λ x. number_of x ≤ ten_nines)
unfolding segments_of
last_short names = last_of_short (segments_of names) (sorted_short [] _ tt (named_short names))

-- ---- the last

-- the last of some segments, or this where there is none
abbrev pub last_or : Option SegmentName → List SegmentName → Option SegmentName
last_or last [] = last
last_or last (x ∷ xs) = last_or (Some x) xs

-- the last of some is that of the list with one before them
last_behind : (x : SegmentName) (xs : List SegmentName) → last_or (Some x) xs ≡ last_segment (x ∷ xs)
last_behind x [] = refl
last_behind x (y ∷ ys) = last_behind y ys

-- it is that of the rules
pub last_is : (xs : List SegmentName) → last_or None xs ≡ last_segment xs
last_is [] = refl
last_is (x ∷ xs) = last_behind x xs

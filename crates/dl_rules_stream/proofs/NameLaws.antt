-- Names of children are read as what they name.
use Rattle.std.proofs.Common.{◌≡◌, ℕ, zero, suc, ◌+◌, ◌-◌, ◌*◌, ◌/◌, ◌%◌, ◌^◌, ◌<◌, ◌≤◌, Bool, true, false, cond, ◌&&◌, eqb, leb, leb-true, List, []}
use Rattle.std.proofs.Common.{◌∷◌, ◌++◌, length, take, get_or, Option, Some, None, refl, sym, ap, subst, ◌∙◌, arith, add-one, pow-suc}
use Rattle.std.specs.List.{list_all}
use Rattle.std.proofs.lemmas.Bool.{eqb-true}
use Rattle.std.proofs.lemmas.Bool.Decides.{nat_tests}
use Rattle.std.proofs.lemmas.List.{take_more}
use Rattle.std.proofs.Math.Seq.{take-length}
use Rattle.std.proofs.lemmas.List.Sums.{fold-append}
use Rattle.std.proofs.lemmas.List.Folds.{list_all-append}
use Rattle.dl_formats.specs.declared.segment_name.SegmentName.{SegmentName}
use Rattle.dl_formats.specs.declared.segment_name.SegmentName.TheVariants.{Progress, Completed}
use Rattle.dl_fields.specs.Digits.{digits, HasTenDigits}
use Rattle.dl_formats.specs.Children.{segment_name, IsSegmentName, member_name}
use Rattle.dl_fields.proofs.DigitLemmas.{length-digits, digit_read}
use Rattle.dl_rules_stream.specs.Listings.{is_digit, digits_number, ten_digits_in, segment_by, segment_in, member_in}
use Rattle.dl_rules_stream.specs.Laws.{NamesAreRead}

-- one digit more
spelled_more : (xs : List ℕ) (c : ℕ) → digits_number (xs ++ c ∷ []) ≡ 10 * digits_number xs + (c - 48)
spelled_more xs c = fold-append (λ n c. 10 * n + (c - 48)) 0 xs (c ∷ [])

-- digits spell their number
spelled_digits : (n k : ℕ) → k < 10 ^ n → digits_number (digits n k) ≡ k
spelled_digits zero k h = omega (arith, h)
spelled_digits (suc n) k h =
    let below : k / 10 < 10 ^ n = omega (arith, h, pow-suc 10 n) in
    spelled_more (digits n (k / 10)) (48 + k % 10) ∙ ap (λ m. 10 * m + (48 + k % 10 - 48)) (spelled_digits n (k / 10) below) ∙ omega arith

-- the byte of a digit is a digit
is_digit_of : (d : ℕ) → d < 10 → is_digit (48 + d) ≡ true
is_digit_of d h = grind (arith, nat_tests)

-- the digits of a number are digits
digits_are : (n k : ℕ) → list_all is_digit (digits n k) ≡ true
digits_are zero k = refl
digits_are (suc n) k =
    list_all-append is_digit (digits n (k / 10)) ((48 + k % 10) ∷ [])
    ∙ both (list_all is_digit (digits n (k / 10))) (list_all is_digit ((48 + k % 10) ∷ [])) (digits_are n (k / 10)) (one (k % 10) (omega arith))
  where
    both : (s t : Bool) → s ≡ true → t ≡ true → (s && t) ≡ true
    both true t e f = f
    both false t e f = absurd cc

    one : (d : ℕ) → d < 10 → list_all is_digit ((48 + d) ∷ []) ≡ true
    one d h = rw (is_digit_of d h) refl

-- ten digits that spell a number are read as it
ten_of : (ds : List ℕ) (k : ℕ) → length ds ≡ 10 → list_all is_digit ds ≡ true → digits_number ds ≡ k → ten_digits_in ds ≡ Some k
ten_of ds k l a s = rw l (rw a (ap Some s))

-- the ten digits of a number are read as it
ten_again : (k : ℕ) → HasTenDigits k → ten_digits_in (digits 10 k) ≡ Some k
ten_again k h = ten_of (digits 10 k) k (length-digits 10 k) (digits_are 10 k) (spelled_digits 10 k h)

-- ---- what is read is spelt so

-- where both are true, each is
both_of : (s t : Bool) → (s && t) ≡ true → (s ≡ true) × (t ≡ true)
both_of true t e = (refl, e)
both_of false t e = absurd cc

-- each of the digits is a digit
digit_at : (ds : List ℕ) (i : ℕ) → list_all is_digit ds ≡ true → i < length ds → is_digit (get_or ds i 0) ≡ true
digit_at [] i a lt = absurd (omega (arith, lt))
digit_at (d ∷ ds) zero a lt = (both_of (is_digit d) (list_all is_digit ds) a).0
digit_at (d ∷ ds) (suc i) a lt = digit_at ds i (both_of (is_digit d) (list_all is_digit ds) a).1 (omega (arith, lt))

-- A byte that is a digit, by its value.
record Digit (c : ℕ) : Type 0 where
  pub value : ℕ
  pub below : value < 10
  pub is : c ≡ 48 + value

-- a byte that is a digit is that of a value below ten
digit_of : (c : ℕ) → is_digit c ≡ true → Digit c
digit_of c h =
    let low : 48 ≤ c = leb-true 48 c (both_of (leb 48 c) (leb c 57) h).0 in
    let high : c ≤ 57 = leb-true c 57 (both_of (leb 48 c) (leb c 57) h).1 in
    record { value = c - 48; below = omega (arith, low, high); is = omega (arith, low) }

-- What the first digits spell.
record Prefix (n : ℕ) (ds : List ℕ) : Type 0 where
  pub below : digits_number (take n ds) < 10 ^ n
  pub spelt : digits n (digits_number (take n ds)) ≡ take n ds

-- the first of some digits spell a number of which they are the digits
prefix_of : (n : ℕ) (ds : List ℕ) → n ≤ length ds → list_all is_digit ds ≡ true → Prefix n ds
prefix_of zero ds le a = record { below = omega arith; spelt = refl }
prefix_of (suc n) ds le a =
    let room : n < length ds = omega (arith, le) in
    let p = prefix_of n ds (omega (arith, le)) a in
    let d = digit_of (get_or ds n 0) (digit_at ds n a room) in
    let more : take (n + 1) ds ≡ take n ds ++ get_or ds n 0 ∷ [] = take_more ds n 0 room in
    let value : digits_number (take (n + 1) ds) ≡ digits_number (take n ds) * 10 + d.value =
    ap digits_number more ∙ spelled_more (take n ds) (get_or ds n 0) ∙ one_more (digits_number (take n ds)) (get_or ds n 0) d.value d.is in
    let r = digit_read n (digits_number (take n ds)) d.value ds room d.is d.below p.below p.spelt in
    subst (λ m. Prefix m ds) (add-one n) (record { below = subst (λ v. v < 10 ^ (n + 1)) (sym value) r.0; spelt = ap (digits (n + 1)) value ∙ r.1 })
  where
    one_more : (k c v : ℕ) → c ≡ 48 + v → 10 * k + (c - 48) ≡ k * 10 + v
    one_more k c v e = omega (arith, e)

-- the number in an option, 0 where there is none
abbrev number_in : Option ℕ → ℕ
number_in None = 0
number_in (Some n) = n

-- ten digits of a number
abbrev IsTen : List ℕ → ℕ → Type 0
IsTen ds k = HasTenDigits k × (ds ≡ digits 10 k)

-- ten digits that are read as a number are its digits
ten_found : (ds : List ℕ) (k : ℕ) → ten_digits_in ds ≡ Some k → IsTen ds k
ten_found ds k e = go (eqb (length ds) 10 && list_all is_digit ds) refl e
  where
    whole : length ds ≡ 10 → list_all is_digit ds ≡ true → IsTen ds (digits_number ds)
    whole l a =
        let p = prefix_of (length ds) ds (let le : length ds ≤ length ds = omega arith in le) a in
        let all : take (length ds) ds ≡ ds = take-length ds in
        let below : digits_number ds < 10 ^ length ds = subst (λ (t : List ℕ). digits_number t < 10 ^ length ds) all p.below in
        let spelt : digits (length ds) (digits_number ds) ≡ ds = subst (λ (t : List ℕ). digits (length ds) (digits_number t) ≡ t) all p.spelt in
        (subst (λ n. digits_number ds < 10 ^ n) l below, sym spelt ∙ ap (λ n. digits n (digits_number ds)) l)

    go : (t : Bool) → (eqb (length ds) 10 && list_all is_digit ds) ≡ t → cond t (Some (digits_number ds)) None ≡ Some k → IsTen ds k
    go true t h =
        let b = both_of (eqb (length ds) 10) (list_all is_digit ds) t in
        let w = whole (eqb-true (length ds) 10 b.0) b.1 in
        let same : digits_number ds ≡ k = ap (λ (o : Option ℕ). number_in o) h in
        subst (IsTen ds) same w
    go false t h = absurd cc

-- a number from 1 on is not 0
not_zero : (k : ℕ) → 1 ≤ k → eqb k 0 ≡ false
not_zero k le = grind (arith, nat_tests)

-- the name of a segment is read as it
segment_again : (x : SegmentName) → IsSegmentName x → segment_in (segment_name x) ≡ Some x
unfolding segment_in
segment_again (Progress k) v = ap (segment_by 112) (ten_again k v.1) ∙ rw (not_zero k v.0) refl
segment_again (Completed k) v = ap (segment_by 99) (ten_again k v.1) ∙ rw (not_zero k v.0) refl

-- the name of a member is read as its number
member_again : (n : ℕ) → HasTenDigits n → member_in (member_name n) ≡ Some n
unfolding member_in
member_again n h = ten_again n h

-- what is read of a name
abbrev IsNamed : List ℕ → SegmentName → Type 0
IsNamed name x = IsSegmentName x × (name ≡ segment_name x)

-- equal options hold the same segment
same_segment : (x y : SegmentName) → Some x ≡ Some y → x ≡ y
same_segment x y e = ap (λ (o : Option SegmentName). named_in x o) e
  where
    named_in : SegmentName → Option SegmentName → SegmentName
    named_in x None = x
    named_in x (Some y) = y

-- a number that is not 0 is 1 or more
some_number : (k : ℕ) → eqb k 0 ≡ false → 1 ≤ k
some_number k e = grind (arith, nat_tests)

-- a name that is read as a segment is its name
segment_found : (name : List ℕ) (x : SegmentName) → segment_in name ≡ Some x → IsNamed name x
unfolding segment_in
segment_found [] x e = absurd cc
segment_found (letter ∷ ds) x e = go (ten_digits_in ds) refl e
  where
    by_letter : (k : ℕ) → ten_digits_in ds ≡ Some k → 1 ≤ k → (p c : Bool) → eqb letter 112 ≡ p → eqb letter 99 ≡ c
        → cond p (Some (Progress k)) (cond c (Some (Completed k)) None) ≡ Some x → IsNamed (letter ∷ ds) x
    by_letter k ten some true c l m h =
        let t = ten_found ds k ten in
        subst (IsNamed (letter ∷ ds)) (same_segment (Progress k) x h)
        ((some, t.0), ap (λ n. n ∷ ds) (eqb-true letter 112 l) ∙ ap (λ (ys : List ℕ). 112 ∷ ys) t.1)
    by_letter k ten some false true l m h =
        let t = ten_found ds k ten in
        subst (IsNamed (letter ∷ ds)) (same_segment (Completed k) x h)
        ((some, t.0), ap (λ n. n ∷ ds) (eqb-true letter 99 m) ∙ ap (λ (ys : List ℕ). 99 ∷ ys) t.1)
    by_letter k ten some false false l m h = absurd cc

    by_number : (k : ℕ) → ten_digits_in ds ≡ Some k → (z : Bool) → eqb k 0 ≡ z
        → cond z None (cond (eqb letter 112) (Some (Progress k)) (cond (eqb letter 99) (Some (Completed k)) None)) ≡ Some x → IsNamed (letter ∷ ds) x
    by_number k ten true z h = absurd cc
    by_number k ten false z h = by_letter k ten (some_number k z) (eqb letter 112) (eqb letter 99) refl refl h

    go : (o : Option ℕ) → ten_digits_in ds ≡ o → segment_by letter o ≡ Some x → IsNamed (letter ∷ ds) x
    go None t h = absurd cc
    go (Some k) t h = by_number k t (eqb k 0) refl h

-- a name that is read as a member is its name
member_found : (name : List ℕ) (n : ℕ) → member_in name ≡ Some n → HasTenDigits n × (name ≡ member_name n)
unfolding member_in
member_found [] n e = absurd cc
member_found (letter ∷ []) n e = absurd cc
member_found (letter ∷ dash ∷ ds) n e = go (eqb letter 109 && eqb dash 45) refl e
  where
    go : (t : Bool) → (eqb letter 109 && eqb dash 45) ≡ t → cond t (ten_digits_in ds) None ≡ Some n → HasTenDigits n × (letter ∷ dash ∷ ds ≡ member_name n)
    go true t h =
        let b = both_of (eqb letter 109) (eqb dash 45) t in
        let d = ten_found ds n h in
        (d.0, ap (λ m. m ∷ dash ∷ ds) (eqb-true letter 109 b.0) ∙ ap (λ m. 109 ∷ m ∷ ds) (eqb-true dash 45 b.1) ∙ ap (λ (ys : List ℕ). 109 ∷ 45 ∷ ys) d.1)
    go false t h = absurd cc

-- names are read exactly
pub names_are_read : NamesAreRead
names_are_read = record {
  segment = segment_again;
  member = member_again;
  segment_found = segment_found;
  member_found = member_found;
}

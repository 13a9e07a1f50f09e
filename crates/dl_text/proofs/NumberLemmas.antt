-- Numbers are read exactly.
use Rattle.std.proofs.Common.{◌≡◌, ◌≢◌, ℕ, suc, zero, ◌+◌, ◌-◌, ◌*◌, ◌/◌, ◌%◌, ◌^◌, ◌≤◌, ◌<◌, Bool, true, false, eqb, leb, not, ◌&&◌, List, [], ◌∷◌, ◌++◌}
use Rattle.std.proofs.Common.{length, get_or, Result, Ok, Err, ◌⊎◌, inl, inr, refl, sym, ap, subst, ◌∙◌, append_assoc, arith, length-append, lit<}
use Rattle.std.specs.Fmt.{decimal}
use Rattle.std.specs.Char.{digit_value}
use Rattle.std.specs.Str.Parse.{AllDigits, digits_value, digits_value_after}
use Rattle.std.proofs.lemmas.Str.Parse.{digit_from_value}
use Rattle.std.proofs.lemmas.Fmt.{decimal_digit, decimal_step, first_decimal, decimal_is_IsNumeral, length-decimal-le}
use Rattle.std.proofs.lemmas.Bool.Decides.{nat_tests}
use Rattle.std.proofs.lemmas.Bool.{eqb-true, eqb-false, eq-eqb, leb-true, cases_lt, and_parts}
use Rattle.std.proofs.lemmas.List.{append-nil}
use Rattle.std.specs.Prelude.{IfOk}
use Rattle.dl_text.specs.declared.stop.Stop.{Stop}
use Rattle.dl_text.specs.Readers.{Gives, shared_length, Exact}
use Rattle.dl_text.specs.Numbers.{digits_at, number_at, number, IsWithin, IsNoDigit, IsRange}
use Rattle.dl_text.proofs.ReaderLemmas.{shared_le, begins, ok_is, near_behind}

-- A stop is decided by the bytes up to it, that one included.
pub record StopsEarly {A : Type 0} (read : List ℕ → Result (A × List ℕ) ℕ) (bytes : List ℕ) (left : ℕ) : Type 0 where
  pub front : List ℕ
  pub byte : ℕ
  pub rest : List ℕ
  pub parts : bytes ≡ front ++ byte ∷ rest
  pub size : left ≡ 1 + length rest
  pub always : (more : List ℕ) → (n : ℕ) × (read (front ++ byte ∷ more) ≡ Err n)

-- so no field shares more
pub far_from_stop : {A : Type 0} (V : A → Type 0) (p : A → List ℕ) (r : List ℕ → Result (A × List ℕ) ℕ)
    → ((a : A) (rest : List ℕ) → V a → r (p a ++ rest) ≡ Ok (a, rest)) → (bytes : List ℕ) (left : ℕ) → (left ≡ 0) ⊎ StopsEarly r bytes left → (a : A) → V a
    → shared_length bytes (p a) + left ≤ length bytes
far_from_stop V p r again bytes left (inl e) a valid = omega (arith, shared_le bytes (p a))
far_from_stop {A} V p r again bytes left (inr s) a valid = elim (cases_lt (length s.front) (shared_length bytes (p a))) [
  | inl further ↦ absurd (
      let e : bytes ≡ (s.front ++ s.byte ∷ []) ++ s.rest = s.parts ∙ sym (append_assoc s.front (s.byte ∷ []) s.rest) in
      let long : length (s.front ++ s.byte ∷ []) ≤ shared_length bytes (p a) = omega (arith, length-append s.front (s.byte ∷ [])) in
      let there : length (s.front ++ s.byte ∷ []) ≤ shared_length ((s.front ++ s.byte ∷ []) ++ s.rest) (p a) =
      subst (λ (l : List ℕ). length (s.front ++ s.byte ∷ []) ≤ shared_length l (p a)) e long in
      let m = begins (s.front ++ s.byte ∷ []) s.rest (p a) there in
      let same : p a ++ [] ≡ s.front ++ s.byte ∷ m.0 = append-nil (p a) ∙ m.1 ∙ append_assoc s.front (s.byte ∷ []) m.0 in
      let stop = s.always m.0 in
      let clash : Ok (a, []) ≡ Err stop.0 = sym (again a [] valid) ∙ ap r same ∙ stop.1 in
      cc)
  | inr within ↦ omega (arith, within, s.size, ap length s.parts, length-append s.front (s.byte ∷ s.rest))
]

-- a digit more

-- a digit behind a number above 0 spells ten times the number and the digit
pub decimal_push : (v d : ℕ) → 0 < v → d < 10 → v * 10 + d < 2 ^ 64 → decimal (v * 10 + d) ≡ decimal v ++ (48 + d) ∷ []
decimal_push v d h k small =
    let n = v * 10 + d in
    let ten : 10 ≤ n = omega arith in
    let front : n / 10 ≡ v = omega arith in
    let last : n % 10 ≡ d = omega arith in
    decimal_step n ten small ∙ rw (front, last) refl

-- a byte is a digit, behind a number above 0, and the number stays within the greatest
abbrev fits_digit : ℕ → ℕ → ℕ → Bool
fits_digit high v c = leb 48 c && leb c 57 && not (eqb v 0) && leb (v * 10 + (c - 48)) high

-- what it means that a digit fits: the byte's range, a number above 0, and the new number's bound
fits_parts : (high v c : ℕ) → fits_digit high v c ≡ true → (48 ≤ c) × (c ≤ 57) × (0 < v) × (v * 10 + (c - 48) ≤ high)
fits_parts high v c h =
    let a = and_parts (leb 48 c && leb c 57 && not (eqb v 0)) (leb (v * 10 + (c - 48)) high) h in
    let b = and_parts (leb 48 c && leb c 57) (not (eqb v 0)) a.0 in
    let d = and_parts (leb 48 c) (leb c 57) b.0 in
    let pos : 0 < v = grind (arith, nat_tests, b.1) in
    (leb-true 48 c d.0, leb-true c 57 d.1, pos, leb-true _ _ a.1)

-- what one byte after the value v does
data DigitCase (high end v c : ℕ) : Type 0 where
  ends : c ≡ end → ((t : List ℕ) → digits_at high end v (c ∷ t) ≡ Ok (v, t)) → DigitCase high end v c
  goes : 48 ≤ c → c ≤ 57 → 0 < v → v * 10 + (c - 48) ≤ high → c ≢ end → ((t : List ℕ)
      → digits_at high end v (c ∷ t) ≡ digits_at high end (v * 10 + (c - 48)) t) → DigitCase high end v c
  stops : c ≢ end → ((t : List ℕ) → digits_at high end v (c ∷ t) ≡ Err (1 + length t)) → DigitCase high end v c

-- so it is for the answers of both tests of the byte
digit_case_go : (high end v c : ℕ) (is_end fits : Bool) → eqb c end ≡ is_end → fits_digit high v c ≡ fits → DigitCase high end v c
digit_case_go high end v c true fits t1 t2 = ends (eqb-true c end t1) (λ t. rw t1 refl)
digit_case_go high end v c false true t1 t2 = let f = fits_parts high v c t2 in goes f.0 f.1 f.2 f.3 (eqb-false c end t1) (λ t. rw (t1, t2) refl)
digit_case_go high end v c false false t1 t2 = stops (eqb-false c end t1) (λ t. rw (t1, t2) refl)

-- each byte ends a number, or goes on with it, or stops it
digit_case : (high end v c : ℕ) → DigitCase high end v c
digit_case high end v c = digit_case_go high end v c (eqb c end) (fits_digit high v c) refl refl

-- a digit read behind a number is the spelling of the longer number
push_byte : (v c : ℕ) (t : List ℕ) → 0 < v → 48 ≤ c → c ≤ 57 → v * 10 + (c - 48) < 2 ^ 64 → decimal v ++ c ∷ t ≡ decimal (v * 10 + (c - 48)) ++ t
push_byte v c t pos l h small =
    let e : 48 + (c - 48) ≡ c = omega arith in
    let k : c - 48 < 10 = omega arith in
    rw (decimal_push v (c - 48) pos k small) (rw e (sym (append_assoc (decimal v) (c ∷ []) t)))

-- a number that is read lies from the one begun to the greatest, and is spelt so
digits_found : (high end v : ℕ) (bytes : List ℕ) (n : ℕ) (rest : List ℕ) → high < 2 ^ 64 → v ≤ high → digits_at high end v bytes ≡ Ok (n, rest)
    → (v ≤ n) × (n ≤ high) × (decimal v ++ bytes ≡ number end n ++ rest)
digits_found high end v [] n rest big below e = absurd cc
digits_found high end v (c ∷ cs) n rest big below e = elim (digit_case high end v c) [
  | ends is at ↦
      let pairs : (v, cs) ≡ (n, rest) = ok_is (v, cs) (n, rest) (sym (at cs) ∙ e) in
      let P : ℕ × List ℕ → Type 0 = λ x. (v ≤ x.0) × (x.0 ≤ high) × (decimal v ++ c ∷ cs ≡ number end x.0 ++ x.1) in
      subst P pairs (omega arith, below, rw is (sym (append_assoc (decimal v) (end ∷ []) cs)))
  | goes l h pos fits ne at ↦
      let small : v * 10 + (c - 48) < 2 ^ 64 = omega arith in
      let w = digits_found high end (v * 10 + (c - 48)) cs n rest big fits (sym (at cs) ∙ e) in
      (omega (arith, w.0), w.1, push_byte v c cs pos l h small ∙ w.2)
  | stops ne at ↦ absurd (let clash : Err (1 + length cs) ≡ Ok (n, rest) = sym (at cs) ∙ e in cc)
]

-- where more digits stop, some number in the range shares all that stands before
digits_near : (high end v : ℕ) (bytes : List ℕ) (left : ℕ) → high < 2 ^ 64 → v ≤ high → digits_at high end v bytes ≡ Err left
    → (n : ℕ) × (v ≤ n) × (n ≤ high) × (shared_length (decimal v ++ bytes) (number end n) + left ≡ length (decimal v ++ bytes))
digits_near high end v [] left big below e = (
  v,
  omega arith,
  below,
  near_behind (decimal v ++ []) (decimal v) [] (end ∷ []) left refl
      (let z : Err 0 ≡ Err left = e in let y : 0 ≡ left = cc in omega (arith, y)),
)
digits_near high end v (c ∷ cs) left big below e = elim (digit_case high end v c) [
  | ends is at ↦ absurd (let clash : Ok (v, cs) ≡ Err left = sym (at cs) ∙ e in cc)
  | goes l h pos fits ne at ↦
      let small : v * 10 + (c - 48) < 2 ^ 64 = omega arith in
      let w = digits_near high end (v * 10 + (c - 48)) cs left big fits (sym (at cs) ∙ e) in
      let P : List ℕ → Type 0 = λ t. shared_length t (number end w.0) + left ≡ length t in
      (w.0, omega (arith, w.1), w.2, subst P (sym (push_byte v c cs pos l h small)) w.3)
  | stops ne at ↦
      let all : Err (1 + length cs) ≡ Err left = sym (at cs) ∙ e in
      let size : 1 + length cs ≡ left = cc in
      (v, omega arith, below, near_behind (decimal v ++ c ∷ cs) (decimal v) (c ∷ cs) (end ∷ []) left refl (grind (arith, nat_tests, ne, size)))
]

-- more digits stop at the text's end, or at a byte that decides it with what stands before
digits_early : (high end v : ℕ) (bytes : List ℕ) (left : ℕ) → digits_at high end v bytes ≡ Err left → (left ≡ 0) ⊎ StopsEarly (digits_at high end v) bytes left
digits_early high end v [] left e = inl (let z : Err 0 ≡ Err left = e in cc)
digits_early high end v (c ∷ cs) left e = elim (digit_case high end v c) [
  | ends is at ↦ absurd (let clash : Ok (v, cs) ≡ Err left = sym (at cs) ∙ e in cc)
  | goes l h pos fits ne at ↦ elim (digits_early high end (v * 10 + (c - 48)) cs left (sym (at cs) ∙ e)) [
    | inl z ↦ inl z
    | inr s ↦ inr (record {
      front = c ∷ s.front;
      byte = s.byte;
      rest = s.rest;
      parts = ap (λ (t : List ℕ). c ∷ t) s.parts;
      size = s.size;
      always = λ more. let a = s.always more in (a.0, at (s.front ++ s.byte ∷ more) ∙ a.1);
    })
  ]
  | stops ne at ↦
      let all : Err (1 + length cs) ≡ Err left = sym (at cs) ∙ e in
      inr (record { front = []; byte = c; rest = cs; parts = refl; size = cc; always = λ more. (1 + length more, at more) })
]

-- digits behind a number make none that is less
digits_after_ge : (v : ℕ) (ds : List ℕ) → v ≤ digits_value_after 10 v ds
digits_after_ge v [] = omega arith
digits_after_ge v (c ∷ cs) = omega (arith, digits_after_ge (v * 10 + digit_value c) cs)

-- the value of the digits 0 to 9
digit_value_is : (c : ℕ) → 48 ≤ c → c ≤ 57 → digit_value c ≡ c - 48
digit_value_is c l h = grind (arith, nat_tests)

-- a digit that fits goes on
digits_go : (high end v c : ℕ) (t : List ℕ) → 48 ≤ c → c ≤ 57 → 0 < v → v * 10 + (c - 48) ≤ high → IsNoDigit end
    → digits_at high end v (c ∷ t) ≡ digits_at high end (v * 10 + (c - 48)) t
digits_go high end v c t l h pos fits low = elim (digit_case high end v c) [
  | ends is at ↦ absurd (low c l h is)
  | goes l' h' pos' fits' ne at ↦ at t
  | stops ne at ↦ grind (arith, nat_tests)
]

-- at the end the number is the one so far
digits_end : (high end v : ℕ) (t : List ℕ) → digits_at high end v (end ∷ t) ≡ Ok (v, t)
digits_end high end v t = rw (eq-eqb end end refl) refl

-- digits whose number stays within the greatest are read to the end, whatever follows
digits_again : (high end v : ℕ) (ds rest : List ℕ) → AllDigits 10 ds → 0 < v → digits_value_after 10 v ds ≤ high → IsNoDigit end
    → digits_at high end v (ds ++ end ∷ rest) ≡ Ok (digits_value_after 10 v ds, rest)
digits_again high end v [] rest all pos fits low = digits_end high end v rest
digits_again high end v (c ∷ cs) rest all pos fits low =
    let r = digit_from_value c all.0 in
    let l : 48 ≤ c = r.0 in
    let h : c ≤ 57 = r.1 in
    let is = digit_value_is c l h in
    let ge = digits_after_ge (v * 10 + digit_value c) cs in
    let here : v * 10 + (c - 48) ≤ high = omega (arith, is, ge) in
    digits_go high end v c (cs ++ end ∷ rest) l h pos here low
    ∙ ap (λ (k : ℕ). digits_at high end (v * 10 + k) (cs ++ end ∷ rest)) (sym is)
    ∙ digits_again high end (v * 10 + digit_value c) cs rest all.1 (omega arith) fits low

-- a byte is a digit from the least number on, and not above the greatest
abbrev fits_first : ℕ → ℕ → ℕ → Bool
fits_first low high c = leb (48 + low) c && leb c 57 && leb (c - 48) high

-- a first byte begins a number, or stops at the front
data FirstCase (low high end c : ℕ) : Type 0 where
  goes : 48 + low ≤ c → c ≤ 57 → c - 48 ≤ high → ((t : List ℕ) → number_at low high end (c ∷ t) ≡ digits_at high end (c - 48) t) → FirstCase low high end c
  stops : fits_first low high c ≡ false → ((t : List ℕ) → number_at low high end (c ∷ t) ≡ Err (1 + length t)) → FirstCase low high end c

-- so it is for the answer of the test of the byte
first_case_go : (low high end c : ℕ) (fits : Bool) → fits_first low high c ≡ fits → FirstCase low high end c
first_case_go low high end c true h =
    let a = and_parts (leb (48 + low) c && leb c 57) (leb (c - 48) high) h in
    let b = and_parts (leb (48 + low) c) (leb c 57) a.0 in
    goes (leb-true _ _ b.0) (leb-true _ _ b.1) (leb-true _ _ a.1) (λ t. rw h refl)
first_case_go low high end c false h = stops h (λ t. rw h refl)

-- each first byte begins a number, or stops at the front
first_case : (low high end c : ℕ) → FirstCase low high end c
first_case low high end c = first_case_go low high end c (fits_first low high c) refl

-- a digit is the spelling of its value
one_digit : (c : ℕ) → 48 ≤ c → c ≤ 57 → decimal (c - 48) ≡ c ∷ []
one_digit c l h = let small : c - 48 < 10 = omega arith in let e : 48 + (c - 48) ≡ c = omega arith in decimal_digit (c - 48) small ∙ rw e refl

-- a number that is read lies in the range, and is spelt so
number_found : (low high end : ℕ) → IsRange low high end → (bytes : List ℕ) (n : ℕ) (rest : List ℕ) → number_at low high end bytes ≡ Ok (n, rest)
    → IsWithin low high n × (bytes ≡ number end n ++ rest)
number_found low high end range [] n rest e = absurd cc
number_found low high end range (c ∷ cs) n rest e = elim (first_case low high end c) [
  | goes l h fits at ↦
      let w = digits_found high end (c - 48) cs n rest range.high_fits fits (sym (at cs) ∙ e) in
      let l48 : 48 ≤ c = omega arith in
      ((omega (arith, w.0), w.1), ap (λ (t : List ℕ). t ++ cs) (sym (one_digit c l48 h)) ∙ w.2)
  | stops bad at ↦ absurd (let clash : Err (1 + length cs) ≡ Ok (n, rest) = sym (at cs) ∙ e in cc)
]

-- where a reading of a number stops, some number in the range shares all that stands before
number_near : (low high end : ℕ) → IsRange low high end → (bytes : List ℕ) (left : ℕ) → number_at low high end bytes ≡ Err left
    → (n : ℕ) × IsWithin low high n × (shared_length bytes (number end n) + left ≡ length bytes)
number_near low high end range [] left e = (low, (omega arith, range.low_high), let z : Err 0 ≡ Err left = e in let y : 0 ≡ left = cc in omega (arith, y))
number_near low high end range (c ∷ cs) left e = elim (first_case low high end c) [
  | goes l h fits at ↦
      let w = digits_near high end (c - 48) cs left range.high_fits fits (sym (at cs) ∙ e) in
      let l48 : 48 ≤ c = omega arith in
      let P : List ℕ → Type 0 = λ t. shared_length (t ++ cs) (number end w.0) + left ≡ length (t ++ cs) in
      (w.0, (omega (arith, w.1), w.2), subst P (one_digit c l48 h) w.3)
  | stops bad at ↦
      let all : Err (1 + length cs) ≡ Err left = sym (at cs) ∙ e in
      let size : 1 + length cs ≡ left = cc in
      let small : low < 10 = omega (arith, range.low_small) in
      let apart : c ≢ 48 + low = λ same. grind (arith, nat_tests, bad, same, range.low_small, range.low_high) in
      let P : List ℕ → Type 0 = λ t. shared_length (c ∷ cs) (t ++ end ∷ []) + left ≡ length (c ∷ cs) in
      (low, (omega arith, range.low_high), subst P (sym (decimal_digit low small)) (grind (arith, nat_tests, apart, size)))
]

-- a reading of a number stops at the text's end, or at a byte that decides it with what stands before
number_early : (low high end : ℕ) (bytes : List ℕ) (left : ℕ) → number_at low high end bytes ≡ Err left
    → (left ≡ 0) ⊎ StopsEarly (number_at low high end) bytes left
number_early low high end [] left e = inl (let z : Err 0 ≡ Err left = e in cc)
number_early low high end (c ∷ cs) left e = elim (first_case low high end c) [
  | goes l h fits at ↦ elim (digits_early high end (c - 48) cs left (sym (at cs) ∙ e)) [
    | inl z ↦ inl z
    | inr s ↦ inr (record {
      front = c ∷ s.front;
      byte = s.byte;
      rest = s.rest;
      parts = ap (λ (t : List ℕ). c ∷ t) s.parts;
      size = s.size;
      always = λ more. let a = s.always more in (a.0, at (s.front ++ s.byte ∷ more) ∙ a.1);
    })
  ]
  | stops bad at ↦
      let all : Err (1 + length cs) ≡ Err left = sym (at cs) ∙ e in
      inr (record { front = []; byte = c; rest = cs; parts = refl; size = cc; always = λ more. (1 + length more, at more) })
]

-- digits that spell a number of the range, the first not 0, are read as that number, whatever follows
number_again_go : (low high end n : ℕ) (ds rest : List ℕ) → IsRange low high end → IsWithin low high n → 0 < n → 48 < get_or ds 0 0 → 0 < length ds
    → AllDigits 10 ds → digits_value 10 ds ≡ n → number_at low high end (ds ++ end ∷ rest) ≡ Ok (n, rest)
number_again_go low high end n [] rest range within pos first some all is = absurd (omega arith)
number_again_go low high end n (c ∷ cs) rest range within pos first some all is =
    let r = digit_from_value c all.0 in
    let l : 48 < c = first in
    let l48 : 48 ≤ c = r.0 in
    let h : c ≤ 57 = r.1 in
    let is_c = digit_value_is c l48 h in
    let value : digits_value_after 10 (c - 48) cs ≡ n = ap (λ (k : ℕ). digits_value_after 10 k cs) (omega (arith, is_c)) ∙ is in
    let ge = digits_after_ge (c - 48) cs in
    elim (first_case low high end c) [
      | goes l' h' fits at ↦ at (cs ++ end ∷ rest)
          ∙ digits_again high end (c - 48) cs rest all.1 (omega arith) (omega (arith, value, within.1)) range.end_apart ∙ rw value refl
      | stops bad at ↦ absurd (let small : c - 48 ≤ high = omega (arith, ge, value, within.1) in let low' : 48 + low ≤ c = omega (arith, range.low_small) in
          grind (arith, nat_tests, bad, small, low', h))
    ]

-- the spelling of a number of the range is read as that number, whatever follows
number_again : (low high end n : ℕ) (rest : List ℕ) → IsRange low high end → IsWithin low high n → number_at low high end (number end n ++ rest) ≡ Ok (n, rest)
number_again low high end zero rest range within =
    let e : number end 0 ++ rest ≡ 48 ∷ end ∷ rest = rw (decimal_digit 0 (omega arith)) refl in
    ap (number_at low high end) e ∙ elim (first_case low high end 48) [
      | goes l' h' fits at ↦ at (end ∷ rest) ∙ digits_end high end 0 rest
      | stops bad at ↦ absurd (grind (arith, nat_tests, bad, within.0))
    ]
number_again low high end (suc n) rest range within =
    let small : suc n < 2 ^ 64 = omega (arith, within.1, range.high_fits) in
    let pos : 0 < suc n = omega arith in
    let d = decimal_is_IsNumeral (suc n) small in
    ap (number_at low high end) (append_assoc (decimal (suc n)) (end ∷ []) rest)
    ∙ number_again_go low high end (suc n) (decimal (suc n)) rest range within pos (first_decimal (suc n) pos small) d.0.0 d.0.1 d.1

-- A number is read exactly.
pub number_exact : (low high end : ℕ) → IsRange low high end → Exact (IsWithin low high) (number end) (number_at low high end)
number_exact low high end range = record {
  found = number_found low high end range;
  again = λ n rest within. number_again low high end n rest range within;
  near = number_near low high end range;
  far = λ bytes left e. far_from_stop (IsWithin low high) (number end) (number_at low high end)
      (λ n rest within. number_again low high end n rest range within) bytes left (number_early low high end bytes left e);
}

-- what is read lies in the range
pub digits_within : {B : Type 0} (now : B → List ℕ) (r : Result (ℕ × B) Stop) (low high end v : ℕ) (bytes : List ℕ) → high < 2 ^ 64 → low ≤ v → v ≤ high
    → Gives (λ x. (x.0, now x.1)) r (digits_at high end v bytes) → IfOk r (λ x. IsWithin low high x.0)
digits_within now (Ok x) low high end v bytes big from below given = let f = digits_found high end v bytes x.0 (now x.1) big below given in
    (omega (arith, f.0, from), f.1)
digits_within now (Err e) low high end v bytes big from below given = tt

-- a u64 has at most 20 digits
pub digits_few : (n : ℕ) → n < 2 ^ 64 → length (decimal n) ≤ 20
digits_few n small = length-decimal-le 20 n (lit< tt) (omega arith) small

-- one digit
decimal_1 : (n f : ℕ) → n < 10 → f ≡ 48 + n % 10 → decimal n ≡ f ∷ []
decimal_1 n f h is = decimal_digit n h ∙ ap (λ (k : ℕ). k ∷ []) (omega (arith, is))

-- one digit more
decimal_more : (n d : ℕ) (ds : List ℕ) → 10 ≤ n → n < 1000000 → decimal (n / 10) ≡ ds → d ≡ 48 + n % 10 → decimal n ≡ ds ++ d ∷ []
decimal_more n d ds lo hi front is =
    decimal_step n lo (omega arith) ∙ ap (λ (t : List ℕ). t ++ (48 + n % 10) ∷ []) front ∙ ap (λ (k : ℕ). ds ++ k ∷ []) (sym is)

-- the digits of a number of two
pub decimal_2 : (n e f : ℕ) → 10 ≤ n → n < 100 → e ≡ 48 + n / 10 % 10 → f ≡ 48 + n % 10 → decimal n ≡ e ∷ f ∷ []
decimal_2 n e f lo hi is_e is_f = decimal_more n f (e ∷ []) lo (omega arith) (decimal_1 (n / 10) e (omega arith) is_e) is_f

-- the digits of a number of three
pub decimal_3 : (n d e f : ℕ) → 100 ≤ n → n < 1000 → d ≡ 48 + n / 100 % 10 → e ≡ 48 + n / 10 % 10 → f ≡ 48 + n % 10
    → decimal n ≡ d ∷ e ∷ f ∷ []
decimal_3 n d e f lo hi is_d is_e is_f =
    decimal_more n f (d ∷ e ∷ []) (omega arith) (omega arith)
    (decimal_2 (n / 10) d e (omega arith) (omega arith) (omega (arith, is_d)) is_e) is_f

-- the digits of a number of four
pub decimal_4 : (n c d e f : ℕ) → 1000 ≤ n → n < 10000 → c ≡ 48 + n / 1000 % 10 → d ≡ 48 + n / 100 % 10 → e ≡ 48 + n / 10 % 10
    → f ≡ 48 + n % 10 → decimal n ≡ c ∷ d ∷ e ∷ f ∷ []
decimal_4 n c d e f lo hi is_c is_d is_e is_f =
    decimal_more n f (c ∷ d ∷ e ∷ []) (omega arith) (omega arith)
    (decimal_3 (n / 10) c d e (omega arith) (omega arith) (omega (arith, is_c)) (omega (arith, is_d)) is_e) is_f

-- the digits of a number of five
pub decimal_5 : (n b c d e f : ℕ) → 10000 ≤ n → n < 100000 → b ≡ 48 + n / 10000 % 10 → c ≡ 48 + n / 1000 % 10
    → d ≡ 48 + n / 100 % 10 → e ≡ 48 + n / 10 % 10 → f ≡ 48 + n % 10 → decimal n ≡ b ∷ c ∷ d ∷ e ∷ f ∷ []
decimal_5 n b c d e f lo hi is_b is_c is_d is_e is_f =
    decimal_more n f (b ∷ c ∷ d ∷ e ∷ []) (omega arith) (omega arith)
    (decimal_4 (n / 10) b c d e (omega arith) (omega arith) (omega (arith, is_b)) (omega (arith, is_c)) (omega (arith, is_d)) is_e) is_f

-- the digits of a number of six
pub decimal_6 : (n a b c d e f : ℕ) → 100000 ≤ n → n < 1000000 → a ≡ 48 + n / 100000 % 10 → b ≡ 48 + n / 10000 % 10
    → c ≡ 48 + n / 1000 % 10 → d ≡ 48 + n / 100 % 10 → e ≡ 48 + n / 10 % 10 → f ≡ 48 + n % 10
    → decimal n ≡ a ∷ b ∷ c ∷ d ∷ e ∷ f ∷ []
decimal_6 n a b c d e f lo hi is_a is_b is_c is_d is_e is_f =
    decimal_more n f (a ∷ b ∷ c ∷ d ∷ e ∷ []) (omega arith) hi
    (decimal_5 (n / 10) a b c d e (omega arith) (omega arith) (omega (arith, is_a)) (omega (arith, is_b)) (omega (arith, is_c))
    (omega (arith, is_d)) is_e) is_f

-- digits and the byte behind them, put at the end of a text
pub put_field : (old new digits : List ℕ) (n end : ℕ) → new ≡ old ++ (digits ++ end ∷ []) → decimal n ≡ digits → new ≡ old ++ number end n
put_field old new digits n end grown is = grown ∙ ap (λ (t : List ℕ). old ++ (t ++ end ∷ [])) (sym is)

-- the field of a number of one digit
pub short_field : (n end : ℕ) → n < 10 → (48 + n) ∷ end ∷ [] ≡ number end n
short_field n end h = ap (λ (t : List ℕ). t ++ end ∷ []) (sym (decimal_digit n h))

-- A whole text, and where a text stops to be one.
use Rattle.std.proofs.Common.{◌≡◌, ℕ, suc, ◌+◌, ◌-◌, ◌≤◌, Bool, true, false, cond, eqb, List, [], ◌∷◌, ◌++◌, length, Result}
use Rattle.std.proofs.Common.{Ok, Err, inl, inr, refl, sym, ap, subst, ◌∙◌, append_assoc, arith, length-append}
use Rattle.std.proofs.lemmas.Bool.{eqb-true, cases_lt, cases_eq, ne_eqb}
use Rattle.std.proofs.lemmas.List.{append-nil, nil_from_length}
use Rattle.dl_text.specs.Readers.{shared_length, ◌>>=◌, Exact, whole_field, whole_at}
use Rattle.dl_text.specs.Columns.{IsColumn, StopsAt, column_of, ReadsWhole}
use Rattle.dl_text.proofs.ReaderLemmas.{shared-append, shared-cons, shared-differ, begins, one_way, ok_is, bind_ok, bind_err}

-- where a field is read as the whole text, it is the value, and nothing is left behind it
whole_ok_go : {A : Type 0} (x : A × List ℕ) (a : A) (t : Bool) → eqb (length x.1) 0 ≡ t → cond t (Ok x.0) (Err (length x.1)) ≡ Ok a → (x.0 ≡ a) × (x.1 ≡ [])
whole_ok_go x a true e h = (ok_is {B = ℕ} x.0 a h, nil_from_length x.1 (eqb-true _ _ e))
whole_ok_go x a false e h = absurd cc

-- where a field is not read as the whole text, all that stands behind it is left
whole_err_go : {A : Type 0} (x : A × List ℕ) (left : ℕ) (t : Bool) → eqb (length x.1) 0 ≡ t → cond {A = Result A ℕ} t (Ok x.0) (Err (length x.1)) ≡ Err left
    → length x.1 ≡ left
whole_err_go x left true e h = absurd cc
whole_err_go x left false e h = cc

-- a whole text that an exact reader reads is valid, and spelt so
pub whole_found : {A : Type 0} {V : A → Type 0} {p : A → List ℕ} {r : List ℕ → Result (A × List ℕ) ℕ} → Exact V p r → (bytes : List ℕ) (a : A)
    → whole_at r bytes ≡ Ok a → V a × (bytes ≡ p a)
whole_found {A} {V} {p} {r} exact bytes a e =
    let u = bind_ok (r bytes) whole_field a e in
    let k = whole_ok_go u.0 a (eqb (length u.0.1) 0) refl u.2 in
    let f = exact.found bytes u.0.0 u.0.1 u.1 in
    let text : bytes ≡ p u.0.0 = f.1 ∙ ap (λ (t : List ℕ). p u.0.0 ++ t) k.1 ∙ append-nil (p u.0.0) in
    let P : A → Type 0 = λ x. V x × (bytes ≡ p x) in
    subst P k.0 (f.0, text)

-- the spelling of a valid value is read whole as that value
pub whole_again : {A : Type 0} {V : A → Type 0} {p : A → List ℕ} {r : List ℕ → Result (A × List ℕ) ℕ} → Exact V p r → (a : A) → V a → whole_at r (p a) ≡ Ok a
whole_again {A} {V} {p} {r} exact a v =
    let read : r (p a) ≡ Ok (a, []) = ap r (sym (append-nil (p a))) ∙ exact.again a [] v in
    ap (λ (x : Result (A × List ℕ) ℕ). x >>= whole_field) read

-- two texts share no more bytes than the second one has
shared_le_right : (x y : List ℕ) → shared_length x y ≤ length y
shared_le_right [] y = omega arith
shared_le_right (a ∷ x) [] = omega arith
shared_le_right (a ∷ x) (b ∷ y) = elim (eqb a b) as (λ t. cond t (1 + shared_length x y) 0 ≤ suc (length y)) [
  | true ↦
      omega (arith, shared_le_right x y)
  | false ↦ omega arith
]

-- a text shares all of its front with this front
shared_front : (bytes front rest : List ℕ) → bytes ≡ front ++ rest → shared_length bytes front ≡ length front
shared_front bytes front rest e =
    ap (λ (t : List ℕ). shared_length t front) e ∙ ap (shared_length (front ++ rest)) (sym (append-nil front)) ∙ shared-append front rest []
    ∙ omega (arith, shared_le_right rest [])

-- what one text shares with another that goes on
further : {A : Type 0} {V : A → Type 0} {p : A → List ℕ} {r : List ℕ → Result (A × List ℕ) ℕ} → Exact V p r → (bytes : List ℕ) (a b : A) (rest : List ℕ) → V a
    → V b → bytes ≡ p a ++ rest → shared_length bytes (p b) ≤ length (p a)
further {A} {V} {p} {r} exact bytes a b rest va vb e = elim (cases_lt (length (p a)) (shared_length bytes (p b))) [
  | inl more ↦
      let there : length (p a) ≤ shared_length (p a ++ rest) (p b) = subst (λ (t : List ℕ). length (p a) ≤ shared_length t (p b)) e (omega (arith, more)) in
      let w = begins (p a) rest (p b) there in
      let same = one_way exact a b w.0 [] va vb (sym w.1 ∙ sym (append-nil (p b))) in
      let size : length (p a) ≡ length (p b) = ap (λ (x : A). length (p x)) same.0 in
      omega (arith, size, shared_le_right bytes (p b))
  | inr within ↦ within
]

-- where a whole text stops to be one
pub whole_column : {A : Type 0} {V : A → Type 0} {p : A → List ℕ} {r : List ℕ → Result (A × List ℕ) ℕ} → Exact V p r → (bytes : List ℕ) (left column : ℕ)
    → whole_at r bytes ≡ Err left → column + left ≡ length bytes + 1 → IsColumn V p bytes column
whole_column {A} {V} {p} {r} exact bytes left column e place = elim (bind_err (r bytes) whole_field left e) [
  | inl h ↦ let n = exact.near bytes left h in
      record { goes_on = (n.0, n.1, omega (arith, n.2)); no_further = λ a v. omega (arith, exact.far bytes left h a v) }
  | inr w ↦
      let f = exact.found bytes w.0.0 w.0.1 w.1 in
      let size = whole_err_go w.0 left (eqb (length w.0.1) 0) refl w.2 in
      let long : length bytes ≡ length (p w.0.0) + length w.0.1 = ap length f.1 ∙ length-append (p w.0.0) w.0.1 in
      let here : shared_length bytes (p w.0.0) ≡ length (p w.0.0) = shared_front bytes (p w.0.0) w.0.1 f.1 in
      record {
        goes_on = (w.0.0, f.0, omega (arith, here, size, long));
        no_further = λ a v. omega (arith, further exact bytes w.0.0 a w.0.1 f.0 v f.1, size, long);
      }
]

-- a reading of a whole text that stops leaves no more bytes than there are
pub whole_left : {A : Type 0} {V : A → Type 0} {p : A → List ℕ} {r : List ℕ → Result (A × List ℕ) ℕ} → Exact V p r → (bytes : List ℕ) (left : ℕ)
    → whole_at r bytes ≡ Err left → left ≤ length bytes
whole_left {A} {V} {p} {r} exact bytes left e = elim (bind_err (r bytes) whole_field left e) [
  | inl h ↦ let n = exact.near bytes left h in omega (arith, n.2)
  | inr w ↦
      let f = exact.found bytes w.0.0 w.0.1 w.1 in
      let size = whole_err_go w.0 left (eqb (length w.0.1) 0) refl w.2 in
      omega (arith, ap length f.1 ∙ length-append (p w.0.0) w.0.1, size)
]

-- what two texts share, and what follows it in each
shared_split : (x y : List ℕ) → (front : List ℕ) × (p : List ℕ) × (q : List ℕ) × (x ≡ front ++ p) × (y ≡ front ++ q) × (length front ≡ shared_length x y)
shared_split [] y = ([], [], y, refl, refl, refl)
shared_split (a ∷ x) [] = ([], a ∷ x, [], refl, refl, refl)
shared_split (a ∷ x) (b ∷ y) = elim (cases_eq a b) [
  | inl e ↦
      let w = shared_split x y in
      let same : b ∷ y ≡ a ∷ (w.0 ++ w.2) = (let t = w.4 in cc) in
      let size : suc (length w.0) ≡ shared_length (a ∷ x) (b ∷ y) = subst (λ (z : ℕ). suc (length w.0) ≡ shared_length (a ∷ x) (z ∷ y)) e
      (omega (arith, w.5, shared-cons a x y)) in
      (a ∷ w.0, w.1, w.2, ap (λ (t : List ℕ). a ∷ t) w.3, same, size)
  | inr ne ↦ ([], a ∷ x, b ∷ y, refl, refl, sym (shared-differ a b x y (ne_eqb a b ne)))
]

-- the column in terms of beginnings
pub stops_from_column : {A : Type 0} {V : A → Type 0} {p : A → List ℕ} (bytes : List ℕ) (column : ℕ) → IsColumn V p bytes column → StopsAt V p bytes column
stops_from_column {A} {V} {p} bytes column h =
    let a = h.goes_on.0 in
    let w = shared_split bytes (p a) in
    record {
      front = w.0;
      rest = w.1;
      parts = w.3;
      place = omega (arith, w.5, h.goes_on.2);
      goes_on = (a, h.goes_on.1, w.2, w.4);
      stops = λ b more e g.
          let whole : bytes ≡ (w.0 ++ b ∷ []) ++ more = w.3 ∙ ap (λ (t : List ℕ). w.0 ++ t) e ∙ sym (append_assoc w.0 (b ∷ []) more) in
          let long : shared_length bytes (p g.0) ≡ length (w.0 ++ b ∷ []) + shared_length more g.2 = ap (λ (t : List ℕ). shared_length t (p g.0)) whole
          ∙ ap (shared_length ((w.0 ++ b ∷ []) ++ more)) g.3 ∙ shared-append (w.0 ++ b ∷ []) more g.2 in
          omega (arith, h.no_further g.0 g.1, long, length-append w.0 (b ∷ []), w.5, h.goes_on.2);
    }

-- where a whole text stops, in terms of beginnings
pub whole_stops : {A : Type 0} {V : A → Type 0} {p : A → List ℕ} {r : List ℕ → Result (A × List ℕ) ℕ} → Exact V p r → (bytes : List ℕ) (left : ℕ)
    → whole_at r bytes ≡ Err left → StopsAt V p bytes (length bytes - left + 1)
whole_stops {A} {V} {p} {r} exact bytes left e =
    let small = whole_left exact bytes left e in
    stops_from_column bytes (length bytes - left + 1) (whole_column exact bytes left (length bytes - left + 1) e (omega arith))

-- a reading of a whole text gives its value as spelt, or the column where it stops
whole_reads_go : {A : Type 0} {V : A → Type 0} {p : A → List ℕ} {r : List ℕ → Result (A × List ℕ) ℕ} → Exact V p r → (bytes : List ℕ) (read : Result A ℕ)
    → whole_at r bytes ≡ read → ReadsWhole V p bytes (column_of bytes read)
whole_reads_go exact bytes (Ok a) e = whole_found exact bytes a e
whole_reads_go exact bytes (Err left) e = whole_stops exact bytes left e

-- a whole text is read as it is spelt, or stops at the column
pub whole_reads : {A : Type 0} {V : A → Type 0} {p : A → List ℕ} {r : List ℕ → Result (A × List ℕ) ℕ} → Exact V p r → (bytes : List ℕ)
    → ReadsWhole V p bytes (column_of bytes (whole_at r bytes))
whole_reads {A} {V} {p} {r} exact bytes = whole_reads_go exact bytes (whole_at r bytes) refl

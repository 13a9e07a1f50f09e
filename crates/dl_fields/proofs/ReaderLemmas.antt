-- The laws of exact readers.
use Rattle.std.proofs.Common.{◌≡◌, ℕ, ◌+◌, ◌≤◌, ◌<◌, Bool, true, false, cond, eqb, List, [], ◌++◌, length, drop, slice_index, Option}
use Rattle.std.proofs.Common.{Some, None, Result, Ok, Err, ◌⊎◌, inl, inr, refl, sym, ap, subst, ◌∙◌, append_assoc, arith, length-append}
use Rattle.std.proofs.lemmas.Bool.{eqb-true}
use Rattle.std.proofs.lemmas.List.{append-nil, nil_from_length, get_or-drop, drop_at}
use Rattle.dl_codec.specs.Fields.{IsBytes}
use Rattle.dl_fields.specs.declared.fault.Fault.{Fault}
use Rattle.dl_fields.specs.declared.fault.Fault.TheVariants.{Short, Bad, Long}
pub use Rattle.dl_reading.proofs.ReadingLemmas.{bind_ok, bind_err, ok_is, err_is}
use Rattle.dl_fields.specs.Readers.{◌>>=◌, then_at, map_at, field_with_test, with_test, field_without_flaw}
use Rattle.dl_fields.specs.Readers.{without_flaw, whole_field, whole_from, IsWithin, Exact}

-- What stands behind a field is bytes too.
pub bytes_behind : (front rest bytes : List ℕ) → bytes ≡ front ++ rest → IsBytes bytes → IsBytes rest
bytes_behind front rest bytes e fits i =
    let same : drop (length front) bytes ≡ rest = ap (drop (length front)) e ∙ drop_at front rest (length front) refl in
    let here : slice_index (drop (length front) bytes) i < 256 = rw get_or-drop (fits (length front + i)) in
    subst (λ (l : List ℕ). slice_index l i < 256) same here

-- What stands within some bytes stands within more of them.
pub within_more : (n m : ℕ) (fault : Fault) → n ≤ m → IsWithin n fault → IsWithin m fault
within_more n m (Short left) le w = omega (arith, le, w)
within_more n m (Bad left) le w = omega (arith, le, w)
within_more n m (Long left) le w = omega (arith, le, w)

-- ---- one field and then another

-- two fields are valid, the second one for the first
abbrev pub Both : {A B : Type 0} → (A → Type 0) → (A → B → Type 0) → A × B → Type 0
Both V W x = V x.0 × W x.0 x.1

-- the spelling of two fields
abbrev pub print_both : {A B : Type 0} → (A → List ℕ) → (A → B → List ℕ) → A × B → List ℕ
print_both p q x = p x.0 ++ q x.0 x.1

-- two pieces at the front are one
joins : (bytes front rest more end : List ℕ) → bytes ≡ front ++ rest → rest ≡ more ++ end → bytes ≡ (front ++ more) ++ end
joins bytes front rest more end e f = e ∙ ap (λ (l : List ℕ). front ++ l) f ∙ sym (append_assoc front more end)

-- two fields that are read are valid and spelt so
then_found : {A B : Type 0} (V : A → Type 0) (p : A → List ℕ) (r : List ℕ → Result (A × List ℕ) Fault) (W : A → B → Type 0) (q : A → B → List ℕ)
    (s : A → List ℕ → Result (B × List ℕ) Fault) → Exact V p r → ((a : A) → V a → Exact (W a) (q a) (s a))
    → (bytes : List ℕ) (x : A × B) (rest : List ℕ) → IsBytes bytes → then_at r s bytes ≡ Ok (x, rest) → Both V W x × (bytes ≡ print_both p q x ++ rest)
then_found {A} {B} V p r W q s first second bytes x rest fits e =
    let u = bind_ok (r bytes) (λ (y : A × List ℕ). s y.0 y.1 >>= λ z. Ok ((y.0, z.0), z.1)) (x, rest) e in
    let v = bind_ok (s u.0.0 u.0.1) (λ (z : B × List ℕ). Ok ((u.0.0, z.0), z.1)) (x, rest) u.2 in
    let f = first.found bytes u.0.0 u.0.1 fits u.1 in
    let g = (second u.0.0 f.0).found u.0.1 v.0.0 v.0.1 (bytes_behind (p u.0.0) u.0.1 bytes f.1 fits) v.1 in
    let made : (A × B) × List ℕ = ((u.0.0, v.0.0), v.0.1) in
    let whole : bytes ≡ print_both p q made.0 ++ v.0.1 = joins bytes (p u.0.0) u.0.1 (q u.0.0 v.0.0) v.0.1 f.1 g.1 in
    subst (λ (m : (A × B) × List ℕ). Both V W m.0 × (bytes ≡ print_both p q m.0 ++ m.1)) (ok_is made (x, rest) v.2) ((f.0, g.0), whole)

-- two valid fields are read as they are spelt
then_again : {A B : Type 0} (V : A → Type 0) (p : A → List ℕ) (r : List ℕ → Result (A × List ℕ) Fault) (W : A → B → Type 0) (q : A → B → List ℕ)
    (s : A → List ℕ → Result (B × List ℕ) Fault) → Exact V p r → ((a : A) → V a → Exact (W a) (q a) (s a)) → (x : A × B) (rest : List ℕ) → Both V W x
    → then_at r s (print_both p q x ++ rest) ≡ Ok (x, rest)
then_again V p r W q s first second x rest valid =
    ap (then_at r s) (append_assoc (p x.0) (q x.0 x.1) rest)
    ∙ rw (first.again x.0 (q x.0 x.1 ++ rest) valid.0) (rw ((second x.0 valid.0).again x.1 rest valid.1) refl)

-- a fault of two fields is that of the first, or of the second behind it
then_stops : {A B : Type 0} (r : List ℕ → Result (A × List ℕ) Fault) (s : A → List ℕ → Result (B × List ℕ) Fault) (bytes : List ℕ) (fault : Fault)
    → then_at r s bytes ≡ Err fault → (r bytes ≡ Err fault) ⊎ ((y : A × List ℕ) × (r bytes ≡ Ok y) × (s y.0 y.1 ≡ Err fault))
then_stops {A} {B} r s bytes fault e = elim (bind_err (r bytes) (λ (y : A × List ℕ). s y.0 y.1 >>= λ z. Ok ((y.0, z.0), z.1)) fault e) [
  | inl h ↦ inl h
  | inr w ↦ elim (bind_err (s w.0.0 w.0.1) (λ (z : B × List ℕ). Ok ((w.0.0, z.0), z.1)) fault w.2) [
    | inl h ↦ inr (w.0, w.1, h)
    | inr z ↦ absurd
        (let wrong : Ok ((w.0.0, z.0.0), z.0.1) ≡ Err fault = z.2 in cc)
  ]
]

-- a fault of two fields stands within their bytes
then_within : {A B : Type 0} (V : A → Type 0) (p : A → List ℕ) (r : List ℕ → Result (A × List ℕ) Fault) (W : A → B → Type 0) (q : A → B → List ℕ)
    (s : A → List ℕ → Result (B × List ℕ) Fault) → Exact V p r → ((a : A) → V a → Exact (W a) (q a) (s a)) → (bytes : List ℕ) (fault : Fault)
    → IsBytes bytes → then_at r s bytes ≡ Err fault → IsWithin (length bytes) fault
then_within V p r W q s first second bytes fault fits e = elim (then_stops r s bytes fault e) [
  | inl h ↦ first.within bytes fault fits h
  | inr w ↦ let f = first.found bytes w.0.0 w.0.1 fits w.1 in
      let less : length w.0.1 ≤ length bytes = omega (arith, ap length f.1, length-append (p w.0.0) w.0.1) in
      within_more (length w.0.1) (length bytes) fault less ((second w.0.0 f.0).within w.0.1 fault (bytes_behind (p w.0.0) w.0.1 bytes f.1 fits) w.2)
]

-- A field, and then one that may depend on it.
pub then_exact : {A B : Type 0} (V : A → Type 0) (p : A → List ℕ) (r : List ℕ → Result (A × List ℕ) Fault) (W : A → B → Type 0) (q : A → B → List ℕ)
    (s : A → List ℕ → Result (B × List ℕ) Fault) → Exact V p r → ((a : A) → V a → Exact (W a) (q a) (s a)) → Exact (Both V W) (print_both p q) (then_at r s)
then_exact V p r W q s first second = record {
  found = then_found V p r W q s first second;
  again = then_again V p r W q s first second;
  within = then_within V p r W q s first second;
}

-- ---- a field as another value

-- a value that is made of a field is valid and spelt so
made_found : {A S : Type 0} (V : A → Type 0) (p : A → List ℕ) (r : List ℕ → Result (A × List ℕ) Fault) (make : A → S) (W : S → Type 0)
    (q : S → List ℕ) → Exact V p r → ((a : A) → V a → W (make a) × (q (make a) ≡ p a)) → (bytes : List ℕ) (x : S) (rest : List ℕ) → IsBytes bytes
    → map_at make r bytes ≡ Ok (x, rest) → W x × (bytes ≡ q x ++ rest)
made_found {A} {S} V p r make W q exact to bytes x rest fits e =
    let u = bind_ok (r bytes) (λ (y : A × List ℕ). Ok (make y.0, y.1)) (x, rest) e in
    let f = exact.found bytes u.0.0 u.0.1 fits u.1 in
    let t = to u.0.0 f.0 in
    let made : S × List ℕ = (make u.0.0, u.0.1) in
    subst (λ (m : S × List ℕ). W m.0 × (bytes ≡ q m.0 ++ m.1)) (ok_is made (x, rest) u.2) (t.0, f.1 ∙ ap (λ (l : List ℕ). l ++ u.0.1) (sym t.1))

-- A field as another value, where each valid value is made of a valid field.
pub made_exact : {A S : Type 0} (V : A → Type 0) (p : A → List ℕ) (r : List ℕ → Result (A × List ℕ) Fault) (make : A → S) (W : S → Type 0)
    (q : S → List ℕ) → Exact V p r → ((a : A) → V a → W (make a) × (q (make a) ≡ p a)) → ((x : S) → W x → (a : A) × V a × (make a ≡ x))
    → Exact W q (map_at make r)
made_exact {A} {S} V p r make W q exact to from = record {
  found = made_found V p r make W q exact to;
  again = λ x rest w. let f = from x w in
      let P : S → Type 0 = λ z. map_at make r (q z ++ rest) ≡ Ok (z, rest) in
      let here : P (make f.0) = ap (λ (l : List ℕ). map_at make r (l ++ rest)) (to f.0 f.1).1 ∙ rw (exact.again f.0 rest f.1) refl in
      subst P f.2 here;
  within = λ bytes fault fits e. elim (bind_err (r bytes) (λ (y : A × List ℕ). Ok (make y.0, y.1)) fault e) [
    | inl h ↦ exact.within bytes fault fits h
    | inr z ↦ absurd (let wrong : Ok (make z.0.0, z.0.1) ≡ Err fault = z.2 in cc)
  ];
}

-- ---- a field that passes a test

-- a field that passes a test is kept
field_with_test_ok : {A : Type 0} (test : A → Bool) (size : ℕ) (x y : A × List ℕ) → field_with_test test size x ≡ Ok y → (test x.0 ≡ true) × (x ≡ y)
field_with_test_ok {A} test size x y e = go (test x.0) refl e
  where
    go : (t : Bool) → test x.0 ≡ t → cond {A = Result (A × List ℕ) Fault} t (Ok x) (Err (Bad size)) ≡ Ok y → (test x.0 ≡ true) × (x ≡ y)
    go true t h = (t, ok_is x y h)
    go false t h = absurd cc

-- a field that fails a test is bad at its first byte
field_with_test_err : {A : Type 0} (test : A → Bool) (size : ℕ) (x : A × List ℕ) (fault : Fault) → field_with_test test size x ≡ Err fault → Bad size ≡ fault
field_with_test_err {A} test size x fault e = go (test x.0) refl e
  where
    go : (t : Bool) → test x.0 ≡ t → cond {A = Result (A × List ℕ) Fault} t (Ok x) (Err (Bad size)) ≡ Err fault → Bad size ≡ fault
    go true t h = absurd cc
    go false t h = err_is {A = A × List ℕ} (Bad size) fault h

-- A field that passes a test.
pub with_test_exact : {A : Type 0} (V : A → Type 0) (p : A → List ℕ) (r : List ℕ → Result (A × List ℕ) Fault) (test : A → Bool) → Exact V p r
    → Exact (λ a. V a × (test a ≡ true)) p (with_test test r)
with_test_exact {A} V p r test exact = record {
  found = λ bytes a rest fits e. let u = bind_ok (r bytes) (field_with_test test (length bytes)) (a, rest) e in
      let k = field_with_test_ok test (length bytes) u.0 (a, rest) u.2 in
      let P : A × List ℕ → Type 0 = λ x. (test x.0 ≡ true) × (r bytes ≡ Ok x) in
      let g : P (a, rest) = subst P k.1 (k.0, u.1) in
      let f = exact.found bytes a rest fits g.1 in ((f.0, g.0), f.1);
  again = λ a rest v. rw (exact.again a rest v.0) (rw v.1 refl);
  within = λ bytes fault fits e. elim (bind_err (r bytes) (field_with_test test (length bytes)) fault e) [
    | inl h ↦ exact.within bytes fault fits h
    | inr w ↦ subst (IsWithin (length bytes)) (field_with_test_err test (length bytes) w.0 fault w.2) (let le : length bytes ≤ length bytes = omega arith in le)
  ];
}

-- ---- a field without a flaw

-- a field without a flaw is kept
field_without_flaw_ok : {A : Type 0} (o : Option ℕ) (x y : A × List ℕ) → field_without_flaw o x ≡ Ok y → (o ≡ None) × (x ≡ y)
field_without_flaw_ok None x y e = (refl, ok_is x y e)
field_without_flaw_ok (Some back) x y e = absurd cc

-- a field with a flaw is bad at it
field_without_flaw_err : {A : Type 0} (o : Option ℕ) (x : A × List ℕ) (fault : Fault) → field_without_flaw o x ≡ Err fault
    → (back : ℕ) × (o ≡ Some back) × (Bad (length x.1 + back) ≡ fault)
field_without_flaw_err None x fault e = absurd cc
field_without_flaw_err {A} (Some back) x fault e = (back, refl, err_is {A = A × List ℕ} (Bad (length x.1 + back)) fault e)

-- A field without a flaw, where a flaw stands within the field.
pub without_flaw_exact : {A : Type 0} (V : A → Type 0) (p : A → List ℕ) (r : List ℕ → Result (A × List ℕ) Fault) (flaw : A → Option ℕ)
    → ((a : A) (back : ℕ) → flaw a ≡ Some back → back ≤ length (p a)) → Exact V p r → Exact (λ a. V a × (flaw a ≡ None)) p (without_flaw flaw r)
without_flaw_exact {A} V p r flaw inside exact = record {
  found = λ bytes a rest fits e. let u = bind_ok (r bytes) (λ (x : A × List ℕ). field_without_flaw (flaw x.0) x) (a, rest) e in
      let k = field_without_flaw_ok (flaw u.0.0) u.0 (a, rest) u.2 in
      let P : A × List ℕ → Type 0 = λ x. (flaw x.0 ≡ None) × (r bytes ≡ Ok x) in
      let g : P (a, rest) = subst P k.1 (k.0, u.1) in
      let f = exact.found bytes a rest fits g.1 in ((f.0, g.0), f.1);
  again = λ a rest v. rw (exact.again a rest v.0) (rw v.1 refl);
  within = λ bytes fault fits e. elim (bind_err (r bytes) (λ (x : A × List ℕ). field_without_flaw (flaw x.0) x) fault e) [
    | inl h ↦ exact.within bytes fault fits h
    | inr w ↦ let k = field_without_flaw_err (flaw w.0.0) w.0 fault w.2 in
        let f = exact.found bytes w.0.0 w.0.1 fits w.1 in
        let le : length w.0.1 + k.0 ≤ length bytes = omega (arith, inside w.0.0 k.0 k.1, ap length f.1, length-append (p w.0.0) w.0.1) in
        subst (IsWithin (length bytes)) k.2 le
  ];
}

-- ---- a field that is all of the bytes

-- nothing is left behind a field that ends the bytes
whole_field_ok : {A : Type 0} (x : A × List ℕ) (a : A) → whole_field x ≡ Ok a → (x.0 ≡ a) × (x.1 ≡ [])
whole_field_ok {A} x a e = go (eqb (length x.1) 0) refl e
  where
    go : (t : Bool) → eqb (length x.1) 0 ≡ t → cond {A = Result A Fault} t (Ok x.0) (Err (Long (length x.1))) ≡ Ok a → (x.0 ≡ a) × (x.1 ≡ [])
    go true t h = (ok_is x.0 a h, nil_from_length x.1 (eqb-true _ _ t))
    go false t h = absurd cc

-- bytes that are left are too long at the first of them
whole_field_err : {A : Type 0} (x : A × List ℕ) (fault : Fault) → whole_field x ≡ Err fault → Long (length x.1) ≡ fault
whole_field_err {A} x fault e = go (eqb (length x.1) 0) refl e
  where
    go : (t : Bool) → eqb (length x.1) 0 ≡ t → cond {A = Result A Fault} t (Ok x.0) (Err (Long (length x.1))) ≡ Err fault → Long (length x.1) ≡ fault
    go true t h = absurd cc
    go false t h = err_is {A = A} (Long (length x.1)) fault h

-- What is read of all bytes is valid, and they are its spelling.
pub whole_found : {A : Type 0} {V : A → Type 0} {p : A → List ℕ} {r : List ℕ → Result (A × List ℕ) Fault} → Exact V p r → (bytes : List ℕ) (a : A)
    → IsBytes bytes → whole_from r bytes ≡ Ok a → V a × (bytes ≡ p a)
whole_found {A} {V} {p} {r} exact bytes a fits e =
    let u = bind_ok (r bytes) whole_field a e in
    let k = whole_field_ok u.0 a u.2 in
    let f = exact.found bytes u.0.0 u.0.1 fits u.1 in
    let text : bytes ≡ p u.0.0 = f.1 ∙ ap (λ (t : List ℕ). p u.0.0 ++ t) k.1 ∙ append-nil (p u.0.0) in
    let P : A → Type 0 = λ x. V x × (bytes ≡ p x) in
    subst P k.0 (f.0, text)

-- A valid value is read of its spelling.
pub whole_again : {A : Type 0} {V : A → Type 0} {p : A → List ℕ} {r : List ℕ → Result (A × List ℕ) Fault} → Exact V p r → (a : A) → V a
    → whole_from r (p a) ≡ Ok a
whole_again {A} {V} {p} {r} exact a v =
    let read : r (p a) ≡ Ok (a, []) = ap r (sym (append-nil (p a))) ∙ exact.again a [] v in
    ap (λ (x : Result (A × List ℕ) Fault). x >>= whole_field) read

-- Where all bytes are refused, they spell no valid value.
pub whole_refused : {A : Type 0} {V : A → Type 0} {p : A → List ℕ} {r : List ℕ → Result (A × List ℕ) Fault} → Exact V p r
    → (bytes : List ℕ) (fault : Fault) → whole_from r bytes ≡ Err fault → (a : A) → V a → bytes ≡ p a → ⊥
whole_refused {A} {V} {p} {r} exact bytes fault e a v same = let read : whole_from r bytes ≡ Ok a = ap (whole_from r) same ∙ whole_again exact a v in cc

-- A fault stands within the bytes.
pub whole_within : {A : Type 0} {V : A → Type 0} {p : A → List ℕ} {r : List ℕ → Result (A × List ℕ) Fault} → Exact V p r
    → (bytes : List ℕ) (fault : Fault) → IsBytes bytes → whole_from r bytes ≡ Err fault → IsWithin (length bytes) fault
whole_within {A} {V} {p} {r} exact bytes fault fits e = elim (bind_err (r bytes) whole_field fault e) [
  | inl h ↦ exact.within bytes fault fits h
  | inr w ↦ let f = exact.found bytes w.0.0 w.0.1 fits w.1 in
      let le : length w.0.1 ≤ length bytes = omega (arith, ap length f.1, length-append (p w.0.0) w.0.1) in
      subst (IsWithin (length bytes)) (whole_field_err w.0 fault w.2) le
]

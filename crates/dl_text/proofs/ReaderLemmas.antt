-- The laws of exact readers.
use Rattle.std.proofs.Common.{◌≡◌, ℕ, suc, ◌+◌, ◌≤◌, ◌<◌, true, false, cond, eqb, List, [], ◌∷◌, ◌++◌, length, Result}
use Rattle.std.proofs.Common.{Ok, Err, ◌⊎◌, inl, inr, refl, sym, ap, subst, ◌∙◌, append_assoc, arith, length-append}
use Rattle.std.proofs.lemmas.Bool.Decides.{nat_tests}
use Rattle.std.proofs.lemmas.Bool.{eq-eqb, cases_eq, cases_lt}
use Rattle.std.proofs.lemmas.List.{append-nil}
pub use Rattle.dl_reading.proofs.ReadingLemmas.{bind_ok, bind_err, ok_is}
use Rattle.dl_text.specs.Readers.{shared_length, ◌>>=◌, then_at, map_at, Exact}

-- what two texts share

-- the same byte in front of both texts is one more that they share
pub shared-cons : (x : ℕ) (a b : List ℕ) → shared_length (x ∷ a) (x ∷ b) ≡ suc (shared_length a b)
shared-cons x a b = rw (eq-eqb x x refl) (omega arith)

-- texts whose first bytes differ share nothing
pub shared-differ : (x y : ℕ) (a b : List ℕ) → eqb x y ≡ false → shared_length (x ∷ a) (y ∷ b) ≡ 0
shared-differ x y a b h = rw h refl

-- the same front of both texts is shared besides
pub shared-append : (a b c : List ℕ) → shared_length (a ++ b) (a ++ c) ≡ length a + shared_length b c
shared-append [] b c = omega arith
shared-append (x ∷ a) b c = shared-cons x (a ++ b) (a ++ c) ∙ omega (arith, shared-append a b c)

-- two texts share no more bytes than the first one has
pub shared_le : (a b : List ℕ) → shared_length a b ≤ length a
shared_le [] b = omega arith
shared_le (x ∷ a) [] = omega arith
shared_le (x ∷ a) (y ∷ b) = elim (eqb x y) as (λ t. cond t (1 + shared_length a b) 0 ≤ suc (length a)) [
  | true ↦ omega (arith, shared_le a b)
  | false ↦
      omega arith
]

-- either the whole of s stands at the front, or what follows s does not count
pub whole_or_short : (b s : List ℕ) → ((rest : List ℕ) × (b ≡ s ++ rest))
    ⊎ ((shared_length b s < length s) × ((t : List ℕ) → shared_length b (s ++ t) ≡ shared_length b s))
whole_or_short b [] = inl (b, refl)
whole_or_short [] (y ∷ s) = inr (omega arith, λ t. refl)
whole_or_short (x ∷ b) (y ∷ s) = elim (cases_eq x y) [
  | inl e ↦ elim (whole_or_short b s) [
    | inl w ↦ inl (w.0, rw e (ap (λ (l : List ℕ). y ∷ l) w.1))
    | inr w ↦ inr (rw e (omega (arith, w.0, shared-cons y b s)), λ t. rw e (shared-cons y b (s ++ t) ∙ ap suc (w.1 t) ∙ sym (shared-cons y b s)))
  ]
  | inr ne ↦ inr (grind (arith, nat_tests, ne), λ t. grind (arith, nat_tests, ne))
]

-- what shares all of s with s ++ rest begins with s
pub begins : (s rest t : List ℕ) → length s ≤ shared_length (s ++ rest) t → (more : List ℕ) × (t ≡ s ++ more)
begins [] rest t h = (t, refl)
begins (x ∷ s) rest [] h = absurd (omega arith)
begins (x ∷ s) rest (y ∷ t) h = elim (cases_eq x y) [
  | inl e ↦ let here : suc (length s) ≤ shared_length (y ∷ (s ++ rest)) (y ∷ t) =
      subst (λ (z : ℕ). suc (length s) ≤ shared_length (z ∷ (s ++ rest)) (y ∷ t)) e h in
      let h2 : length s ≤ shared_length (s ++ rest) t = omega (arith, here, shared-cons y (s ++ rest) t) in
      let w = begins s rest t h2 in let same : y ∷ t ≡ x ∷ (s ++ w.0) = cc in (w.0, same)
  | inr ne ↦ absurd (grind (arith, nat_tests, ne, h))
]

-- one field and then another

-- where a reader stops, no field stands whole
pub stops_inside : {A : Type 0} {V : A → Type 0} {p : A → List ℕ} {r : List ℕ → Result (A × List ℕ) ℕ} → Exact V p r → (bytes : List ℕ) (left : ℕ)
    → r bytes ≡ Err left → (a : A) → V a → (shared_length bytes (p a) < length (p a))
    × ((t : List ℕ) → shared_length bytes (p a ++ t) ≡ shared_length bytes (p a))
stops_inside {A} {V} {p} {r} exact bytes left stop a valid = elim (whole_or_short bytes (p a)) [
  | inl w ↦ let read : r bytes ≡ Ok (a, w.0) = ap r w.1 ∙ exact.again a w.0 valid in absurd cc
  | inr s ↦ s
]

-- an exact reader has a valid value, whatever it gives for the empty text
some_of_go : {A : Type 0} {V : A → Type 0} {p : A → List ℕ} {r : List ℕ → Result (A × List ℕ) ℕ} → Exact V p r → (x : Result (A × List ℕ) ℕ) → r [] ≡ x
    → (a : A) × V a
some_of_go exact (Ok x) e = (x.0, (exact.found [] x.0 x.1 e).0)
some_of_go exact (Err left) e = let n = exact.near [] left e in (n.0, n.1)

-- there is a field
pub some_of : {A : Type 0} {V : A → Type 0} {p : A → List ℕ} {r : List ℕ → Result (A × List ℕ) ℕ} → Exact V p r → (a : A) × V a
some_of {A} {V} {p} {r} exact = some_of_go exact (r []) refl

-- a field is read at one place in one way
pub one_way : {A : Type 0} {V : A → Type 0} {p : A → List ℕ} {r : List ℕ → Result (A × List ℕ) ℕ} → Exact V p r → (a a' : A) (rest rest' : List ℕ) → V a
    → V a' → p a ++ rest ≡ p a' ++ rest' → (a ≡ a') × (rest ≡ rest')
one_way {A} {V} {p} {r} exact a a' rest rest' v v' e =
    let same : Ok (a, rest) ≡ Ok (a', rest') = sym (exact.again a rest v) ∙ ap r e ∙ exact.again a' rest' v' in
    let pairs : (a, rest) ≡ (a', rest') = ok_is (a, rest) (a', rest') same in
    (ap (λ (x : A × List ℕ). x.0) pairs, ap (λ (x : A × List ℕ). x.1) pairs)

-- with a common front as many bytes are left that are not shared as behind it
pub near_behind : (bytes front rest text : List ℕ) (left : ℕ) → bytes ≡ front ++ rest → shared_length rest text + left ≡ length rest
    → shared_length bytes (front ++ text) + left ≡ length bytes
near_behind bytes front rest text left e h = rw e (omega (arith, h, shared-append front rest text, length-append front rest))

-- with a common front at least as many bytes are left that are not shared as behind it
pub far_behind : (bytes front rest text : List ℕ) (left : ℕ) → bytes ≡ front ++ rest → shared_length rest text + left ≤ length rest
    → shared_length bytes (front ++ text) + left ≤ length bytes
far_behind bytes front rest text left e h = rw e (omega (arith, h, shared-append front rest text, length-append front rest))

-- two values are valid, the second one for the first
abbrev pub Both : {A B : Type 0} → (A → Type 0) → (A → B → Type 0) → A × B → Type 0
Both V W x = V x.0 × W x.0 x.1

-- the spelling of two values, one behind the other
abbrev pub print_both : {A B : Type 0} → (A → List ℕ) → (A → B → List ℕ) → A × B → List ℕ
print_both p q x = p x.0 ++ q x.0 x.1

-- two fields that are read one behind the other are valid, and spelt so
then_found : {A B : Type 0} (V : A → Type 0) (p : A → List ℕ) (r : List ℕ → Result (A × List ℕ) ℕ) (W : A → B → Type 0) (q : A → B → List ℕ)
    (s : A → List ℕ → Result (B × List ℕ) ℕ) → Exact V p r → ((a : A) → V a → Exact (W a) (q a) (s a)) → (bytes : List ℕ) (x : A × B) (rest : List ℕ)
    → then_at r s bytes ≡ Ok (x, rest) → Both V W x × (bytes ≡ print_both p q x ++ rest)
then_found {A} {B} V p r W q s first second bytes x rest e =
    let u = bind_ok (r bytes) (λ (y : A × List ℕ). s y.0 y.1 >>= λ z. Ok ((y.0, z.0), z.1)) (x, rest) e in
    let v = bind_ok (s u.0.0 u.0.1) (λ (z : B × List ℕ). Ok ((u.0.0, z.0), z.1)) (x, rest) u.2 in
    let f = first.found bytes u.0.0 u.0.1 u.1 in
    let g = (second u.0.0 f.0).found u.0.1 v.0.0 v.0.1 v.1 in
    let made : (A × B) × List ℕ = ((u.0.0, v.0.0), v.0.1) in
    let whole : bytes ≡ print_both p q made.0 ++ v.0.1 = f.1 ∙ ap (λ (l : List ℕ). p u.0.0 ++ l) g.1 ∙ sym (append_assoc (p u.0.0) (q u.0.0 v.0.0) v.0.1) in
    subst (λ (m : (A × B) × List ℕ). Both V W m.0 × (bytes ≡ print_both p q m.0 ++ m.1)) (ok_is made (x, rest) v.2) ((f.0, g.0), whole)

-- the spelling of two valid fields is read as both, whatever follows
then_again : {A B : Type 0} (V : A → Type 0) (p : A → List ℕ) (r : List ℕ → Result (A × List ℕ) ℕ) (W : A → B → Type 0) (q : A → B → List ℕ)
    (s : A → List ℕ → Result (B × List ℕ) ℕ) → Exact V p r → ((a : A) → V a → Exact (W a) (q a) (s a)) → (x : A × B) (rest : List ℕ) → Both V W x
    → then_at r s (print_both p q x ++ rest) ≡ Ok (x, rest)
then_again V p r W q s first second x rest valid =
    ap (then_at r s) (append_assoc (p x.0) (q x.0 x.1) rest)
    ∙ rw (first.again x.0 (q x.0 x.1 ++ rest) valid.0) (rw ((second x.0 valid.0).again x.1 rest valid.1) refl)

-- two readings stop where the first does, or where the second does behind the first field
then_stops : {A B : Type 0} (r : List ℕ → Result (A × List ℕ) ℕ) (s : A → List ℕ → Result (B × List ℕ) ℕ) (bytes : List ℕ) (left : ℕ)
    → then_at r s bytes ≡ Err left → (r bytes ≡ Err left) ⊎ ((y : A × List ℕ) × (r bytes ≡ Ok y) × (s y.0 y.1 ≡ Err left))
then_stops {A} {B} r s bytes left e = elim (bind_err (r bytes) (λ (y : A × List ℕ). s y.0 y.1 >>= λ z. Ok ((y.0, z.0), z.1)) left e) [
  | inl h ↦ inl h
  | inr w ↦ elim (bind_err (s w.0.0 w.0.1) (λ (z : B × List ℕ). Ok ((w.0.0, z.0), z.1)) left w.2) [
    | inl h ↦ inr (w.0, w.1, h)
    | inr z ↦
        absurd (let no : Ok ((w.0.0, z.0.0), z.0.1) ≡ Err left = z.2 in cc)
  ]
]

-- where two readings stop, some two valid fields share all that stands before
then_near : {A B : Type 0} (V : A → Type 0) (p : A → List ℕ) (r : List ℕ → Result (A × List ℕ) ℕ) (W : A → B → Type 0) (q : A → B → List ℕ)
    (s : A → List ℕ → Result (B × List ℕ) ℕ) → Exact V p r → ((a : A) → V a → Exact (W a) (q a) (s a)) → (bytes : List ℕ) (left : ℕ)
    → then_at r s bytes ≡ Err left → (x : A × B) × Both V W x × (shared_length bytes (print_both p q x) + left ≡ length bytes)
then_near V p r W q s first second bytes left e = elim (then_stops r s bytes left e) [
  | inl h ↦ let n = first.near bytes left h in
      let b = some_of (second n.0 n.1) in
      ((n.0, b.0), (n.1, b.1), rw ((stops_inside first bytes left h n.0 n.1).1 (q n.0 b.0)) n.2)
  | inr w ↦ let f = first.found bytes w.0.0 w.0.1 w.1 in
      let n = (second w.0.0 f.0).near w.0.1 left w.2 in
      let there : shared_length bytes (p w.0.0 ++ q w.0.0 n.0) + left ≡ length bytes = near_behind bytes (p w.0.0) w.0.1 (q w.0.0 n.0) left f.1 n.2 in
      ((w.0.0, n.0), (f.0, n.1), there)
]

-- where two readings stop, no two valid fields share more
then_far : {A B : Type 0} (V : A → Type 0) (p : A → List ℕ) (r : List ℕ → Result (A × List ℕ) ℕ) (W : A → B → Type 0) (q : A → B → List ℕ)
    (s : A → List ℕ → Result (B × List ℕ) ℕ) → Exact V p r → ((a : A) → V a → Exact (W a) (q a) (s a)) → (bytes : List ℕ) (left : ℕ)
    → then_at r s bytes ≡ Err left → (x : A × B) → Both V W x → shared_length bytes (print_both p q x) + left ≤ length bytes
then_far {A} {B} V p r W q s first second bytes left e x valid = elim (then_stops r s bytes left e) [
  | inl h ↦ rw ((stops_inside first bytes left h x.0 valid.0).1 (q x.0 x.1)) (first.far bytes left h x.0 valid.0)
  | inr w ↦
      let a = w.0.0 in
      let rest = w.0.1 in
      let f = first.found bytes a rest w.1 in
      let small : left ≤ length rest = let n = (second a f.0).near rest left w.2 in omega (arith, n.2) in
      let long : length bytes ≡ length (p a) + length rest = ap length f.1 ∙ length-append (p a) rest in
      elim (whole_or_short bytes (p x.0)) [
        | inl o ↦
            let same = one_way first a x.0 rest o.0 f.0 valid.0 (sym f.1 ∙ o.1) in
            let P : A → Type 0 = λ z. (b : B) → W z b → shared_length bytes (p z ++ q z b) + left ≤ length bytes in
            let here : P a = λ b v. far_behind bytes (p a) rest (q a b) left f.1 ((second a f.0).far rest left w.2 b v) in
            subst P same.0 here x.1 valid.1
        | inr o ↦ rw (o.1 (q x.0 x.1)) (elim (cases_lt (length (p a)) (shared_length bytes (p x.0))) [
          | inl further ↦
              let further' : length (p a) ≤ shared_length bytes (p x.0) = omega arith in
              let there : length (p a) ≤ shared_length (p a ++ rest) (p x.0) = rw f.1 at further' in
              let more = begins (p a) rest (p x.0) there in
              let same = one_way first a x.0 more.0 [] f.0 valid.0 (sym more.1 ∙ sym (append-nil (p x.0))) in
              let equal : length (p a) ≡ length (p x.0) = ap (λ (z : A). length (p z)) same.0 in
              absurd (omega (arith, o.0, further, equal))
          | inr within ↦ omega (arith, within, small, long)
        ])
      ]
]

-- A field, and then one that may depend on it.
pub then_exact : {A B : Type 0} (V : A → Type 0) (p : A → List ℕ) (r : List ℕ → Result (A × List ℕ) ℕ) (W : A → B → Type 0) (q : A → B → List ℕ)
    (s : A → List ℕ → Result (B × List ℕ) ℕ) → Exact V p r → ((a : A) → V a → Exact (W a) (q a) (s a)) → Exact (Both V W) (print_both p q) (then_at r s)
then_exact V p r W q s first second = record {
  found = then_found V p r W q s first second;
  again = then_again V p r W q s first second;
  near = then_near V p r W q s first second;
  far = then_far V p r W q s first second;
}

-- A field as another value.
made_found : {A S : Type 0} (V : A → Type 0) (p : A → List ℕ) (r : List ℕ → Result (A × List ℕ) ℕ) (make : A → S) (W : S → Type 0) (q : S → List ℕ)
    → Exact V p r → ((a : A) → V a → W (make a) × (q (make a) ≡ p a)) → (bytes : List ℕ) (x : S) (rest : List ℕ) → map_at make r bytes ≡ Ok (x, rest)
    → W x × (bytes ≡ q x ++ rest)
made_found {A} {S} V p r make W q exact to bytes x rest e =
    let u = bind_ok (r bytes) (λ (y : A × List ℕ). Ok (make y.0, y.1)) (x, rest) e in
    let f = exact.found bytes u.0.0 u.0.1 u.1 in
    let t = to u.0.0 f.0 in
    let made : S × List ℕ = (make u.0.0, u.0.1) in
    subst (λ (m : S × List ℕ). W m.0 × (bytes ≡ q m.0 ++ m.1)) (ok_is made (x, rest) u.2) (t.0, f.1 ∙ ap (λ (l : List ℕ). l ++ u.0.1) (sym t.1))

-- a field read as another value is read exactly, where each valid value comes of a valid one and is spelt as it
pub made_exact : {A S : Type 0} (V : A → Type 0) (p : A → List ℕ) (r : List ℕ → Result (A × List ℕ) ℕ) (make : A → S) (W : S → Type 0) (q : S → List ℕ)
    → Exact V p r → ((a : A) → V a → W (make a) × (q (make a) ≡ p a)) → ((x : S) → W x → (a : A) × V a × (make a ≡ x)) → Exact W q (map_at make r)
made_exact {A} {S} V p r make W q exact to from = record {
  found = made_found V p r make W q exact to;
  again = λ x rest w. let f = from x w in
      let P : S → Type 0 = λ z. map_at make r (q z ++ rest) ≡ Ok (z, rest) in
      let here : P (make f.0) = ap (λ (l : List ℕ). map_at make r (l ++ rest)) (to f.0 f.1).1 ∙ rw (exact.again f.0 rest f.1) refl in
      subst P f.2 here;
  near = λ bytes left e. elim (bind_err (r bytes) (λ (y : A × List ℕ). Ok (make y.0, y.1)) left e) [
    | inl h ↦ let n = exact.near bytes left h in let t = to n.0 n.1 in (make n.0, t.0, rw t.1 n.2)
    | inr z ↦ absurd (let wrong : Ok (make z.0.0, z.0.1) ≡ Err left = z.2 in cc)
  ];
  far = λ bytes left e x w. elim (bind_err (r bytes) (λ (y : A × List ℕ). Ok (make y.0, y.1)) left e) [
    | inl h ↦ let f = from x w in
        let P : S → Type 0 = λ z. shared_length bytes (q z) + left ≤ length bytes in
        let here : P (make f.0) = rw ((to f.0 f.1).1) (exact.far bytes left h f.0 f.1) in
        subst P f.2 here
    | inr z ↦ absurd (let wrong : Ok (make z.0.0, z.0.1) ≡ Err left = z.2 in cc)
  ];
}

-- a reading of items with these in front
abbrev pub onto : {A : Type 0} → List A → Result (List A × List ℕ) ℕ → Result (List A × List ℕ) ℕ
onto front read = read >>= λ x. Ok (front ++ x.0, x.1)

-- nothing in front leaves a reading as it is
pub onto_none : {A : Type 0} (r : Result (List A × List ℕ) ℕ) → onto [] r ≡ r
onto_none (Ok x) = refl
onto_none (Err n) = refl

-- items in front of a reading with others in front are both in front
pub onto_twice : {A : Type 0} (xs ys : List A) (r : Result (List A × List ℕ) ℕ) → onto xs (onto ys r) ≡ onto (xs ++ ys) r
onto_twice {A} xs ys (Ok x) = ap (λ (t : List A). Ok (t, x.1)) (sym (append_assoc xs ys x.0))
onto_twice xs ys (Err n) = refl

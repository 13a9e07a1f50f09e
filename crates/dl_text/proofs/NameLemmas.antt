-- Names are read exactly.
use Rattle.std.proofs.Common.{◌≡◌, ◌≢◌, ℕ, ◌+◌, ◌-◌, ◌≤◌, ◌<◌, Bool, true, false, cond, eqb, leb, ltb, List, [], ◌∷◌, ◌++◌, length, get_or, take}
use Rattle.std.proofs.Common.{drop, Option, Some, None, Result, Ok, Err, ◌⊎◌, inl, inr, refl, sym, ap, subst, ◌∙◌, append_assoc, arith, lit<}
use Rattle.std.specs.Prelude.{IfOk}
use Rattle.std.proofs.lemmas.Bool.Decides.{nat_tests}
use Rattle.std.proofs.lemmas.Bool.{eqb-true, eqb-false, eq-eqb, ne_eqb}
use Rattle.std.proofs.lemmas.List.{append-nil}
use Rattle.dl_types.specs.declared.name.TheConstants.{MAX_NAME}
use Rattle.dl_types.specs.Names.{name_fault, bad_from, is_letter, is_name_byte}
use Rattle.dl_text.specs.declared.stop.Stop.{Stop}
use Rattle.dl_text.specs.Readers.{shared_length, ◌>>=◌, Exact, Gives}
use Rattle.dl_text.specs.Fields.{bytes_field}
use Rattle.dl_text.specs.NameFields.{IsName, name_bytes_at, name_at}
use Rattle.dl_text.proofs.ReaderLemmas.{ok_is, bind_ok, bind_err, shared-cons, shared-differ, onto}
use Rattle.dl_text.proofs.NumberLemmas.{StopsEarly, far_from_stop}

-- what one byte does where there is room for so many
data NameCase (end room c : ℕ) : Type 0 where
  ends : c ≡ end → ((t : List ℕ) → name_bytes_at end room (c ∷ t) ≡ Ok ([], t)) → NameCase end room c
  goes : is_name_byte c ≡ true → 0 < room → ((t : List ℕ) → name_bytes_at end room (c ∷ t) ≡ onto (c ∷ []) (name_bytes_at end (room - 1) t))
      → NameCase end room c
  stops : c ≢ end → (is_name_byte c ≡ true → 0 < room → ⊥) → ((t : List ℕ) → name_bytes_at end room (c ∷ t) ≡ Err (1 + length t)) → NameCase end room c

-- so it is for the answers of the three tests of the byte
name_case_go : (end room c : ℕ) (is_end good some : Bool) → eqb c end ≡ is_end → is_name_byte c ≡ good → ltb 0 room ≡ some → NameCase end room c
name_case_go end room c true good some e f g = ends (eqb-true c end e) (λ t. rw e refl)
name_case_go end room c false true true e f g = goes f (grind (arith, nat_tests, g)) (λ t. rw (e, f, g) refl)
name_case_go end room c false true false e f g = stops (eqb-false c end e) (λ h pos. grind (arith, nat_tests, g, pos)) (λ t. rw (e, f, g) refl)
name_case_go end room c false false some e f g = stops (eqb-false c end e) (λ h pos. let clash : false ≡ true = sym f ∙ h in cc) (λ t. rw (e, f) refl)

-- each byte ends a name, or goes on with it where there is room, or stops it
name_case : (end room c : ℕ) → NameCase end room c
name_case end room c = name_case_go end room c (eqb c end) (is_name_byte c) (ltb 0 room) refl refl refl

-- a byte more of a name
name_more : (place room c : ℕ) (cs : List ℕ) → place + room ≡ MAX_NAME → 0 < room → is_name_byte c ≡ true → bad_from place (c ∷ cs) ≡ bad_from (place + 1) cs
name_more place room c cs fits pos good = let within : leb MAX_NAME place ≡ false = grind (arith, nat_tests, fits, pos) in rw (within, good) refl

-- a byte and its followers have no fault only where the byte lies within the limit and is one of a name
none_go : (place c : ℕ) (cs : List ℕ) (past good : Bool) → leb MAX_NAME place ≡ past → is_name_byte c ≡ good
    → cond past (Some MAX_NAME) (cond good (bad_from (place + 1) cs) (Some place)) ≡ None
    → (place < MAX_NAME) × (is_name_byte c ≡ true) × (bad_from (place + 1) cs ≡ None)
none_go place c cs true good e f h = absurd cc
none_go place c cs false true e f h = (grind (arith, nat_tests, e), f, h)
none_go place c cs false false e f h = absurd cc

-- where nothing is wrong from a byte on, it lies within the limit, is one of a name, and nothing is wrong behind it
none_parts : (place c : ℕ) (cs : List ℕ) → bad_from place (c ∷ cs) ≡ None → (place < MAX_NAME) × (is_name_byte c ≡ true) × (bad_from (place + 1) cs ≡ None)
none_parts place c cs h = none_go place c cs (leb MAX_NAME place) (is_name_byte c) refl refl h

-- a byte of a name goes on, where no byte of a name ends it
name_goes : (end room c : ℕ) (t : List ℕ) → is_name_byte end ≡ false → is_name_byte c ≡ true → 0 < room
    → name_bytes_at end room (c ∷ t) ≡ onto (c ∷ []) (name_bytes_at end (room - 1) t)
name_goes end room c t apart good pos = elim (name_case end room c) [
  | ends is at ↦ absurd (let clash : true ≡ false = sym good ∙ ap is_name_byte is ∙ apart in cc)
  | goes h k at ↦ at t
  | stops ne bad at ↦ absurd (bad good pos)
]

-- bytes of a name that are read are faultless from their place on, and spelt so
bytes_found : (end room place : ℕ) (bytes name rest : List ℕ) → place + room ≡ MAX_NAME → name_bytes_at end room bytes ≡ Ok (name, rest)
    → (bad_from place name ≡ None) × (bytes ≡ name ++ end ∷ rest)
bytes_found end room place [] name rest fits e = absurd cc
bytes_found end room place (c ∷ cs) name rest fits e = elim (name_case end room c) [
  | ends is at ↦
      let p : ([], cs) ≡ (name, rest) = ok_is ([], cs) (name, rest) (sym (at cs) ∙ e) in
      let P : List ℕ × List ℕ → Type 0 = λ x. (bad_from place x.0 ≡ None) × (c ∷ cs ≡ x.0 ++ end ∷ x.1) in
      subst P p (refl, rw is refl)
  | goes good pos at ↦
      let u = bind_ok (name_bytes_at end (room - 1) cs) (λ (x : List ℕ × List ℕ). Ok (c ∷ x.0, x.1)) (name, rest) (sym (at cs) ∙ e) in
      let f = bytes_found end (room - 1) (place + 1) cs u.0.0 u.0.1 (omega (arith, fits, pos)) u.1 in
      let p = ok_is (c ∷ u.0.0, u.0.1) (name, rest) u.2 in
      let P : List ℕ × List ℕ → Type 0 = λ x. (bad_from place x.0 ≡ None) × (c ∷ cs ≡ x.0 ++ end ∷ x.1) in
      subst P p (name_more place room c u.0.0 fits pos good ∙ f.0, ap (λ (t : List ℕ). c ∷ t) f.1)
  | stops ne bad at ↦ absurd (let clash : Err (1 + length cs) ≡ Ok (name, rest) = sym (at cs) ∙ e in cc)
]

-- faultless bytes of a name with their end are read, whatever follows
bytes_again : (end room place : ℕ) (name rest : List ℕ) → is_name_byte end ≡ false → place + room ≡ MAX_NAME → bad_from place name ≡ None
    → name_bytes_at end room (name ++ end ∷ rest) ≡ Ok (name, rest)
bytes_again end room place [] rest apart fits none = rw (eq-eqb end end refl) refl
bytes_again end room place (c ∷ cs) rest apart fits none =
    let n = none_parts place c cs none in
    let pos : 0 < room = omega (arith, fits, n.0) in
    name_goes end room c (cs ++ end ∷ rest) apart n.1 pos
    ∙ ap (onto (c ∷ [])) (bytes_again end (room - 1) (place + 1) cs rest apart (omega (arith, fits, pos)) n.2)

-- where bytes of a name stop, some faultless bytes and the end share all that stands before
bytes_near : (end room place : ℕ) (bytes : List ℕ) (left : ℕ) → place + room ≡ MAX_NAME → name_bytes_at end room bytes ≡ Err left
    → (name : List ℕ) × (bad_from place name ≡ None) × (shared_length bytes (name ++ end ∷ []) + left ≡ length bytes)
bytes_near end room place [] left fits e = ([], refl, let z : Err 0 ≡ Err left = e in let y : 0 ≡ left = cc in omega (arith, y))
bytes_near end room place (c ∷ cs) left fits e = elim (name_case end room c) [
  | ends is at ↦ absurd (let clash : Ok ([], cs) ≡ Err left = sym (at cs) ∙ e in cc)
  | goes good pos at ↦ elim (bind_err (name_bytes_at end (room - 1) cs) (λ (x : List ℕ × List ℕ). Ok (c ∷ x.0, x.1)) left (sym (at cs) ∙ e)) [
    | inl s ↦
        let w = bytes_near end (room - 1) (place + 1) cs left (omega (arith, fits, pos)) s in
        (c ∷ w.0, name_more place room c w.0 fits pos good ∙ w.1, omega (arith, w.2, shared-cons c cs (w.0 ++ end ∷ [])))
    | inr z ↦ absurd (let clash : Ok (c ∷ z.0.0, z.0.1) ≡ Err left = z.2 in cc)
  ]
  | stops ne bad at ↦
      let all : Err (1 + length cs) ≡ Err left = sym (at cs) ∙ e in
      let size : 1 + length cs ≡ left = cc in
      ([], refl, omega (arith, size, shared-differ c end cs [] (ne_eqb c end ne)))
]

-- bytes of a name stop at the text's end, or at a byte that decides it with what stands before
bytes_early : (end room : ℕ) (bytes : List ℕ) (left : ℕ) → name_bytes_at end room bytes ≡ Err left → (left ≡ 0) ⊎ StopsEarly (name_bytes_at end room) bytes left
bytes_early end room [] left e = inl (let z : Err 0 ≡ Err left = e in cc)
bytes_early end room (c ∷ cs) left e = elim (name_case end room c) [
  | ends is at ↦ absurd (let clash : Ok ([], cs) ≡ Err left = sym (at cs) ∙ e in cc)
  | goes good pos at ↦ elim (bind_err (name_bytes_at end (room - 1) cs) (λ (x : List ℕ × List ℕ). Ok (c ∷ x.0, x.1)) left (sym (at cs) ∙ e)) [
    | inl s ↦ elim (bytes_early end (room - 1) cs left s) [
      | inl z ↦ inl z
      | inr w ↦ inr (record {
        front = c ∷ w.front;
        byte = w.byte;
        rest = w.rest;
        parts = ap (λ (t : List ℕ). c ∷ t) w.parts;
        size = w.size;
        always = λ more. let a = w.always more in (a.0, at (w.front ++ w.byte ∷ more) ∙ ap (onto (c ∷ [])) a.1);
      })
    ]
    | inr z ↦ absurd (let clash : Ok (c ∷ z.0.0, z.0.1) ≡ Err left = z.2 in cc)
  ]
  | stops ne bad at ↦
      let all : Err (1 + length cs) ≡ Err left = sym (at cs) ∙ e in
      inr (record { front = []; byte = c; rest = cs; parts = refl; size = cc; always = λ more. (1 + length more, at more) })
]

-- the first letter

-- a byte is a letter, or is none
letter_bool : (c : ℕ) → (is_letter c ≡ true) ⊎ (is_letter c ≡ false)
letter_bool c = elim (is_letter c) as (λ t. (t ≡ true) ⊎ (t ≡ false)) [ true ↦ inl refl | false ↦ inr refl ]

-- a letter is a byte of a name
letter_good : (c : ℕ) → is_letter c ≡ true → is_name_byte c ≡ true
letter_good c h = rw h refl

-- a name goes on behind its first letter
name_letter : (end c : ℕ) (t : List ℕ) → is_name_byte end ≡ false → is_letter c ≡ true
    → name_at end (c ∷ t) ≡ onto (c ∷ []) (name_bytes_at end (MAX_NAME - 1) t)
name_letter end c t apart h = let here : name_at end (c ∷ t) ≡ name_bytes_at end MAX_NAME (c ∷ t) = rw h refl in here
    ∙ name_goes end MAX_NAME c t apart (letter_good c h) (lit< tt)

-- a byte that is no letter stops a name at its front
no_letter : (end c : ℕ) (t : List ℕ) → is_letter c ≡ false → name_at end (c ∷ t) ≡ Err (1 + length t)
no_letter end c t h = rw h refl

-- a name is a letter and what may follow it
fault_first : (c : ℕ) (cs : List ℕ) → is_letter c ≡ true → bad_from 1 cs ≡ None → name_fault (c ∷ cs) ≡ None
fault_first c cs h none = let here : name_fault (c ∷ cs) ≡ bad_from 0 (c ∷ cs) = rw h refl in here
    ∙ name_more 0 MAX_NAME c cs refl (lit< tt) (letter_good c h) ∙ none

-- so it is for the answer of the test of the byte
first_go : (c : ℕ) (cs : List ℕ) (letter : Bool) → is_letter c ≡ letter → cond letter (bad_from 0 (c ∷ cs)) (Some 0) ≡ None
    → (is_letter c ≡ true) × (bad_from 1 cs ≡ None)
first_go c cs true e h = (e, (none_parts 0 c cs h).2)
first_go c cs false e h = absurd cc

-- a name is a letter, and nothing is wrong behind it
fault_parts : (c : ℕ) (cs : List ℕ) → name_fault (c ∷ cs) ≡ None → (is_letter c ≡ true) × (bad_from 1 cs ≡ None)
fault_parts c cs h = first_go c cs (is_letter c) refl h

-- what is read as a name is a name, and spelt so
name_found : (end : ℕ) → is_name_byte end ≡ false → (bytes name rest : List ℕ) → name_at end bytes ≡ Ok (name, rest)
    → IsName name × (bytes ≡ bytes_field end name ++ rest)
name_found end apart [] name rest e = absurd cc
name_found end apart (c ∷ cs) name rest e = elim (letter_bool c) [
  | inl h ↦
      let u = bind_ok (name_bytes_at end (MAX_NAME - 1) cs) (λ (x : List ℕ × List ℕ). Ok (c ∷ x.0, x.1)) (name, rest) (sym (name_letter end c cs apart h)
      ∙ e) in
      let f = bytes_found end (MAX_NAME - 1) 1 cs u.0.0 u.0.1 refl u.1 in
      let p = ok_is (c ∷ u.0.0, u.0.1) (name, rest) u.2 in
      let P : List ℕ × List ℕ → Type 0 = λ x. IsName x.0 × (c ∷ cs ≡ bytes_field end x.0 ++ x.1) in
      subst P p (fault_first c u.0.0 h f.0, ap (λ (t : List ℕ). c ∷ t) (f.1 ∙ sym (append_assoc u.0.0 (end ∷ []) u.0.1)))
  | inr h ↦ absurd (let clash : Err (1 + length cs) ≡ Ok (name, rest) = sym (no_letter end c cs h) ∙ e in cc)
]

-- a name with its end is read, whatever follows
name_again : (end : ℕ) → is_name_byte end ≡ false → (name rest : List ℕ) → IsName name → name_at end (bytes_field end name ++ rest) ≡ Ok (name, rest)
name_again end apart [] rest good = absurd cc
name_again end apart (c ∷ cs) rest good =
    let f = fault_parts c cs good in
    ap (name_at end) (append_assoc (c ∷ cs) (end ∷ []) rest) ∙ name_letter end c (cs ++ end ∷ rest) apart f.0
    ∙ ap (onto (c ∷ [])) (bytes_again end (MAX_NAME - 1) 1 cs rest apart refl f.1)

-- a byte that is no letter is not the letter a
no_a : (c : ℕ) → is_letter c ≡ false → eqb c 97 ≡ false
no_a c h = grind (arith, nat_tests, h)

-- where a reading of a name stops, some name and its end share all that stands before
name_near : (end : ℕ) → is_name_byte end ≡ false → (bytes : List ℕ) (left : ℕ) → name_at end bytes ≡ Err left
    → (name : List ℕ) × IsName name × (shared_length bytes (bytes_field end name) + left ≡ length bytes)
name_near end apart [] left e = (97 ∷ [], refl, let z : Err 0 ≡ Err left = e in let y : 0 ≡ left = cc in omega (arith, y))
name_near end apart (c ∷ cs) left e = elim (letter_bool c) [
  | inl h ↦ elim (bind_err (name_bytes_at end (MAX_NAME - 1) cs) (λ (x : List ℕ × List ℕ). Ok (c ∷ x.0, x.1)) left (sym (name_letter end c cs apart h) ∙ e)) [
    | inl s ↦
        let w = bytes_near end (MAX_NAME - 1) 1 cs left refl s in
        (c ∷ w.0, fault_first c w.0 h w.1, omega (arith, w.2, shared-cons c cs (w.0 ++ end ∷ [])))
    | inr z ↦ absurd (let clash : Ok (c ∷ z.0.0, z.0.1) ≡ Err left = z.2 in cc)
  ]
  | inr h ↦
      let all : Err (1 + length cs) ≡ Err left = sym (no_letter end c cs h) ∙ e in
      let size : 1 + length cs ≡ left = cc in
      (97 ∷ [], refl, omega (arith, size, shared-differ c 97 cs (end ∷ []) (no_a c h)))
]

-- a reading of a name stops at the text's end, or at a byte that decides it with what stands before
name_early : (end : ℕ) → is_name_byte end ≡ false → (bytes : List ℕ) (left : ℕ) → name_at end bytes ≡ Err left
    → (left ≡ 0) ⊎ StopsEarly (name_at end) bytes left
name_early end apart [] left e = inl (let z : Err 0 ≡ Err left = e in cc)
name_early end apart (c ∷ cs) left e = elim (letter_bool c) [
  | inl h ↦ elim (bind_err (name_bytes_at end (MAX_NAME - 1) cs) (λ (x : List ℕ × List ℕ). Ok (c ∷ x.0, x.1)) left (sym (name_letter end c cs apart h) ∙ e)) [
    | inl s ↦ elim (bytes_early end (MAX_NAME - 1) cs left s) [
      | inl z ↦ inl z
      | inr w ↦ inr (record {
        front = c ∷ w.front;
        byte = w.byte;
        rest = w.rest;
        parts = ap (λ (t : List ℕ). c ∷ t) w.parts;
        size = w.size;
        always = λ more. let a = w.always more in (a.0, name_letter end c (w.front ++ w.byte ∷ more) apart h ∙ ap (onto (c ∷ [])) a.1);
      })
    ]
    | inr z ↦ absurd (let clash : Ok (c ∷ z.0.0, z.0.1) ≡ Err left = z.2 in cc)
  ]
  | inr h ↦
      let all : Err (1 + length cs) ≡ Err left = sym (no_letter end c cs h) ∙ e in
      inr (record { front = []; byte = c; rest = cs; parts = refl; size = cc; always = λ more. (1 + length more, no_letter end c more h) })
]

-- an end below 45 is no byte of a name
no_name_byte : (end : ℕ) → end < 45 → is_name_byte end ≡ false
no_name_byte end low = grind (arith, nat_tests, low)

-- A name is read exactly.
pub name_exact : (end : ℕ) → end < 45 → Exact IsName (bytes_field end) (name_at end)
name_exact end low = let apart = no_name_byte end low in record {
  found = name_found end apart;
  again = name_again end apart;
  near = name_near end apart;
  far = λ bytes left e. far_from_stop IsName (bytes_field end) (name_at end) (name_again end apart) bytes left (name_early end apart bytes left e);
}

-- what is read is a name
pub name_is : {B : Type 0} (now : B → List ℕ) (r : Result (B × B) Stop) (end : ℕ) (bytes : List ℕ) → end < 45
    → Gives (λ x. (now x.0, now x.1)) r (name_at end bytes) → IfOk r (λ x. IsName (now x.0))
name_is now (Ok x) end bytes low given = ((name_exact end low).found bytes (now x.0) (now x.1) given).0
name_is now (Err e) end bytes low given = tt

-- so is one whose first letter was seen before
pub letter_name : {B : Type 0} (now : B → List ℕ) (r : Result (B × B) Stop) (end : ℕ) (bytes : List ℕ) → end < 45 → is_letter (get_or bytes 0 0) ≡ true
    → Gives (λ x. (now x.0, now x.1)) r (name_bytes_at end MAX_NAME bytes) → IfOk r (λ x. IsName (now x.0))
letter_name now (Err e) end bytes low first given = tt
letter_name now (Ok x) end [] low first given = absurd (let clash : Err 0 ≡ Ok (now x.0, now x.1) = given in cc)
letter_name now (Ok x) end (c ∷ cs) low first given =
    let here : name_at end (c ∷ cs) ≡ name_bytes_at end MAX_NAME (c ∷ cs) = rw first refl in
    name_is now (Ok x) end (c ∷ cs) low (here ∙ given)

-- one turn of a reader of names

-- the bytes go on from a place of a name
pub record GoesOn (end place : ℕ) (bytes : List ℕ) : Type 0 where
  pub within : place ≤ MAX_NAME
  pub same : onto (take place bytes) (name_bytes_at end (MAX_NAME - place) (drop place bytes)) ≡ name_bytes_at end MAX_NAME bytes

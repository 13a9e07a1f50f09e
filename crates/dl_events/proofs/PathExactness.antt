-- Paths are read exactly.
use Rattle.std.proofs.Common.{◌≡◌, ◌≢◌, ℕ, zero, suc, ◌+◌, ◌-◌, ◌≤◌, ◌<◌, Bool, true, false, cond, eqb, ltb, List, [], ◌∷◌, ◌++◌, length, take, drop}
use Rattle.std.proofs.Common.{Option, Some, None, Ok, Err, ◌⊎◌, inl, inr, refl, sym, ap, subst, ◌∙◌, append_assoc, arith, ◌&&◌, not, lit<, get_or}
use Rattle.std.proofs.lemmas.Bool.Decides.{nat_tests}
use Rattle.std.proofs.lemmas.Bool.{eqb-true, eq-eqb, ne_eqb, cases_eq, and_parts, and_from, lt-ltb}
use Rattle.std.proofs.lemmas.List.{nil_from_length, take_all, take_more, drop_more}
use Rattle.std.proofs.Math.Seq.{take-append_seam}
use Rattle.dl_fields.specs.Paths.{is_part_byte, flaw_behind, with_slashes, IsPathField}
use Rattle.dl_fields.proofs.PathLemmas.{sound, complete}
use Rattle.dl_text.specs.Readers.{shared_length, Exact}
use Rattle.dl_text.specs.Fields.{bytes_field}
use Rattle.dl_text.proofs.ReaderLemmas.{ok_is, bind_ok, bind_err, shared-cons, shared-differ, onto, onto_twice}
use Rattle.dl_text.proofs.NumberLemmas.{StopsEarly, far_from_stop}
use Rattle.dl_transcript.specs.PathFields.{parts_at, path_at, max_path}

-- the byte that ends a path is none that stands in one
pub record IsApart (end : ℕ) : Type 0 where
  pub part : is_part_byte end ≡ false
  pub slash : eqb end 47 ≡ false

-- an end below 45 is none
pub apart : (end : ℕ) → end < 45 → IsApart end
apart end low = record { part = grind (arith, nat_tests, low); slash = grind (arith, nat_tests, low) }

-- a byte of a part is no slash
part_slash : (c : ℕ) → is_part_byte c ≡ true → eqb c 47 ≡ false
part_slash c h = elim (cases_eq c 47) [
  | inl e ↦ absurd (let wrong : true ≡ false = sym h ∙ ap is_part_byte e in cc)
  | inr ne ↦ ne_eqb c 47 ne
]

-- what one byte does behind so many bytes of a part, where there is room for so many
data PartCase (end room part c : ℕ) : Type 0 where
  ends : c ≡ end → 0 < part → ((t : List ℕ) → parts_at end room part false (c ∷ t) ≡ Ok ([], t)) → PartCase end room part c
  parts : c ≡ 47 → 0 < part → 1 < room → ((t : List ℕ) → parts_at end room part false (c ∷ t) ≡ onto (c ∷ []) (parts_at end (room - 1) 0 false t))
      → PartCase end room part c
  goes : is_part_byte c ≡ true → part < 80 → 0 < room
      → ((t : List ℕ) → parts_at end room part false (c ∷ t) ≡ onto (c ∷ []) (parts_at end (room - 1) (part + 1) false t)) → PartCase end room part c
  stops : (0 < part → c ≢ end) → (c ≡ 47 → 0 < part → 1 < room → ⊥) → (is_part_byte c ≡ true → part < 80 → 0 < room → ⊥)
      → ((t : List ℕ) → parts_at end room part false (c ∷ t) ≡ Err (1 + length t)) → PartCase end room part c

-- a test that fails has no parts that hold
no_both : (x y : Bool) → x && y ≡ false → x ≡ true → y ≡ true → ⊥
no_both x y e p q = let clash : true ≡ false = sym (and_from x y p q) ∙ e in cc

-- so it is for the answers of the tests of the byte
part_case_go : (end room part c : ℕ) (closes parts_on goes_on : Bool) → (eqb c end && ltb 0 part) ≡ closes → ((eqb c 47 && ltb 0 part) && ltb 1 room) ≡ parts_on
    → ((is_part_byte c && ltb part 80) && ltb 0 room) ≡ goes_on → PartCase end room part c
part_case_go end room part c true y z e f g = let p = and_parts (eqb c end) (ltb 0 part) e in
    ends (eqb-true c end p.0) (let q = p.1 in grind (arith, nat_tests, q)) (λ t. rw e refl)
part_case_go end room part c false true z e f g =
    let p = and_parts (eqb c 47 && ltb 0 part) (ltb 1 room) f in
    let q = and_parts (eqb c 47) (ltb 0 part) p.0 in
    parts (eqb-true c 47 q.0) (let h = q.1 in grind (arith, nat_tests, h)) (let h = p.1 in grind (arith, nat_tests, h)) (λ t. rw (e, f) refl)
part_case_go end room part c false false true e f g =
    let p = and_parts (is_part_byte c && ltb part 80) (ltb 0 room) g in
    let q = and_parts (is_part_byte c) (ltb part 80) p.0 in
    goes q.0 (let h = q.1 in grind (arith, nat_tests, h)) (let h = p.1 in grind (arith, nat_tests, h)) (λ t. rw (e, f, g) refl)
part_case_go end room part c false false false e f g = stops
    (λ some is. no_both (eqb c end) (ltb 0 part) e (eq-eqb c end is) (lt-ltb 0 part some))
    (λ is some wide. no_both (eqb c 47 && ltb 0 part) (ltb 1 room) f (and_from _ _ (eq-eqb c 47 is) (lt-ltb 0 part some)) (lt-ltb 1 room wide))
    (λ byte few room_left. no_both (is_part_byte c && ltb part 80) (ltb 0 room) g (and_from _ _ byte (lt-ltb part 80 few)) (lt-ltb 0 room room_left))
    (λ t. rw (e, f, g) refl)

-- each byte ends a path, or goes on with it where there is room, or stops it
part_case : (end room part c : ℕ) → PartCase end room part c
part_case end room part c = part_case_go end room part c (eqb c end && ltb 0 part) ((eqb c 47 && ltb 0 part) && ltb 1 room)
    ((is_part_byte c && ltb part 80) && ltb 0 room) refl refl refl

-- What stands behind so many bytes of a part of a path: it has no flaw, and there is room for it.
pub record IsRest (room part : ℕ) (rest : List ℕ) : Type 0 where
  pub sound : flaw_behind part rest ≡ None
  pub fits : length rest ≤ room

-- a part may end
rest_end : (room part : ℕ) → 0 < part → IsRest room part []
rest_end room part some = record { sound = let e : eqb part 0 ≡ false = grind (arith, nat_tests, some) in rw e refl; fits = omega arith }

-- behind a part a slash goes on
rest_slash : (room part c : ℕ) (cs : List ℕ) → c ≡ 47 → 0 < part → 1 < room → IsRest (room - 1) 0 cs → IsRest room part (c ∷ cs)
rest_slash room part c cs is some wide r = record { sound = rw (eq-eqb c 47 is, full) r.sound; fits = omega (arith, r.fits, wide) }
  where
    full : eqb part 0 ≡ false
    full = grind (arith, nat_tests, some)

-- a byte of a part goes on
rest_byte : (room part c : ℕ) (cs : List ℕ) → is_part_byte c ≡ true → part < 80 → 0 < room → IsRest (room - 1) (part + 1) cs → IsRest room part (c ∷ cs)
rest_byte room part c cs byte few some r = record {
  sound = rw (part_slash c byte, byte, lt-ltb part 80 few) (next ∙ r.sound);
  fits = omega
      (arith, r.fits, some);
}
  where
    next : flaw_behind (suc part) cs ≡ flaw_behind (part + 1) cs
    next = ap (λ (n : ℕ). flaw_behind n cs) (omega arith)

-- What a rest begins with, where it has a byte: a slash behind a part, or a byte of a part.
data RestCase (room part c : ℕ) (cs : List ℕ) : Type 0 where
  slash : c ≡ 47 → 0 < part → 1 < room → IsRest (room - 1) 0 cs → RestCase room part c cs
  byte : is_part_byte c ≡ true → part < 80 → 0 < room → IsRest (room - 1) (part + 1) cs → RestCase room part c cs

-- something stands behind a slash
some_behind : (cs : List ℕ) → flaw_behind 0 cs ≡ None → 0 < length cs
some_behind [] e = absurd cc
some_behind (c ∷ cs) e = omega arith

-- so it is for the answers of the tests of the byte
rest_case_go : (room part c : ℕ) (cs : List ℕ) (is_slash none good : Bool) → eqb c 47 ≡ is_slash → eqb part 0 ≡ none → (is_part_byte c && ltb part 80) ≡ good
    → cond is_slash (cond none (Some (suc (length cs))) (flaw_behind 0 cs)) (cond good (flaw_behind (suc part) cs) (Some (suc (length cs)))) ≡ None
    → length (c ∷ cs) ≤ room → RestCase room part c cs
rest_case_go room part c cs true true good e f g h fits = absurd cc
rest_case_go room part c cs true false good e f g h fits =
    slash (eqb-true c 47 e) (grind (arith, nat_tests, f)) (omega (arith, fits, some_behind cs h)) (record { sound = h; fits = omega (arith, fits) })
rest_case_go room part c cs false none true e f g h fits =
    let p = and_parts (is_part_byte c) (ltb part 80) g in
    byte p.0 (let q = p.1 in grind (arith, nat_tests, q)) (omega (arith, fits))
    (record { sound = ap (λ (n : ℕ). flaw_behind n cs) (omega arith) ∙ h; fits = omega (arith, fits) })
rest_case_go room part c cs false none false e f g h fits = absurd cc

-- a rest that has a byte begins so
rest_case : (room part c : ℕ) (cs : List ℕ) → IsRest room part (c ∷ cs) → RestCase room part c cs
rest_case room part c cs r = rest_case_go room part c cs (eqb c 47) (eqb part 0) (is_part_byte c && ltb part 80) refl refl refl r.sound r.fits

-- a slash behind a part goes on
slash_goes : (end room part c : ℕ) (t : List ℕ) → IsApart end → c ≡ 47 → 0 < part → 1 < room
    → parts_at end room part false (c ∷ t) ≡ onto (c ∷ []) (parts_at end (room - 1) 0 false t)
slash_goes end room part c t a is some wide = elim (part_case end room part c) [
  | ends e pos at ↦ absurd (let clash : true ≡ false = sym (eq-eqb c 47 is) ∙ ap (λ (x : ℕ). eqb x 47) e ∙ a.slash in cc)
  | parts e pos two at ↦ at t
  | goes good few pos at ↦ absurd (let clash : true ≡ false = sym (eq-eqb c 47 is) ∙ part_slash c good in cc)
  | stops ne bad none at ↦ absurd (bad is some wide)
]

-- a byte of a part goes on where there is room
byte_goes : (end room part c : ℕ) (t : List ℕ) → IsApart end → is_part_byte c ≡ true → part < 80 → 0 < room
    → parts_at end room part false (c ∷ t) ≡ onto (c ∷ []) (parts_at end (room - 1) (part + 1) false t)
byte_goes end room part c t a good few some = elim (part_case end room part c) [
  | ends e pos at ↦ absurd (let clash : true ≡ false = sym good ∙ ap is_part_byte e ∙ a.part in cc)
  | parts e pos two at ↦ absurd (let clash : true ≡ false = sym (eq-eqb c 47 e) ∙ part_slash c good in cc)
  | goes good' few' pos at ↦ at t
  | stops ne bad none at ↦ absurd (none good few some)
]

-- a rest with its end is read, whatever follows
rest_again : (end room part : ℕ) (rest more : List ℕ) → IsApart end → IsRest room part rest → parts_at end room part false (rest ++ end ∷ more) ≡ Ok
    (rest, more)
rest_again end room part [] more a r = rw (eq-eqb end end refl, some (eqb part 0) refl r.sound) refl
  where
    some : (none : Bool) → eqb part 0 ≡ none → cond {A = Option ℕ} none (Some 1) None ≡ None → ltb 0 part ≡ true
    some true e h = absurd cc
    some false e h = grind (arith, nat_tests, e)
rest_again end room part (c ∷ cs) more a r = elim (rest_case room part c cs r) [
  | slash is some wide r' ↦ slash_goes end room part c (cs ++ end ∷ more) a is some wide ∙ ap (onto (c ∷ [])) (rest_again end (room - 1) 0 cs more a r')
  | byte good few some r' ↦ byte_goes end room part c (cs ++ end ∷ more) a good few some
      ∙ ap (onto (c ∷ [])) (rest_again end (room - 1) (part + 1) cs more a r')
]

-- what is read is a rest, and spelt so
rest_found : (end room part : ℕ) (bytes rest more : List ℕ) → parts_at end room part false bytes ≡ Ok (rest, more)
    → IsRest room part rest × (bytes ≡ rest ++ end ∷ more)
rest_found end room part [] rest more e = absurd cc
rest_found end room part (c ∷ cs) rest more e = elim (part_case end room part c) [
  | ends is some at ↦
      let p : ([], cs) ≡ (rest, more) = ok_is ([], cs) (rest, more) (sym (at cs) ∙ e) in
      let P : List ℕ × List ℕ → Type 0 = λ x. IsRest room part x.0 × (c ∷ cs ≡ x.0 ++ end ∷ x.1) in
      subst P p (rest_end room part some, rw is refl)
  | parts is some wide at ↦
      let u = bind_ok (parts_at end (room - 1) 0 false cs) (λ (x : List ℕ × List ℕ). Ok (c ∷ x.0, x.1)) (rest, more) (sym (at cs) ∙ e) in
      let f = rest_found end (room - 1) 0 cs u.0.0 u.0.1 u.1 in
      let p = ok_is (c ∷ u.0.0, u.0.1) (rest, more) u.2 in
      let P : List ℕ × List ℕ → Type 0 = λ x. IsRest room part x.0 × (c ∷ cs ≡ x.0 ++ end ∷ x.1) in
      subst P p (rest_slash room part c u.0.0 is some wide f.0, ap (λ (t : List ℕ). c ∷ t) f.1)
  | goes good few some at ↦
      let u = bind_ok (parts_at end (room - 1) (part + 1) false cs) (λ (x : List ℕ × List ℕ). Ok (c ∷ x.0, x.1)) (rest, more) (sym (at cs) ∙ e) in
      let f = rest_found end (room - 1) (part + 1) cs u.0.0 u.0.1 u.1 in
      let p = ok_is (c ∷ u.0.0, u.0.1) (rest, more) u.2 in
      let P : List ℕ × List ℕ → Type 0 = λ x. IsRest room part x.0 × (c ∷ cs ≡ x.0 ++ end ∷ x.1) in
      subst P p (rest_byte room part c u.0.0 good few some f.0, ap (λ (t : List ℕ). c ∷ t) f.1)
  | stops ne bad none at ↦ absurd (let clash : Err (1 + length cs) ≡ Ok (rest, more) = sym (at cs) ∙ e in cc)
]

-- a rest and its end share with the bytes all that stands before so many of them
abbrev SharesRest : (end room part : ℕ) (bytes : List ℕ) (left : ℕ) → Type 0
SharesRest end room part bytes left = (rest : List ℕ) × IsRest room part rest × (shared_length bytes (rest ++ end ∷ []) + left ≡ length bytes)

-- one byte more of both
shares_more : (end room part c : ℕ) (bytes rest : List ℕ) (left : ℕ) → shared_length bytes (rest ++ end ∷ []) + left ≡ length bytes
    → shared_length (c ∷ bytes) ((c ∷ rest) ++ end ∷ []) + left ≡ length (c ∷ bytes)
shares_more end room part c bytes rest left h = omega (arith, h, shared-cons c bytes (rest ++ end ∷ []))

-- a part of one byte may stand where there is room
rest_a : (room : ℕ) → 0 < room → IsRest room 0 (97 ∷ [])
rest_a room some = rest_byte room 0 97 [] refl (lit< tt) some (rest_end (room - 1) (0 + 1) (lit< tt))

-- some rest shares nothing with bytes that don't begin like one
shares_none : (end room part : ℕ) (bytes : List ℕ) → (part ≡ 0 → 0 < room) → (part ≡ 0 → shared_length bytes (97 ∷ end ∷ []) ≡ 0)
    → (0 < part → shared_length bytes (end ∷ []) ≡ 0) → SharesRest end room part bytes (length bytes)
shares_none end room zero bytes roomy first last = (97 ∷ [], rest_a room (roomy refl), omega (arith, first refl))
shares_none end room (suc part) bytes roomy first last = ([], rest_end room (suc part) (omega arith), omega (arith, last (omega arith)))

-- where a reading of a rest stops, some rest and its end share all that stands before
rest_near : (end room part : ℕ) (bytes : List ℕ) (left : ℕ) → (part ≡ 0 → 0 < room) → parts_at end room part false bytes ≡ Err left
    → SharesRest end room part bytes left
rest_near end room part [] left roomy e =
    let z : Err 0 ≡ Err left = e in
    let y : 0 ≡ left = cc in
    subst (λ (n : ℕ). SharesRest end room part [] n) y (shares_none end room part [] roomy (λ none. refl) (λ some. refl))
rest_near end room part (c ∷ cs) left roomy e = elim (part_case end room part c) [
  | ends is some at ↦ absurd (let clash : Ok ([], cs) ≡ Err left = sym (at cs) ∙ e in cc)
  | parts is some wide at ↦ elim (bind_err (parts_at end (room - 1) 0 false cs) (λ (x : List ℕ × List ℕ). Ok (c ∷ x.0, x.1)) left (sym (at cs) ∙ e)) [
    | inl s ↦
        let w = rest_near end (room - 1) 0 cs left (λ none. omega (arith, wide)) s in
        (c ∷ w.0, rest_slash room part c w.0 is some wide w.1, omega (arith, w.2, shared-cons c cs (w.0 ++ end ∷ [])))
    | inr z ↦ absurd (let clash : Ok (c ∷ z.0.0, z.0.1) ≡ Err left = z.2 in cc)
  ]
  | goes good few some at ↦ elim (bind_err (parts_at end (room - 1) (part + 1) false cs) (λ (x : List ℕ × List ℕ). Ok (c ∷ x.0, x.1)) left (sym (at cs) ∙ e)) [
    | inl s ↦
        let w = rest_near end (room - 1) (part + 1) cs left (λ none. absurd (omega (arith, none))) s in
        (c ∷ w.0, rest_byte room part c w.0 good few some w.1, omega (arith, w.2, shared-cons c cs (w.0 ++ end ∷ [])))
    | inr z ↦ absurd (let clash : Ok (c ∷ z.0.0, z.0.1) ≡ Err left = z.2 in cc)
  ]
  | stops ne bad none at ↦
      let all : Err (1 + length cs) ≡ Err left = sym (at cs) ∙ e in
      let size : 1 + length cs ≡ left = cc in
      let same : length (c ∷ cs) ≡ left = omega (arith, size) in
      let no_a : part ≡ 0 → eqb c 97 ≡ false = λ zero_part. ne_eqb c 97 (λ is. none (ap is_part_byte is) (omega (arith, zero_part)) (roomy zero_part)) in
      subst (λ (n : ℕ). SharesRest end room part (c ∷ cs) n) same
      (shares_none end room part (c ∷ cs) roomy (λ z. shared-differ c 97 cs (end ∷ []) (no_a z)) (λ some. shared-differ c end cs [] (ne_eqb c end (ne some))))
]

-- a reading of a rest stops at the text's end, or at a byte that decides it with what stands before
rest_early : (end room part : ℕ) (bytes : List ℕ) (left : ℕ) → parts_at end room part false bytes ≡ Err left
    → (left ≡ 0) ⊎ StopsEarly (parts_at end room part false) bytes left
rest_early end room part [] left e = inl (let z : Err 0 ≡ Err left = e in cc)
rest_early end room part (c ∷ cs) left e = elim (part_case end room part c) [
  | ends is some at ↦ absurd (let clash : Ok ([], cs) ≡ Err left = sym (at cs) ∙ e in cc)
  | parts is some wide at ↦ elim (bind_err (parts_at end (room - 1) 0 false cs) (λ (x : List ℕ × List ℕ). Ok (c ∷ x.0, x.1)) left (sym (at cs) ∙ e)) [
    | inl s ↦ elim (rest_early end (room - 1) 0 cs left s) [
      | inl z ↦ inl z
      | inr w ↦ inr (record {
        front = c ∷ w.front;
        byte = w.byte;
        rest = w.rest;
        parts = ap (λ (t : List ℕ). c ∷ t) w.parts;
        size = w.size;
        always = λ more. let a = w.always more in (a.0, at (w.front ++ w.byte ∷ more) ∙ ap (onto (c ∷ [])) a.1);
      })
    ]
    | inr z ↦ absurd (let clash : Ok (c ∷ z.0.0, z.0.1) ≡ Err left = z.2 in cc)
  ]
  | goes good few some at ↦ elim (bind_err (parts_at end (room - 1) (part + 1) false cs) (λ (x : List ℕ × List ℕ). Ok (c ∷ x.0, x.1)) left (sym (at cs) ∙ e)) [
    | inl s ↦ elim (rest_early end (room - 1) (part + 1) cs left s) [
      | inl z ↦ inl z
      | inr w ↦ inr (record {
        front = c ∷ w.front;
        byte = w.byte;
        rest = w.rest;
        parts = ap (λ (t : List ℕ). c ∷ t) w.parts;
        size = w.size;
        always = λ more. let a = w.always more in (a.0, at (w.front ++ w.byte ∷ more) ∙ ap (onto (c ∷ [])) a.1);
      })
    ]
    | inr z ↦ absurd (let clash : Ok (c ∷ z.0.0, z.0.1) ≡ Err left = z.2 in cc)
  ]
  | stops ne bad none at ↦
      let all : Err (1 + length cs) ≡ Err left = sym (at cs) ∙ e in
      inr (record { front = []; byte = c; rest = cs; parts = refl; size = cc; always = λ more. (1 + length more, at more) })
]

-- ---- behind the first slash

-- how many bytes of a path stand behind its first slash at most
abbrev pub most : ℕ
most = max_path - 1

-- what stands behind the first slash of a path: nothing, or parts
abbrev pub IsBehind : List ℕ → Type 0
IsBehind rest = (rest ≡ []) ⊎ IsRest most 0 rest

-- bytes that don't begin with the end are read as behind any other slash
root_same : (end room c : ℕ) (cs : List ℕ) → eqb c end ≡ false → parts_at end room 0 true (c ∷ cs) ≡ parts_at end room 0 false (c ∷ cs)
root_same end room c cs h = rw h refl

-- a rest doesn't begin with the end
no_end : (end room c : ℕ) (cs : List ℕ) → IsApart end → IsRest room 0 (c ∷ cs) → eqb c end ≡ false
no_end end room c cs a r = elim (rest_case room 0 c cs r) [
  | slash is some wide r' ↦ absurd (omega (arith, some))
  | byte good few some r' ↦ ne_eqb c end (λ e. let clash : true ≡ false = sym good ∙ ap is_part_byte e ∙ a.part in cc)
]

-- what stands behind the first slash is read, whatever follows
behind_again : (end : ℕ) (rest more : List ℕ) → IsApart end → IsBehind rest → parts_at end most 0 true (rest ++ end ∷ more) ≡ Ok (rest, more)
behind_again end [] more a v = rw (eq-eqb end end refl) refl
behind_again end (c ∷ cs) more a (inl e) = absurd cc
behind_again end (c ∷ cs) more a (inr r) = root_same end most c (cs ++ end ∷ more) (no_end end most c cs a r) ∙ rest_again end most 0 (c ∷ cs) more a r

-- what is read behind the first slash may stand there, and is spelt so
behind_found : (end : ℕ) (bytes rest more : List ℕ) → parts_at end most 0 true bytes ≡ Ok (rest, more) → IsBehind rest × (bytes ≡ rest ++ end ∷ more)
behind_found end [] rest more e = absurd cc
behind_found end (c ∷ cs) rest more e = go (eqb c end) refl
  where
    go : (is_end : Bool) → eqb c end ≡ is_end → IsBehind rest × (c ∷ cs ≡ rest ++ end ∷ more)
    go true h =
        let here : parts_at end most 0 true (c ∷ cs) ≡ Ok ([], cs) = rw h refl in
        let p : ([], cs) ≡ (rest, more) = ok_is {B = ℕ} ([], cs) (rest, more) (sym here ∙ e) in
        let P : List ℕ × List ℕ → Type 0 = λ x. IsBehind x.0 × (c ∷ cs ≡ x.0 ++ end ∷ x.1) in
        subst P p (inl refl, ap (λ (b : ℕ). b ∷ cs) (eqb-true c end h))
    go false h = let f = rest_found end most 0 (c ∷ cs) rest more (sym (root_same end most c cs h) ∙ e) in (inr f.0, f.1)

-- where such a reading stops, some bytes that may stand there and their end share all that stands before
behind_near : (end : ℕ) (bytes : List ℕ) (left : ℕ) → parts_at end most 0 true bytes ≡ Err left
    → (rest : List ℕ) × IsBehind rest × (shared_length bytes (rest ++ end ∷ []) + left ≡ length bytes)
behind_near end [] left e = ([], inl refl, let z : Err 0 ≡ Err left = e in let y : 0 ≡ left = cc in omega (arith, y))
behind_near end (c ∷ cs) left e = go (eqb c end) refl
  where
    go : (is_end : Bool) → eqb c end ≡ is_end → (rest : List ℕ) × IsBehind rest × (shared_length (c ∷ cs) (rest ++ end ∷ []) + left ≡ length (c ∷ cs))
    go true h = absurd (let clash : Ok ([], cs) ≡ Err left = sym (let here : parts_at end most 0 true (c ∷ cs) ≡ Ok ([], cs) = rw h refl in here) ∙ e in cc)
    go false h = let w = rest_near end most 0 (c ∷ cs) left (λ none. lit< tt) (sym (root_same end most c cs h) ∙ e) in (w.0, inr w.1, w.2)

-- such a reading stops at the text's end, or at a byte that decides it with what stands before
behind_early : (end : ℕ) (bytes : List ℕ) (left : ℕ) → parts_at end most 0 true bytes ≡ Err left
    → (left ≡ 0) ⊎ StopsEarly (parts_at end most 0 true) bytes left
behind_early end [] left e = inl (let z : Err 0 ≡ Err left = e in cc)
behind_early end (c ∷ cs) left e = go (eqb c end) refl
  where
    first : (h : eqb c end ≡ false) (front rest more : List ℕ) (b : ℕ) → c ∷ cs ≡ front ++ b ∷ rest
        → parts_at end most 0 true (front ++ b ∷ more) ≡ parts_at end most 0 false (front ++ b ∷ more)
    first h [] rest more b is = let same : c ≡ b = cc in root_same end most b more (subst (λ (x : ℕ). eqb x end ≡ false) same h)
    first h (f ∷ front) rest more b is = let same : c ≡ f = cc in root_same end most f (front ++ b ∷ more) (subst (λ (x : ℕ). eqb x end ≡ false) same h)

    go : (is_end : Bool) → eqb c end ≡ is_end → (left ≡ 0) ⊎ StopsEarly (parts_at end most 0 true) (c ∷ cs) left
    go true h = absurd (let clash : Ok ([], cs) ≡ Err left = sym (let here : parts_at end most 0 true (c ∷ cs) ≡ Ok ([], cs) = rw h refl in here) ∙ e in cc)
    go false h = elim (rest_early end most 0 (c ∷ cs) left (sym (root_same end most c cs h) ∙ e)) [
      | inl z ↦ inl z
      | inr w ↦ inr (record {
        front = w.front;
        byte = w.byte;
        rest = w.rest;
        parts = w.parts;
        size = w.size;
        always = λ more. let a = w.always more in (a.0, first h w.front w.rest more w.byte w.parts ∙ a.1);
      })
    ]

-- ---- paths

-- behind a slash stands the rest of a path
path_goes : (end c : ℕ) (cs : List ℕ) → c ≡ 47 → path_at end (c ∷ cs) ≡ onto (c ∷ []) (parts_at end most 0 true cs)
path_goes end c cs is = rw (eq-eqb c 47 is) refl

-- another byte stops a path at its front
path_stops : (end c : ℕ) (cs : List ℕ) → eqb c 47 ≡ false → path_at end (c ∷ cs) ≡ Err (1 + length cs)
path_stops end c cs h = rw h refl

-- a slash and what may stand behind it are a path
behind_path : (c : ℕ) (rest : List ℕ) → c ≡ 47 → IsBehind rest → IsPathField (c ∷ rest)
behind_path c rest is (inl e) =
    let P : List ℕ → Type 0 = λ t. IsPathField (c ∷ t) in
    subst P (sym e) (([], tt, ap (λ (x : ℕ). x ∷ []) is), lit< tt)
behind_path c rest is (inr r) = (sound (c ∷ rest) (omega arith) (rw (eq-eqb c 47 is) (go (eqb (length rest) 0))), omega (arith, r.fits))
  where
    go : (b : Bool) → cond b None (flaw_behind 0 rest) ≡ None
    go true = refl
    go false = r.sound

-- so it is for the answers of the tests of the first byte
path_parts_go : (c : ℕ) (cs : List ℕ) (is_slash none : Bool) → eqb c 47 ≡ is_slash → eqb (length cs) 0 ≡ none
    → cond (not is_slash) (Some (suc (length cs))) (cond none None (flaw_behind 0 cs)) ≡ None → length (c ∷ cs) < 65536 → (c ≡ 47) × IsBehind cs
path_parts_go c cs false none e f h fits = absurd cc
path_parts_go c cs true true e f h fits = (eqb-true c 47 e, inl (nil_from_length cs (eqb-true _ _ f)))
path_parts_go c cs true false e f h fits = (eqb-true c 47 e, inr (record { sound = h; fits = omega (arith, fits) }))

-- a path is a slash and what may stand behind it
path_parts : (c : ℕ) (cs : List ℕ) → IsPathField (c ∷ cs) → (c ≡ 47) × IsBehind cs
path_parts c cs v = path_parts_go c cs (eqb c 47) (eqb (length cs) 0) refl refl (complete (c ∷ cs) v.0) v.1

-- a path has a byte
no_path : IsPathField [] → ⊥
no_path (([], all, e), fits) = cc
no_path ((p ∷ ps, all, e), fits) = let clash : [] ≡ 47 ∷ (p ++ with_slashes ps) = e in cc

-- a path with its end is read, whatever follows
path_again : (end : ℕ) → IsApart end → (path rest : List ℕ) → IsPathField path → path_at end (bytes_field end path ++ rest) ≡ Ok (path, rest)
path_again end a [] rest v = absurd (no_path v)
path_again end a (c ∷ cs) rest v =
    let p = path_parts c cs v in
    ap (path_at end) (append_assoc (c ∷ cs) (end ∷ []) rest) ∙ path_goes end c (cs ++ end ∷ rest) p.0
    ∙ ap (onto (c ∷ [])) (behind_again end cs rest a p.1)

-- what is read as a path is one, and spelt so
path_found : (end : ℕ) (bytes path rest : List ℕ) → path_at end bytes ≡ Ok (path, rest) → IsPathField path × (bytes ≡ bytes_field end path ++ rest)
path_found end [] path rest e = absurd cc
path_found end (c ∷ cs) path rest e = elim (cases_eq c 47) [
  | inl is ↦
      let u = bind_ok (parts_at end most 0 true cs) (λ (x : List ℕ × List ℕ). Ok (c ∷ x.0, x.1)) (path, rest) (sym (path_goes end c cs is) ∙ e) in
      let f = behind_found end cs u.0.0 u.0.1 u.1 in
      let p = ok_is (c ∷ u.0.0, u.0.1) (path, rest) u.2 in
      let P : List ℕ × List ℕ → Type 0 = λ x. IsPathField x.0 × (c ∷ cs ≡ bytes_field end x.0 ++ x.1) in
      subst P p (behind_path c u.0.0 is f.0, ap (λ (t : List ℕ). c ∷ t) (f.1 ∙ sym (append_assoc u.0.0 (end ∷ []) u.0.1)))
  | inr ne ↦ absurd (let clash : Err (1 + length cs) ≡ Ok (path, rest) = sym (path_stops end c cs (ne_eqb c 47 ne)) ∙ e in cc)
]

-- the path of the root
root_path : IsPathField (47 ∷ [])
root_path = behind_path 47 [] refl (inl refl)

-- where a reading of a path stops, some path and its end share all that stands before
path_near : (end : ℕ) (bytes : List ℕ) (left : ℕ) → path_at end bytes ≡ Err left
    → (path : List ℕ) × IsPathField path × (shared_length bytes (bytes_field end path) + left ≡ length bytes)
path_near end [] left e = (47 ∷ [], root_path, let z : Err 0 ≡ Err left = e in let y : 0 ≡ left = cc in omega (arith, y))
path_near end (c ∷ cs) left e = elim (cases_eq c 47) [
  | inl is ↦ elim (bind_err (parts_at end most 0 true cs) (λ (x : List ℕ × List ℕ). Ok (c ∷ x.0, x.1)) left (sym (path_goes end c cs is) ∙ e)) [
    | inl s ↦
        let w = behind_near end cs left s in
        (c ∷ w.0, behind_path c w.0 is w.1, omega (arith, w.2, shared-cons c cs (w.0 ++ end ∷ [])))
    | inr z ↦ absurd (let clash : Ok (c ∷ z.0.0, z.0.1) ≡ Err left = z.2 in cc)
  ]
  | inr ne ↦
      let all : Err (1 + length cs) ≡ Err left = sym (path_stops end c cs (ne_eqb c 47 ne)) ∙ e in
      let size : 1 + length cs ≡ left = cc in
      (47 ∷ [], root_path, omega (arith, size, shared-differ c 47 cs (end ∷ []) (ne_eqb c 47 ne)))
]

-- a reading of a path stops at the text's end, or at a byte that decides it with what stands before
path_early : (end : ℕ) (bytes : List ℕ) (left : ℕ) → path_at end bytes ≡ Err left → (left ≡ 0) ⊎ StopsEarly (path_at end) bytes left
path_early end [] left e = inl (let z : Err 0 ≡ Err left = e in cc)
path_early end (c ∷ cs) left e = elim (cases_eq c 47) [
  | inl is ↦ elim (bind_err (parts_at end most 0 true cs) (λ (x : List ℕ × List ℕ). Ok (c ∷ x.0, x.1)) left (sym (path_goes end c cs is) ∙ e)) [
    | inl s ↦ elim (behind_early end cs left s) [
      | inl z ↦ inl z
      | inr w ↦ inr (record {
        front = c ∷ w.front;
        byte = w.byte;
        rest = w.rest;
        parts = ap (λ (t : List ℕ). c ∷ t) w.parts;
        size = w.size;
        always = λ more. let a = w.always more in (a.0, path_goes end c (w.front ++ w.byte ∷ more) is ∙ ap (onto (c ∷ [])) a.1);
      })
    ]
    | inr z ↦ absurd (let clash : Ok (c ∷ z.0.0, z.0.1) ≡ Err left = z.2 in cc)
  ]
  | inr ne ↦
      let all : Err (1 + length cs) ≡ Err left = sym (path_stops end c cs (ne_eqb c 47 ne)) ∙ e in
      inr (record { front = []; byte = c; rest = cs; parts = refl; size = cc; always = λ more. (1 + length more, path_stops end c more (ne_eqb c 47 ne)) })
]

-- A path is read exactly.
pub path_exact : (end : ℕ) → end < 45 → Exact IsPathField (bytes_field end) (path_at end)
path_exact end low = let a = apart end low in record {
  found = path_found end;
  again = path_again end a;
  near = path_near end;
  far = λ bytes left e. far_from_stop IsPathField (bytes_field end) (path_at end) (path_again end a) bytes left (path_early end bytes left e);
}

-- one turn of a reader of paths

-- the bytes behind the first slash go on from a place, behind so many bytes of a part
pub record GoesOn (end place part : ℕ) (bytes : List ℕ) : Type 0 where
  pub within : place ≤ most
  pub same : onto (take place bytes) (parts_at end (most - place) part (eqb place 0) (drop place bytes)) ≡ parts_at end most 0 true bytes

-- a byte that is not the end is read alike behind any slash
same_behind : (end room part c : ℕ) (t : List ℕ) (first : Bool) → eqb c end ≡ false → parts_at end room part first (c ∷ t) ≡ parts_at end room part false
    (c ∷ t)
same_behind end room part c t first h = rw h refl

-- a byte that goes on is one turn
turn : (end place part next : ℕ) (bytes : List ℕ) → place < length bytes → place < most → GoesOn end place part bytes → eqb (get_or bytes place 0) end ≡ false
    → ((t : List ℕ) → parts_at end (most - place) part false (get_or bytes place 0 ∷ t)
    ≡ onto (get_or bytes place 0 ∷ []) (parts_at end (most - place - 1) next false t)) → GoesOn end (place + 1) next bytes
turn end place part next bytes within roomy on other moves =
    let c = get_or bytes place 0 in
    let later = drop (place + 1) bytes in
    let whole : drop place bytes ≡ c ∷ later = drop_more bytes place 0 within in
    let first : eqb (place + 1) 0 ≡ false = grind (arith, nat_tests) in
    let room : most - (place + 1) ≡ most - place - 1 = omega arith in
    record {
      within = omega (arith, roomy);
      same =
          ap (λ (x : List ℕ). onto x (parts_at end (most - (place + 1)) next (eqb (place + 1) 0) later)) (take_more bytes place 0 within)
          ∙ ap (λ (b : Bool). onto (take place bytes ++ c ∷ []) (parts_at end (most - (place + 1)) next b later)) first
          ∙ ap (λ (n : ℕ). onto (take place bytes ++ c ∷ []) (parts_at end n next false later)) room
          ∙ sym (onto_twice (take place bytes) (c ∷ []) (parts_at end (most - place - 1) next false later))
          ∙ ap (onto (take place bytes)) (sym (same_behind end (most - place) part c later (eqb place 0) other ∙ moves later)
          ∙ ap (parts_at end (most - place) part (eqb place 0)) (sym whole))
          ∙ on.same;
    }

-- a slash is one turn
pub slash_turn : (end place part next : ℕ) (bytes : List ℕ) → end < 45 → place < length bytes → GoesOn end place part bytes → get_or bytes place 0 ≡ 47
    → 0 < part → place + 1 < most → next ≡ 0 → GoesOn end (place + 1) next bytes
slash_turn end place part next bytes low within on is some wide none =
    let a = apart end low in
    let other : eqb (get_or bytes place 0) end ≡ false = ne_eqb (get_or bytes place 0) end (λ e. omega (arith, e, is, low)) in
    subst (λ (n : ℕ). GoesOn end (place + 1) n bytes) (sym none)
    (turn end place part 0 bytes within (omega (arith, wide)) on other (λ t. slash_goes end (most - place) part (get_or bytes place 0) t a is some (omega
    (arith, wide))))

-- a byte of a part is one turn
pub byte_turn : (end place part next : ℕ) (bytes : List ℕ) → end < 45 → place < length bytes → GoesOn end place part bytes
    → is_part_byte (get_or bytes place 0) ≡ true → part < 80 → place < most → next ≡ part + 1 → GoesOn end (place + 1) next bytes
byte_turn end place part next bytes low within on good few roomy more =
    let a = apart end low in
    let other : eqb (get_or bytes place 0) end ≡ false = ne_eqb (get_or bytes place 0) end
    (λ e. let clash : true ≡ false = sym good ∙ ap is_part_byte e ∙ a.part in cc) in
    subst (λ (n : ℕ). GoesOn end (place + 1) n bytes) (sym more)
    (turn end place part (part + 1) bytes within roomy on other (λ t. byte_goes end (most - place) part (get_or bytes place 0) t a good few (omega
    (arith, roomy))))

-- the bytes of a path up to its end
path_front : (end : ℕ) (bytes found rest : List ℕ) → parts_at end most 0 true bytes ≡ Ok (found, rest) → take (length found + 1) (47 ∷ bytes) ≡ 47 ∷ found
path_front end bytes found rest e =
    let size : length found + 1 ≡ length (47 ∷ found) = omega arith in
    ap (λ (t : List ℕ). take (length found + 1) (47 ∷ t)) (behind_found end bytes found rest e).1
    ∙ ap (λ (n : ℕ). take n (47 ∷ (found ++ end ∷ rest))) size ∙ take-append_seam (47 ∷ found) (end ∷ rest)

-- a path that is read behind its slash
path_of_parts : (end : ℕ) (path bytes found rest : List ℕ) → path ≡ 47 ∷ bytes → parts_at end most 0 true bytes ≡ Ok (found, rest)
    → path_at end path ≡ Ok (take (length found + 1) path, rest)
path_of_parts end path bytes found rest is e =
    ap (path_at end) is ∙ path_goes end 47 bytes refl ∙ ap (onto (47 ∷ [])) e
    ∙ ap (λ (t : List ℕ). Ok (t, rest)) (sym (ap (take (length found + 1)) is ∙ path_front end bytes found rest e))

-- as many bytes stand in front as were counted
path_count : (end : ℕ) (path bytes found rest : List ℕ) → path ≡ 47 ∷ bytes → parts_at end most 0 true bytes ≡ Ok (found, rest)
    → length found + 1 ≡ length (take (length found + 1) path)
path_count end path bytes found rest is e =
    let size : length (47 ∷ found) ≡ length found + 1 = omega arith in
    sym (ap length (ap (take (length found + 1)) is ∙ path_front end bytes found rest e) ∙ size)

-- bytes whose first one is a slash are that and the others
slash_first : (path : List ℕ) → 1 ≤ length path → get_or path 0 0 ≡ 47 → path ≡ 47 ∷ take (length path - 1) (drop 1 path)
slash_first [] some is = absurd (omega (arith, some))
slash_first (c ∷ cs) some is =
    let size : length (c ∷ cs) - 1 ≡ length cs = omega arith in
    ap (λ (b : ℕ). b ∷ cs) is ∙ ap (λ (t : List ℕ). 47 ∷ t) (sym (ap (λ (n : ℕ). take n cs) size ∙ take_all (length cs) cs (omega arith)))

-- a path that is read behind its slash, with as many bytes in front as were counted
pub path_read : (end : ℕ) (path found rest : List ℕ) → 1 ≤ length path → get_or path 0 0 ≡ 47
    → parts_at end most 0 true (take (length path - 1) (drop 1 path)) ≡ Ok (found, rest)
    → (path_at end path ≡ Ok (take (length found + 1) path, rest)) × (length found + 1 ≡ length (take (length found + 1) path))
path_read end path found rest some is e =
    let parts_of = slash_first path some is in
    (path_of_parts end path _ found rest parts_of e, path_count end path _ found rest parts_of e)

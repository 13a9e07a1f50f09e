-- Hex digits are read exactly.
use Rattle.std.proofs.Common.{◌≡◌, ◌≢◌, ℕ, zero, suc, ◌+◌, ◌*◌, ◌/◌, ◌%◌, ◌≤◌, ◌<◌, Bool, true, false, ◌&&◌, cond, eqb, List, [], ◌∷◌, ◌++◌}
use Rattle.std.proofs.Common.{length, get_or, take, drop, replicate, ◌-◌, Result, Ok, Err, ◌⊎◌, inl, inr, refl, sym, ap, subst, ◌∙◌, append_assoc, arith, lit<}
use Rattle.std.proofs.lemmas.Bool.Decides.{nat_tests}
use Rattle.std.proofs.lemmas.Bool.{eqb-true, eq-eqb, ne_eqb, cases_eq, cases_lt, and_parts}
use Rattle.std.specs.List.{list_all}
use Rattle.std.proofs.lemmas.List.{append-nil, take-append-drop, take_all, drop_all, drop-replicate, length-replicate, length-append, length-take}
use Rattle.std.proofs.Math.Seq.{take-append_seam, drop-append_seam}
use Rattle.dl_text.specs.Readers.{shared_length, ◌>>=◌, Exact}
use Rattle.dl_text.specs.Fields.{bytes_field}
use Rattle.dl_text.specs.declared.hex.TheConstants.{PAIRS}
use Rattle.dl_text.specs.Hex.{is_hex, hex_value, hex_char, pairs, hex, AllBytes, pairs_at, end_at, hex_at, bytes_of, begins_digit, IsDigitCount}
use Rattle.dl_text.proofs.ReaderLemmas.{ok_is, bind_ok, bind_err, shared-cons, onto}
use Rattle.dl_text.proofs.NumberLemmas.{StopsEarly, far_from_stop}

-- a byte is a hex digit, or the end and no digit, or neither
data HexCase (end c : ℕ) : Type 0 where
  digit : is_hex c ≡ true → HexCase end c
  ends : c ≡ end → is_hex c ≡ false → eqb c end ≡ true → HexCase end c
  other : eqb c end ≡ false → is_hex c ≡ false → HexCase end c

-- so it is for the answers of both tests of the byte
hex_case_go : (end c : ℕ) (t u : Bool) → is_hex c ≡ t → eqb c end ≡ u → HexCase end c
hex_case_go end c true u f e = digit f
hex_case_go end c false true f e = ends (eqb-true c end e) f e
hex_case_go end c false false f e = other e f

-- each byte is a hex digit, or the end and no digit, or neither
hex_case : (end c : ℕ) → HexCase end c
hex_case end c = hex_case_go end c (is_hex c) (eqb c end) refl refl

-- a hex digit has a value below 16, and is the digit of that value
hex_round : (c : ℕ) → is_hex c ≡ true → (hex_value c < 16) × (hex_char (hex_value c) ≡ c)
hex_round c h = (grind (arith, nat_tests), grind (arith, nat_tests))

-- the digit of a value below 16 is a hex digit of that value, and no byte below 48
pub hex_back : (d : ℕ) → d < 16 → (is_hex (hex_char d) ≡ true) × (hex_value (hex_char d) ≡ d) × (48 ≤ hex_char d)
hex_back d h = (grind (arith, nat_tests), grind (arith, nat_tests), grind (arith, nat_tests))

-- what two digits spell
pair_is : (h l : ℕ) → h < 16 → l < 16 → ((h * 16 + l) / 16 ≡ h) × ((h * 16 + l) % 16 ≡ l) × (h * 16 + l < 256)
pair_is h l a b = (omega arith, omega arith, omega arith)

-- the byte that two digits make is spelt by these two digits
pair_text : (c d : ℕ) (bs : List ℕ) → is_hex c ≡ true → is_hex d ≡ true → pairs ((hex_value c * 16 + hex_value d) ∷ bs) ≡ c ∷ d ∷ pairs bs
pair_text c d bs hc hd =
    let rc = hex_round c hc in
    let rd = hex_round d hd in
    let p = pair_is (hex_value c) (hex_value d) rc.0 rd.0 in
    ap (λ (k : ℕ). hex_char k ∷ hex_char ((hex_value c * 16 + hex_value d) % 16) ∷ pairs bs) p.0
    ∙ ap (λ (k : ℕ). hex_char (hex_value c) ∷ hex_char k ∷ pairs bs) p.1
    ∙ ap (λ (k : ℕ). k ∷ hex_char (hex_value d) ∷ pairs bs) rc.1
    ∙ ap (λ (k : ℕ). c ∷ k ∷ pairs bs) rd.1

-- what stands after a whole pair
after_pair : (end c d : ℕ) (ds : List ℕ) → is_hex c ≡ true → is_hex d ≡ true
    → pairs_at end (c ∷ d ∷ ds) ≡ (pairs_at end ds >>= λ x. Ok ((hex_value c * 16 + hex_value d) ∷ x.0, x.1))
after_pair end c d ds hc hd = rw (hc, hd) refl

-- behind half a pair a reading of pairs stops at the byte after the digit
half_pair : (end c d : ℕ) (ds : List ℕ) → is_hex c ≡ true → is_hex d ≡ false → pairs_at end (c ∷ d ∷ ds) ≡ Err (1 + length ds)
half_pair end c d ds hc hd = rw (hc, hd) refl

-- at the end no pair is read, and what follows the end is left
at_end : (end c : ℕ) (cs : List ℕ) → is_hex c ≡ false → eqb c end ≡ true → pairs_at end (c ∷ cs) ≡ Ok ([], cs)
at_end end c [] h e = rw (h, e) refl
at_end end c (d ∷ ds) h e = rw (h, e) refl

-- a byte that is neither a digit nor the end stops a reading of pairs at itself
no_pair : (end c : ℕ) (cs : List ℕ) → eqb c end ≡ false → is_hex c ≡ false → pairs_at end (c ∷ cs) ≡ Err (1 + length cs)
no_pair end c [] e h = rw (h, e) refl
no_pair end c (d ∷ ds) e h = rw (h, e) refl

-- a text that ends inside a pair stops a reading of pairs at its end
one_half : (end c : ℕ) → is_hex c ≡ true → pairs_at end (c ∷ []) ≡ Err 0
one_half end c h = rw h refl

-- a byte is a hex digit, or is none
hex_bool : (c : ℕ) → (is_hex c ≡ true) ⊎ (is_hex c ≡ false)
hex_bool c = elim (is_hex c) as (λ t. (t ≡ true) ⊎ (t ≡ false)) [ true ↦ inl refl | false ↦ inr refl ]

-- pairs that are read are bytes, spelt so, with the end behind them
pairs_found : (end : ℕ) (bytes bs rest : List ℕ) → pairs_at end bytes ≡ Ok (bs, rest) → AllBytes bs × (bytes ≡ pairs bs ++ end ∷ rest)
pairs_found end [] bs rest e = absurd cc
pairs_found end (c ∷ []) bs rest e = elim (hex_case end c) [
  | ends is h t ↦
      let p : ([], []) ≡ (bs, rest) = ok_is ([], []) (bs, rest) (sym (at_end end c [] h t) ∙ e) in
      let P : List ℕ × List ℕ → Type 0 = λ x. AllBytes x.0 × (c ∷ [] ≡ pairs x.0 ++ end ∷ x.1) in
      subst P p (tt, rw is refl)
  | digit h ↦ absurd (let clash : Err 0 ≡ Ok (bs, rest) = sym (one_half end c h) ∙ e in cc)
  | other n h ↦ absurd (let clash : Err (1 + length {A = ℕ} []) ≡ Ok (bs, rest) = sym (no_pair end c [] n h) ∙ e in cc)
]
pairs_found end (c ∷ d ∷ ds) bs rest e = elim (hex_case end c) [
  | ends is h t ↦
      let p : ([], d ∷ ds) ≡ (bs, rest) = ok_is ([], d ∷ ds) (bs, rest) (sym (at_end end c (d ∷ ds) h t) ∙ e) in
      let P : List ℕ × List ℕ → Type 0 = λ x. AllBytes x.0 × (c ∷ d ∷ ds ≡ pairs x.0 ++ end ∷ x.1) in
      subst P p (tt, rw is refl)
  | digit h ↦ elim (hex_bool d) [
    | inl k ↦
        let u = bind_ok (pairs_at end ds) (λ (x : List ℕ × List ℕ). Ok ((hex_value c * 16 + hex_value d) ∷ x.0, x.1)) (bs, rest)
        (sym (after_pair end c d ds h k) ∙ e) in
        let f = pairs_found end ds u.0.0 u.0.1 u.1 in
        let p = ok_is ((hex_value c * 16 + hex_value d) ∷ u.0.0, u.0.1) (bs, rest) u.2 in
        let P : List ℕ × List ℕ → Type 0 = λ x. AllBytes x.0 × (c ∷ d ∷ ds ≡ pairs x.0 ++ end ∷ x.1) in
        let text : c ∷ d ∷ ds ≡ pairs ((hex_value c * 16 + hex_value d) ∷ u.0.0) ++ end ∷ u.0.1 = ap (λ (t : List ℕ). c ∷ d ∷ t) f.1
        ∙ ap (λ (t : List ℕ). t ++ end ∷ u.0.1) (sym (pair_text c d u.0.0 h k)) in
        subst P p (((pair_is (hex_value c) (hex_value d) (hex_round c h).0 (hex_round d k).0).2, f.0), text)
    | inr k ↦ absurd (let clash : Err (1 + length ds) ≡ Ok (bs, rest) = sym (half_pair end c d ds h k) ∙ e in cc)
  ]
  | other n h ↦ absurd (let clash : Err (1 + length (d ∷ ds)) ≡ Ok (bs, rest) = sym (no_pair end c (d ∷ ds) n h) ∙ e in cc)
]

-- the pairs of bytes, with an end below 48, are read as those bytes, whatever follows
pairs_again : (end : ℕ) (bs rest : List ℕ) → end < 48 → AllBytes bs → pairs_at end (pairs bs ++ end ∷ rest) ≡ Ok (bs, rest)
pairs_again end [] rest low all = at_end end end rest (grind (arith, nat_tests, low)) (eq-eqb end end refl)
pairs_again end (b ∷ bs) rest low all =
    let h : b / 16 < 16 = omega (arith, all.0) in
    let l : b % 16 < 16 = omega arith in
    let rh = hex_back (b / 16) h in
    let rl = hex_back (b % 16) l in
    let whole : hex_value (hex_char (b / 16)) * 16 + hex_value (hex_char (b % 16)) ≡ b = rw (rh.1, rl.1) (omega arith) in
    after_pair end (hex_char (b / 16)) (hex_char (b % 16)) (pairs bs ++ end ∷ rest) rh.0 rl.0
    ∙ rw (pairs_again end bs rest low all.1) (ap (λ (k : ℕ). Ok (k ∷ bs, rest)) whole)

-- bytes whose text begins with a digit
half : (c : ℕ) → is_hex c ≡ true → (b : ℕ) × (b < 256) × ((t : List ℕ) → pairs (b ∷ t) ≡ c ∷ 48 ∷ pairs t)
half c h = let p = pair_is (hex_value c) 0 (hex_round c h).0 (lit< tt) in (hex_value c * 16 + hex_value 48, omega (arith, p.2), λ t. pair_text c 48 t h refl)

-- a byte that is no hex digit is not the digit 0
no_zero : (d : ℕ) → is_hex d ≡ false → eqb d 48 ≡ false
no_zero d h = grind (arith, nat_tests)

-- a text whose second byte is no digit shares only the first byte with one that goes on by the digit 0
shared_half : (c d : ℕ) (ds t : List ℕ) → is_hex d ≡ false → shared_length (c ∷ d ∷ ds) (c ∷ 48 ∷ t) + (1 + length ds) ≡ length (c ∷ d ∷ ds)
shared_half c d ds t h = let z : shared_length (d ∷ ds) (48 ∷ t) ≡ 0 = rw (no_zero d h) refl in omega (arith, shared-cons c (d ∷ ds) (48 ∷ t), z)

-- two texts with the same pair in front leave as many bytes as they leave behind the pair
shared_pair : (c d : ℕ) (ds t : List ℕ) (left : ℕ) → shared_length ds t + left ≡ length ds → shared_length (c ∷ d ∷ ds) (c ∷ d ∷ t) + left ≡ length (c ∷ d ∷ ds)
shared_pair c d ds t left e = omega (arith, e, shared-cons c (d ∷ ds) (d ∷ t), shared-cons d ds t)

-- where a reading of pairs stops, the pairs of some bytes share all that stands before
pairs_near : (end : ℕ) (bytes : List ℕ) (left : ℕ) → pairs_at end bytes ≡ Err left
    → (bs : List ℕ) × AllBytes bs × (shared_length bytes (pairs bs ++ end ∷ []) + left ≡ length bytes)
pairs_near end [] left e = ([], tt, let z : Err 0 ≡ Err left = e in let y : 0 ≡ left = cc in omega (arith, y))
pairs_near end (c ∷ []) left e = elim (hex_case end c) [
  | ends is h t ↦ absurd (let clash : Ok ([], []) ≡ Err left = sym (at_end end c [] h t) ∙ e in cc)
  | digit h ↦
      let size : Err 0 ≡ Err left = sym (one_half end c h) ∙ e in let zero_left : 0 ≡ left = cc in
      let b = half c h in
      let P : List ℕ → Type 0 = λ t. shared_length (c ∷ []) (t ++ end ∷ []) + left ≡ length (c ∷ []) in
      (b.0 ∷ [], (b.1, tt), subst P (sym (b.2 [])) (omega (arith, zero_left, shared-cons c [] (48 ∷ end ∷ []))))
  | other n h ↦
      let size : Err (1 + length {A = ℕ} []) ≡ Err left = sym (no_pair end c [] n h) ∙ e in let l : 1 + length {A = ℕ} [] ≡ left = cc in
      ([], tt, rw n (omega (arith, l)))
]
pairs_near end (c ∷ d ∷ ds) left e = elim (hex_case end c) [
  | ends is h t ↦ absurd (let clash : Ok ([], d ∷ ds) ≡ Err left = sym (at_end end c (d ∷ ds) h t) ∙ e in cc)
  | digit h ↦ elim (hex_bool d) [
    | inl k ↦ elim (bind_err (pairs_at end ds) (λ (x : List ℕ × List ℕ). Ok ((hex_value c * 16 + hex_value d) ∷ x.0, x.1)) left
        (sym (after_pair end c d ds h k) ∙ e)) [
          | inl s ↦
              let w = pairs_near end ds left s in
              let P : List ℕ → Type 0 = λ t. shared_length (c ∷ d ∷ ds) (t ++ end ∷ []) + left ≡ length (c ∷ d ∷ ds) in (
                (hex_value c * 16 + hex_value d) ∷ w.0,
                ((pair_is (hex_value c) (hex_value d) (hex_round c h).0 (hex_round d k).0).2, w.1),
                subst P (sym (pair_text c d w.0 h k)) (shared_pair c d ds (pairs w.0 ++ end ∷ []) left w.2),
              )
          | inr z ↦ absurd (let clash : Ok ((hex_value c * 16 + hex_value d) ∷ z.0.0, z.0.1) ≡ Err left = z.2 in cc)
        ]
    | inr k ↦
        let size : Err (1 + length ds) ≡ Err left = sym (half_pair end c d ds h k) ∙ e in
        let b = half c h in
        let size' : 1 + length ds ≡ left = cc in
        let P : List ℕ → Type 0 = λ t. shared_length (c ∷ d ∷ ds) (t ++ end ∷ []) + left ≡ length (c ∷ d ∷ ds) in
        (b.0 ∷ [], (b.1, tt), subst P (sym (b.2 [])) (omega (arith, size', shared_half c d ds (end ∷ []) k)))
  ]
  | other n h ↦
      let size : Err (1 + length (d ∷ ds)) ≡ Err left = sym (no_pair end c (d ∷ ds) n h) ∙ e in let l : 1 + length (d ∷ ds) ≡ left = cc in
      ([], tt, rw n (omega (arith, l)))
]

-- a reading of pairs stops at the text's end, or at a byte that decides it alone with what stands before
pairs_early : (end : ℕ) (bytes : List ℕ) (left : ℕ) → pairs_at end bytes ≡ Err left → (left ≡ 0) ⊎ StopsEarly (pairs_at end) bytes left
pairs_early end [] left e = inl (let z : Err 0 ≡ Err left = e in cc)
pairs_early end (c ∷ []) left e = elim (hex_case end c) [
  | ends is h t ↦ absurd (let clash : Ok ([], []) ≡ Err left = sym (at_end end c [] h t) ∙ e in cc)
  | digit h ↦ inl (let size : Err 0 ≡ Err left = sym (one_half end c h) ∙ e in cc)
  | other n h ↦
      let size : Err (1 + length {A = ℕ} []) ≡ Err left = sym (no_pair end c [] n h) ∙ e in
      inr (record { front = []; byte = c; rest = []; parts = refl; size = cc; always = λ more. (1 + length more, no_pair end c more n h) })
]
pairs_early end (c ∷ d ∷ ds) left e = elim (hex_case end c) [
  | ends is h t ↦ absurd (let clash : Ok ([], d ∷ ds) ≡ Err left = sym (at_end end c (d ∷ ds) h t) ∙ e in cc)
  | digit h ↦ elim (hex_bool d) [
    | inl k ↦ elim (bind_err (pairs_at end ds) (λ (x : List ℕ × List ℕ). Ok ((hex_value c * 16 + hex_value d) ∷ x.0, x.1)) left
        (sym (after_pair end c d ds h k) ∙ e)) [
          | inl s ↦ elim (pairs_early end ds left s) [
            | inl z ↦ inl z
            | inr w ↦ inr (record {
              front = c ∷ d ∷ w.front;
              byte = w.byte;
              rest = w.rest;
              parts = ap (λ (t : List ℕ). c ∷ d ∷ t) w.parts;
              size = w.size;
              always = λ more. let a = w.always more in (a.0, after_pair end c d (w.front ++ w.byte ∷ more) h k ∙ rw a.1 refl);
            })
          ]
          | inr z ↦ absurd (let clash : Ok ((hex_value c * 16 + hex_value d) ∷ z.0.0, z.0.1) ≡ Err left = z.2 in cc)
        ]
    | inr k ↦
        let size : Err (1 + length ds) ≡ Err left = sym (half_pair end c d ds h k) ∙ e in
        inr (record { front = c ∷ []; byte = d; rest = ds; parts = refl; size = cc; always = λ more. (1 + length more, half_pair end c d more h k) })
  ]
  | other n h ↦
      let size : Err (1 + length (d ∷ ds)) ≡ Err left = sym (no_pair end c (d ∷ ds) n h) ∙ e in
      inr (record { front = []; byte = c; rest = d ∷ ds; parts = refl; size = cc; always = λ more. (1 + length more, no_pair end c more n h) })
]

-- a text of bytes, nothing among them

-- a first byte is the dash, or a hex digit, or neither; by that a reading of bytes goes on
data FirstCase (end c : ℕ) : Type 0 where
  dash : c ≡ 45 → ((t : List ℕ) → hex_at end (c ∷ t) ≡ end_at end t) → FirstCase end c
  goes : eqb c 45 ≡ false → is_hex c ≡ true → ((t : List ℕ) → hex_at end (c ∷ t) ≡ pairs_at end (c ∷ t)) → FirstCase end c
  stops : eqb c 45 ≡ false → is_hex c ≡ false → ((t : List ℕ) → hex_at end (c ∷ t) ≡ Err (1 + length t)) → FirstCase end c

-- so it is for the answers of both tests of the byte
first_case_go : (end c : ℕ) (t u : Bool) → eqb c 45 ≡ t → is_hex c ≡ u → FirstCase end c
first_case_go end c true u e f = dash (eqb-true c 45 e) (λ t. rw e refl)
first_case_go end c false true e f = goes e f (λ t. rw (e, f) refl)
first_case_go end c false false e f = stops e f (λ t. rw (e, f) refl)

-- each first byte is the dash, or a hex digit, or neither
first_case : (end c : ℕ) → FirstCase end c
first_case end c = first_case_go end c (eqb c 45) (is_hex c) refl refl

-- where the end is read from a byte and a rest, that byte is the end, and nothing stands before it
end_found_go : (end d : ℕ) (ds bs rest : List ℕ) (t : Bool) → eqb d end ≡ t
    → cond {A = Result (List ℕ × List ℕ) ℕ} t (Ok ([], ds)) (Err (1 + length ds)) ≡ Ok (bs, rest) → ([] ≡ bs) × (d ∷ ds ≡ end ∷ rest)
end_found_go end d ds bs rest true e h =
    let p = ok_is {B = ℕ} ([], ds) (bs, rest) h in
    let is = eqb-true d end e in
    (ap (λ (x : List ℕ × List ℕ). x.0) p, rw is (ap (λ (x : List ℕ × List ℕ). end ∷ x.1) p))
end_found_go end d ds bs rest false e h = absurd cc

-- where the end is read, it stands in front and nothing before it
end_found : (end : ℕ) (bytes bs rest : List ℕ) → end_at end bytes ≡ Ok (bs, rest) → ([] ≡ bs) × (bytes ≡ end ∷ rest)
end_found end [] bs rest e = absurd cc
end_found end (d ∷ ds) bs rest e = end_found_go end d ds bs rest (eqb d end) refl e

-- the end is read, whatever follows
end_again : (end : ℕ) (rest : List ℕ) → end_at end (end ∷ rest) ≡ Ok ([], rest)
end_again end rest = rw (eq-eqb end end refl) refl

-- where the end is not read, the first byte is another one, and the end shares nothing with the text
end_near_go : (end d left : ℕ) (ds : List ℕ) (t : Bool) → eqb d end ≡ t
    → cond {A = Result (List ℕ × List ℕ) ℕ} t (Ok ([], ds)) (Err (1 + length ds)) ≡ Err left → shared_length (d ∷ ds) (end ∷ []) + left ≡ length (d ∷ ds)
end_near_go end d left ds true e h = absurd cc
end_near_go end d left ds false e h = let l : 1 + length ds ≡ left = cc in rw e (omega (arith, l))

-- where the reading of the end stops, the end shares all that stands before
end_near : (end : ℕ) (bytes : List ℕ) (left : ℕ) → end_at end bytes ≡ Err left → shared_length bytes (end ∷ []) + left ≡ length bytes
end_near end [] left e = let z : Err 0 ≡ Err left = e in let y : 0 ≡ left = cc in omega (arith, y)
end_near end (d ∷ ds) left e = end_near_go end d left ds (eqb d end) refl e

-- where the end is not read, the first byte alone decides it
end_early_go : (end d left : ℕ) (ds : List ℕ) (t : Bool) → eqb d end ≡ t
    → cond {A = Result (List ℕ × List ℕ) ℕ} t (Ok ([], ds)) (Err (1 + length ds)) ≡ Err left → StopsEarly (end_at end) (d ∷ ds) left
end_early_go end d left ds true e h = absurd cc
end_early_go end d left ds false e h = record { front = []; byte = d; rest = ds; parts = refl; size = cc; always = λ more. (1 + length more, rw e refl) }

-- a reading of the end stops at the text's end, or at a byte that decides it alone
end_early : (end : ℕ) (bytes : List ℕ) (left : ℕ) → end_at end bytes ≡ Err left → (left ≡ 0) ⊎ StopsEarly (end_at end) bytes left
end_early end [] left e = inl (let z : Err 0 ≡ Err left = e in cc)
end_early end (d ∷ ds) left e = inr (end_early_go end d left ds (eqb d end) refl e)

-- what is read as bytes are bytes, and spelt so
hex_found : (end : ℕ) → end < 45 → (bytes bs rest : List ℕ) → hex_at end bytes ≡ Ok (bs, rest) → AllBytes bs × (bytes ≡ hex end bs ++ rest)
hex_found end low [] bs rest e = absurd cc
hex_found end low (c ∷ cs) bs rest e = elim (first_case end c) [
  | dash is at ↦
      let f = end_found end cs bs rest (sym (at cs) ∙ e) in
      let P : List ℕ → Type 0 = λ x. AllBytes x × (c ∷ cs ≡ hex end x ++ rest) in
      subst P f.0 (tt, rw is (ap (λ (t : List ℕ). 45 ∷ t) f.1))
  | goes n h at ↦
      let f = pairs_found end (c ∷ cs) bs rest (sym (at cs) ∙ e) in
      hex_found_go end c cs bs rest low n h f
  | stops n h at ↦ absurd (let clash : Err (1 + length cs) ≡ Ok (bs, rest) = sym (at cs) ∙ e in cc)
]
  where
    hex_found_go : (end c : ℕ) (cs bs rest : List ℕ) → end < 45 → eqb c 45 ≡ false → is_hex c ≡ true → AllBytes bs × (c ∷ cs ≡ pairs bs ++ end ∷ rest)
        → AllBytes bs × (c ∷ cs ≡ hex end bs ++ rest)
    hex_found_go end c cs [] rest low n h f = let same : c ≡ end = (let whole : c ∷ cs ≡ end ∷ rest = f.1 in cc) in
        absurd (grind (arith, nat_tests, same, h, low))
    hex_found_go end c cs (b ∷ bs) rest low n h f = (f.0, f.1 ∙ sym (append_assoc (pairs (b ∷ bs)) (end ∷ []) rest))

-- the spelling of bytes, with an end below 45, is read as those bytes, whatever follows
hex_again : (end : ℕ) (bs rest : List ℕ) → end < 45 → AllBytes bs → hex_at end (hex end bs ++ rest) ≡ Ok (bs, rest)
hex_again end [] rest low all = end_again end rest
hex_again end (b ∷ bs) rest low all =
    let h : b / 16 < 16 = omega (arith, all.0) in
    let r = hex_back (b / 16) h in
    let first : eqb (hex_char (b / 16)) 45 ≡ false = let a = r.2 in grind (arith, nat_tests, a) in
    ap (hex_at end) (append_assoc (pairs (b ∷ bs)) (end ∷ []) rest)
    ∙ elim (first_case end (hex_char (b / 16))) [
      | dash is at ↦ absurd (grind (arith, nat_tests, is, first))
      | goes n k at ↦ at (hex_char (b % 16) ∷ pairs bs ++ end ∷ rest) ∙ pairs_again end (b ∷ bs) rest (omega arith) all
      | stops n k at ↦ absurd (let t = r.0 in cc)
    ]

-- a digit is never the byte that stops
pairs_left : (end c : ℕ) (cs : List ℕ) (left : ℕ) → is_hex c ≡ true → pairs_at end (c ∷ cs) ≡ Err left → left ≤ length cs
pairs_left end c [] left h e = let size : Err 0 ≡ Err left = sym (one_half end c h) ∙ e in let z : 0 ≡ left = cc in omega (arith, z)
pairs_left end c (d ∷ ds) left h e = elim (hex_bool d) [
  | inl k ↦ elim (bind_err (pairs_at end ds) (λ (x : List ℕ × List ℕ). Ok ((hex_value c * 16 + hex_value d) ∷ x.0, x.1)) left (sym (after_pair end c d ds h k)
      ∙ e)) [
        | inl s ↦ let w = pairs_near end ds left s in omega (arith, w.2)
        | inr z ↦ absurd (let clash : Ok ((hex_value c * 16 + hex_value d) ∷ z.0.0, z.0.1) ≡ Err left = z.2 in cc)
      ]
  | inr k ↦ let size : Err (1 + length ds) ≡ Err left = sym (half_pair end c d ds h k) ∙ e in let z : 1 + length ds ≡ left = cc in omega (arith, z)
]

-- from a digit on some bytes are near, and not none
hex_near_go : (end c left : ℕ) (cs bs : List ℕ) → end < 45 → is_hex c ≡ true → pairs_at end (c ∷ cs) ≡ Err left → AllBytes bs
    → shared_length (c ∷ cs) (pairs bs ++ end ∷ []) + left ≡ length (c ∷ cs)
    → (bs' : List ℕ) × AllBytes bs' × (shared_length (c ∷ cs) (hex end bs') + left ≡ length (c ∷ cs))
hex_near_go end c left cs (b ∷ bs) low h e all near = (b ∷ bs, all, near)
hex_near_go end c left cs [] low h e all near =
    let apart : eqb c end ≡ false = grind (arith, nat_tests, h, low) in
    absurd (let z : shared_length (c ∷ cs) (end ∷ []) ≡ 0 = rw apart refl in omega (arith, near, z, pairs_left end c cs left h e))

-- where a reading of bytes stops, the spelling of some bytes shares all that stands before
hex_near : (end : ℕ) → end < 45 → (bytes : List ℕ) (left : ℕ) → hex_at end bytes ≡ Err left
    → (bs : List ℕ) × AllBytes bs × (shared_length bytes (hex end bs) + left ≡ length bytes)
hex_near end low [] left e = ([], tt, let z : Err 0 ≡ Err left = e in let y : 0 ≡ left = cc in omega (arith, y))
hex_near end low (c ∷ cs) left e = elim (first_case end c) [
  | dash is at ↦ ([], tt, rw is (omega (arith, end_near end cs left (sym (at cs) ∙ e), shared-cons 45 cs (end ∷ []))))
  | goes n h at ↦ let s = sym (at cs) ∙ e in let w = pairs_near end (c ∷ cs) left s in hex_near_go end c left cs w.0 low h s w.1 w.2
  | stops n h at ↦
      let size : Err (1 + length cs) ≡ Err left = sym (at cs) ∙ e in let l : 1 + length cs ≡ left = cc in
      ([], tt, rw n (omega (arith, l)))
]

-- from a hex digit on bytes are read as pairs
pub hex_goes : (end c : ℕ) (t : List ℕ) → eqb c 45 ≡ false → is_hex c ≡ true → hex_at end (c ∷ t) ≡ pairs_at end (c ∷ t)
hex_goes end c t n h = rw (n, h) refl

-- a reading of bytes stops at the text's end, or at a byte that decides it with what stands before
hex_early : (end : ℕ) (bytes : List ℕ) (left : ℕ) → hex_at end bytes ≡ Err left → (left ≡ 0) ⊎ StopsEarly (hex_at end) bytes left
hex_early end [] left e = inl (let z : Err 0 ≡ Err left = e in cc)
hex_early end (c ∷ cs) left e = elim (first_case end c) [
  | dash is at ↦ elim (end_early end cs left (sym (at cs) ∙ e)) [
    | inl z ↦ inl z
    | inr s ↦ inr (record {
      front = c ∷ s.front;
      byte = s.byte;
      rest = s.rest;
      parts = ap (λ (t : List ℕ). c ∷ t) s.parts;
      size = s.size;
      always = λ more. let a = s.always more in (a.0, at (s.front ++ s.byte ∷ more) ∙ a.1);
    })
  ]
  | goes n h at ↦ elim (pairs_early end (c ∷ cs) left (sym (at cs) ∙ e)) [
    | inl z ↦ inl z
    | inr s ↦ inr (hex_early_go end c cs left n h s)
  ]
  | stops n h at ↦
      let size : Err (1 + length cs) ≡ Err left = sym (at cs) ∙ e in
      inr (record { front = []; byte = c; rest = cs; parts = refl; size = cc; always = λ more. (1 + length more, at more) })
]
  where
    hex_early_step : (end c left : ℕ) (cs front rest : List ℕ) (byte : ℕ) → eqb c 45 ≡ false → is_hex c ≡ true → c ∷ cs ≡ front ++ byte ∷ rest
        → left ≡ 1 + length rest → ((more : List ℕ) → (n : ℕ) × (pairs_at end (front ++ byte ∷ more) ≡ Err n)) → StopsEarly (hex_at end) (c ∷ cs) left
    hex_early_step end c left cs [] rest byte n h parts size always =
        let same : c ≡ byte = cc in
        let n' : eqb byte 45 ≡ false = subst (λ (x : ℕ). eqb x 45 ≡ false) same n in
        let h' : is_hex byte ≡ true = subst (λ (x : ℕ). is_hex x ≡ true) same h in
        record {
          front = [];
          byte = byte;
          rest = rest;
          parts = parts;
          size = size;
          always = λ more. let a = always more in
              (a.0, hex_goes end byte more n' h' ∙ a.1);
        }
    hex_early_step end c left cs (f ∷ front) rest byte n h parts size always =
        let same : c ≡ f = cc in
        let n' : eqb f 45 ≡ false = subst (λ (x : ℕ). eqb x 45 ≡ false) same n in
        let h' : is_hex f ≡ true = subst (λ (x : ℕ). is_hex x ≡ true) same h in
        record {
          front = f ∷ front;
          byte = byte;
          rest = rest;
          parts = parts;
          size = size;
          always = λ more. let a = always more in
              (a.0, hex_goes end f (front ++ byte ∷ more) n' h' ∙ a.1);
        }

    hex_early_go : (end c : ℕ) (cs : List ℕ) (left : ℕ) → eqb c 45 ≡ false → is_hex c ≡ true → StopsEarly (pairs_at end) (c ∷ cs) left
        → StopsEarly (hex_at end) (c ∷ cs) left
    hex_early_go end c cs left n h s = hex_early_step end c left cs s.front s.rest s.byte n h s.parts s.size s.always

-- Bytes are read exactly.
pub hex_exact : (end : ℕ) → end < 45 → Exact AllBytes (hex end) (hex_at end)
hex_exact end low = record {
  found = hex_found end low;
  again = λ bs rest all. hex_again end bs rest low all;
  near = hex_near end low;
  far = λ bytes left e. far_from_stop AllBytes (hex end) (hex_at end) (λ bs rest all. hex_again end bs rest low all) bytes left (hex_early end bytes left e);
}

-- no bytes

-- a list of bytes is empty
abbrev pub IsNothing : List ℕ → Type 0
IsNothing bytes = bytes ≡ []

-- no bytes with the end behind them are read as no bytes, whatever follows
nothing_again : (end : ℕ) (bs rest : List ℕ) → IsNothing bs → end_at end (bytes_field end bs ++ rest) ≡ Ok (bs, rest)
nothing_again end bs rest none = let P : List ℕ → Type 0 = λ t. end_at end (bytes_field end t ++ rest) ≡ Ok (t, rest) in subst P (sym none) (end_again end rest)

-- No bytes are read exactly, with the byte that ends them.
pub end_exact : (end : ℕ) → Exact IsNothing (bytes_field end) (end_at end)
end_exact end = record {
  found = λ bytes bs rest e. let f = end_found end bytes bs rest e in (sym f.0, f.1 ∙ ap (λ (t : List ℕ). bytes_field end t ++ rest) f.0);
  again = nothing_again end;
  near = λ bytes left e. ([], refl, end_near end bytes left e);
  far = λ bytes left e. far_from_stop IsNothing (bytes_field end) (end_at end) (nothing_again end) bytes left (end_early end bytes left e);
}

-- bytes with two ends

-- an end below 45 is no hex digit
no_hex : (end : ℕ) → end < 45 → is_hex end ≡ false
no_hex end low = grind (arith, nat_tests, low)

-- pairs that one byte ends are none that another one ends
pairs_apart : (sep end : ℕ) (bs rest : List ℕ) → end < 45 → end ≢ sep → AllBytes bs → (left : ℕ) × (pairs_at sep (pairs bs ++ end ∷ rest) ≡ Err left)
pairs_apart sep end [] rest low ne all = (1 + length rest, no_pair sep end rest (ne_eqb end sep ne) (no_hex end low))
pairs_apart sep end (b ∷ bs) rest low ne all =
    let h : b / 16 < 16 = omega (arith, all.0) in
    let l : b % 16 < 16 = omega arith in
    let w = pairs_apart sep end bs rest low ne all.1 in
    (w.0, after_pair sep (hex_char (b / 16)) (hex_char (b % 16)) (pairs bs ++ end ∷ rest) (hex_back (b / 16) h).0 (hex_back (b % 16) l).0 ∙ rw w.1 refl)

-- Bytes that one byte ends are none that another one ends.
pub hex_apart : (sep end : ℕ) (bs rest : List ℕ) → end < 45 → end ≢ sep → AllBytes bs → (left : ℕ) × (hex_at sep (hex end bs ++ rest) ≡ Err left)
hex_apart sep end [] rest low ne all = (1 + length rest, rw (ne_eqb end sep ne) refl)
hex_apart sep end (b ∷ bs) rest low ne all =
    let h : b / 16 < 16 = omega (arith, all.0) in
    let r = hex_back (b / 16) h in
    let dash : eqb (hex_char (b / 16)) 45 ≡ false = let a = r.2 in grind (arith, nat_tests, a) in
    let w = pairs_apart sep end (b ∷ bs) rest low ne all in (
      w.0,
      ap (hex_at sep) (append_assoc (pairs (b ∷ bs)) (end ∷ []) rest)
          ∙ hex_goes sep (hex_char (b / 16)) (hex_char (b % 16) ∷ pairs bs ++ end ∷ rest) dash r.0 ∙ w.1,
    )

-- digits that were counted

-- after whole pairs of digits the text goes on
digits_even : (end : ℕ) (digits rest : List ℕ) → length digits % 2 ≡ 0 → list_all is_hex digits ≡ true
    → pairs_at end (digits ++ rest) ≡ onto (bytes_of digits) (pairs_at end rest)
digits_even end [] rest even all = same (pairs_at end rest)
  where
    same : (r : Result (List ℕ × List ℕ) ℕ) → r ≡ onto [] r
    same (Ok x) = refl
    same (Err n) = refl
digits_even end (c ∷ []) rest even all = absurd (omega arith)
digits_even end (c ∷ d ∷ ds) rest even all =
    let h = and_parts (is_hex c) (list_all is_hex (d ∷ ds)) all in
    let k = and_parts (is_hex d) (list_all is_hex ds) h.1 in
    let b = hex_value c * 16 + hex_value d in
    after_pair end c d (ds ++ rest) h.0 k.0
    ∙ ap (onto (b ∷ [])) (digits_even end ds rest (omega arith) k.1)
    ∙ both b (bytes_of ds) (pairs_at end rest)
  where
    both : (b : ℕ) (bs : List ℕ) (r : Result (List ℕ × List ℕ) ℕ) → onto (b ∷ []) (onto bs r) ≡ onto (b ∷ bs) r
    both b bs (Ok x) = refl
    both b bs (Err n) = refl

-- after half a pair it stops
digits_odd : (end : ℕ) (digits rest : List ℕ) → length digits % 2 ≡ 1 → list_all is_hex digits ≡ true → begins_digit rest ≡ false
    → pairs_at end (digits ++ rest) ≡ Err (length rest)
digits_odd end [] rest odd all none = absurd (omega arith)
digits_odd end (c ∷ []) [] odd all none = one_half end c (and_parts (is_hex c) true all).0
digits_odd end (c ∷ []) (r ∷ rest) odd all none = half_pair end c r rest (and_parts (is_hex c) true all).0 none ∙ ap Err (omega arith)
digits_odd end (c ∷ d ∷ ds) rest odd all none =
    let h = and_parts (is_hex c) (list_all is_hex (d ∷ ds)) all in
    let k = and_parts (is_hex d) (list_all is_hex ds) h.1 in
    after_pair end c d (ds ++ rest) h.0 k.0 ∙ rw (digits_odd end ds rest (omega arith) k.1 none) refl

-- where no digit stands, there is the end, or nothing goes on
end_is : (end : ℕ) (rest : List ℕ) (c : ℕ) (after : List ℕ) → rest ≡ c ∷ after → begins_digit rest ≡ false → c ≡ end → pairs_at end rest ≡ Ok ([], after)
end_is end rest c after parts none is =
    let h : is_hex c ≡ false = ap begins_digit (sym parts) ∙ none in
    ap (pairs_at end) parts ∙ at_end end c after h (eq-eqb c end is)

-- where no digit stands and not the end, a reading of pairs stops there
other_is : (end : ℕ) (rest : List ℕ) (c : ℕ) (after : List ℕ) → rest ≡ c ∷ after → begins_digit rest ≡ false → (c ≡ end → ⊥)
    → pairs_at end rest ≡ Err (length rest)
other_is end rest c after parts none apart =
    let h : is_hex c ≡ false = ap begins_digit (sym parts) ∙ none in
    ap (pairs_at end) parts ∙ no_pair end c after (ne_eqb c end apart) h ∙ ap Err (omega (arith, ap length parts))

-- the bytes are digits, and what stands behind them
pub record Counted (bytes digits rest : List ℕ) : Type 0 where
  pub parts : bytes ≡ digits ++ rest
  pub all : list_all is_hex digits ≡ true
  pub none : begins_digit rest ≡ false

-- the first bytes of a text, as many as its digits, and the others are its digits and what stands behind them
pub counted : (bytes digits rest : List ℕ) (count : ℕ) → IsDigitCount bytes count → digits ≡ take count bytes → rest ≡ drop count bytes
    → Counted bytes digits rest
counted bytes digits rest count is front back = record {
  parts = sym (take-append-drop count bytes) ∙ ap (λ (t : List ℕ). t ++ drop count bytes) (sym front) ∙ ap (λ (t : List ℕ). digits ++ t) (sym back);
  all = ap (list_all is_hex) front ∙ is.all;
  none = ap begins_digit back ∙ is.no_more;
}

-- pairs that the end follows
pub pairs_end : (end : ℕ) (bytes digits rest : List ℕ) (c : ℕ) (after out : List ℕ) → Counted bytes digits rest → rest ≡ c ∷ after → c ≡ end
    → length digits % 2 ≡ 0 → out ≡ bytes_of digits → pairs_at end bytes ≡ Ok (out, after)
pairs_end end bytes digits rest c after out k parts is even spelt =
    ap (pairs_at end) k.parts ∙ digits_even end digits rest even k.all
    ∙ ap (onto (bytes_of digits)) (end_is end rest c after parts k.none is)
    ∙ ap (λ (t : List ℕ). Ok (t, after)) (append-nil (bytes_of digits) ∙ sym spelt)

-- digits that another byte follows, or half a pair
pub pairs_stop : (end : ℕ) (bytes digits rest : List ℕ) (c : ℕ) (after : List ℕ) → Counted bytes digits rest → rest ≡ c ∷ after
    → (c ≡ end → length digits % 2 ≡ 0 → ⊥) → pairs_at end bytes ≡ Err (length rest)
pairs_stop end bytes digits rest c after k parts bad = elim (cases_eq (length digits % 2) 0) [
  | inl even ↦
      ap (pairs_at end) k.parts ∙ digits_even end digits rest even k.all
      ∙ ap (onto (bytes_of digits)) (other_is end rest c after parts k.none (λ is. bad is even))
  | inr odd ↦ ap (pairs_at end) k.parts ∙ digits_odd end digits rest (omega arith) k.all k.none
]

-- digits behind which the text ends
pub pairs_cut : (end : ℕ) (bytes digits rest : List ℕ) → Counted bytes digits rest → rest ≡ [] → pairs_at end bytes ≡ Err 0
pairs_cut end bytes digits rest k none =
    ap (pairs_at end) (k.parts ∙ ap (λ (t : List ℕ). digits ++ t) none) ∙ elim (cases_eq (length digits % 2) 0) [
      | inl even ↦ digits_even end digits [] even k.all
      | inr odd ↦ digits_odd end digits [] (omega arith) k.all refl
    ]

-- pairs written over the end of a longer text
pub written_over : (old shown items new : List ℕ) (start count whole len end : ℕ) → shown ≡ items → items ≡ take whole old ++ replicate (whole - start) end
    → length items ≡ whole → start + (count + 1) ≡ whole → length new ≡ count → len ≡ whole
    → take len (take start shown ++ (new ++ drop count (drop start shown))
    ++ drop (length (take start shown ++ (new ++ drop count (drop start shown)))) items) ≡ old ++ (new ++ end ∷ [])
written_over old shown items new start count whole len end told grown size room fits all =
    let parts : length items ≡ length (take whole old) + (whole - start) = ap length grown ∙ length-append (take whole old) (replicate (whole - start) end)
    ∙ ap (λ (n : ℕ). length (take whole old) + n) (length-replicate (whole - start) end) in
    let old_size : length old ≡ start = omega (arith, parts, size, room, length-take whole old) in
    let over : whole - start ≡ count + 1 = omega (arith, room) in
    let is : shown ≡ old ++ replicate (count + 1) end =
    told ∙ grown ∙ ap (λ (t : List ℕ). t ++ replicate (whole - start) end) (take_all whole old (omega (arith, old_size, room)))
    ∙ ap (λ (n : ℕ). old ++ replicate n end) over in
    let front : take start shown ≡ old = ap (λ (n : ℕ). take n shown) (sym old_size) ∙ ap (take (length old)) is
    ∙ take-append_seam old (replicate (count + 1) end) in
    let back : drop start shown ≡ replicate (count + 1) end = ap (λ (n : ℕ). drop n shown) (sym old_size) ∙ ap (drop (length old)) is
    ∙ drop-append_seam old (replicate (count + 1) end) in
    let one : count + 1 - count ≡ 1 = omega arith in
    let last : drop count (drop start shown) ≡ end ∷ [] = ap (drop count) back ∙ drop-replicate count (count + 1) end ∙ ap (λ (n : ℕ). replicate n end) one in
    let text : take start shown ++ (new ++ drop count (drop start shown)) ≡ old ++ (new ++ end ∷ []) =
    ap (λ (t : List ℕ). t ++ (new ++ drop count (drop start shown))) front ∙ ap (λ (t : List ℕ). old ++ (new ++ t)) last in
    let long : length (old ++ (new ++ end ∷ [])) ≡ whole = length-append old (new ++ end ∷ [])
    ∙ omega (arith, length-append new (end ∷ []), old_size, fits, room) in
    ap (λ (t : List ℕ). take len (t ++ drop (length t) items)) text
    ∙ ap (λ (t : List ℕ). take len ((old ++ (new ++ end ∷ [])) ++ t)) (drop_all (length (old ++ (new ++ end ∷ []))) items (omega (arith, long, size)))
    ∙ ap (take len) (append-nil (old ++ (new ++ end ∷ []))) ∙ take_all len (old ++ (new ++ end ∷ [])) (omega (arith, long, all))

-- the table holds the two digits of each byte below a number
abbrev are_pairs : ℕ → Bool
are_pairs zero = true
are_pairs (suc b) = (eqb (get_or PAIRS (2 * b) 0) (hex_char (b / 16)) && eqb (get_or PAIRS (2 * b + 1) 0) (hex_char (b % 16))) && are_pairs b

-- so it holds those of one of them
pairs_below : (n b : ℕ) → are_pairs n ≡ true → b < n → (get_or PAIRS (2 * b) 0 ≡ hex_char (b / 16)) × (get_or PAIRS (2 * b + 1) 0 ≡ hex_char (b % 16))
pairs_below zero b all h = absurd (omega arith)
pairs_below (suc n) b all h =
    let parts = and_parts (eqb (get_or PAIRS (2 * n) 0) (hex_char (n / 16)) && eqb (get_or PAIRS (2 * n + 1) 0) (hex_char (n % 16))) (are_pairs n) all in
    let both = and_parts (eqb (get_or PAIRS (2 * n) 0) (hex_char (n / 16))) (eqb (get_or PAIRS (2 * n + 1) 0) (hex_char (n % 16))) parts.0 in
    elim (cases_lt b n) [
      | inl less ↦ pairs_below n b parts.1 less
      | inr most ↦ let last : b ≡ n = omega arith in rw last (eqb-true _ _ both.0, eqb-true _ _ both.1)
    ]

-- the table holds the two digits of each byte
pub pair_at : (b : ℕ) → b < 256 → (get_or PAIRS (2 * b) 0 ≡ hex_char (b / 16)) × (get_or PAIRS (2 * b + 1) 0 ≡ hex_char (b % 16))
pair_at b h = pairs_below 256 b refl h

-- two digits a byte
pub pairs_long : (bytes : List ℕ) → length (pairs bytes) ≡ 2 * length bytes
pairs_long [] = refl
pairs_long (b ∷ bs) = omega (arith, pairs_long bs)

-- at least one byte is spelt by its pairs, with the end behind them
pub hex_some : (end : ℕ) (bytes : List ℕ) → 1 ≤ length bytes → hex end bytes ≡ pairs bytes ++ end ∷ []
hex_some end [] some = absurd (omega arith)
hex_some end (b ∷ bs) some = refl

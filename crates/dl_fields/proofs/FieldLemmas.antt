-- Numbers and runs of bytes are read exactly.
use Rattle.std.proofs.Common.{◌≡◌, ℕ, ◌≤◌, Bool, true, false, cond, leb, List, ◌++◌, length, take, drop}
use Rattle.std.proofs.Common.{Result, Ok, Err, inl, inr, refl, sym, ap, subst, ◌∙◌, arith, length-append}
use Rattle.std.specs.Int.{Width, byte_len, w8, w16, w32, w64}
use Rattle.std.proofs.lemmas.Bool.{leb-true, le-leb, cases_lt}
use Rattle.std.proofs.lemmas.List.{take_at, drop_at, take-append-drop, length-take-le, length-take, get_or-take, get_or_past}
use Rattle.dl_codec.specs.Fields.{field, number_of, IsBytes}
use Rattle.dl_codec.specs.Laws.{HasOneSpelling}
use Rattle.dl_codec.proofs.FieldLaws.{width_8, width_16, width_32, width_64}
use Rattle.dl_fields.specs.declared.fault.Fault.{Fault}
use Rattle.dl_fields.specs.declared.fault.Fault.TheVariants.{Short}
use Rattle.dl_fields.specs.Readers.{Exact, IsWithin}
use Rattle.dl_fields.specs.Fields.{run_from, number_from, Fits, counted_field_from, counted_field, IsCounted}
use Rattle.dl_fields.specs.Laws.{WidthIsExact}
use Rattle.dl_fields.proofs.ReaderLemmas.{bind_ok, bind_err, ok_is, err_is, then_exact, made_exact}

-- the first bytes of bytes are bytes
pub bytes_taken : (n : ℕ) (bytes : List ℕ) → IsBytes bytes → IsBytes (take n bytes)
bytes_taken n bytes h i = elim (cases_lt i n) [
  | inl lt ↦ rw (get_or-take n bytes i 0 lt) (h i)
  | inr le ↦ rw (get_or_past (take n bytes) i 0 (omega (arith, length-take n bytes))) (omega arith)
]

-- What a run that was read says of the bytes.
record RunRead (n : ℕ) (bytes run rest : List ℕ) : Type 0 where
  pub size : length run ≡ n
  pub taken : take n bytes ≡ run
  pub parts : bytes ≡ run ++ rest

-- a run that is read is the front of the bytes, of its size
run_read : (n : ℕ) (bytes run rest : List ℕ) → run_from n bytes ≡ Ok (run, rest) → RunRead n bytes run rest
run_read n bytes run rest e = go (leb n (length bytes)) refl e
  where
    go : (t : Bool) → leb n (length bytes) ≡ t
        → cond {A = Result (List ℕ × List ℕ) Fault} t (Ok (take n bytes, drop n bytes)) (Err (Short (length bytes))) ≡ Ok (run, rest) → RunRead n bytes run rest
    go true t h =
        let p : (take n bytes, drop n bytes) ≡ (run, rest) = ok_is (take n bytes, drop n bytes) (run, rest) h in
        let P : List ℕ × List ℕ → Type 0 = λ x. RunRead n bytes x.0 x.1 in
        subst P p (record { size = length-take-le n bytes (leb-true n (length bytes) t); taken = refl; parts = sym (take-append-drop n bytes) })
    go false t h = absurd cc

-- a run is read whatever follows
run_again : (run rest : List ℕ) → run_from (length run) (run ++ rest) ≡ Ok (run, rest)
run_again run rest =
    let long : length run ≤ length (run ++ rest) = omega (arith, length-append run rest) in
    rw (le-leb (length run) (length (run ++ rest)) long) (rw (take_at run rest (length run) refl) (rw (drop_at run rest (length run) refl) refl))

-- a run is short at its first byte
run_stops : (n : ℕ) (bytes : List ℕ) (fault : Fault) → run_from n bytes ≡ Err fault → Short (length bytes) ≡ fault
run_stops n bytes fault e = go (leb n (length bytes)) refl e
  where
    go : (t : Bool) → leb n (length bytes) ≡ t
        → cond {A = Result (List ℕ × List ℕ) Fault} t (Ok (take n bytes, drop n bytes)) (Err (Short (length bytes))) ≡ Err fault → Short (length bytes) ≡ fault
    go true t h = absurd cc
    go false t h = err_is {A = List ℕ × List ℕ} (Short (length bytes)) fault h

-- a run of so many bytes; it is not said here that they are bytes
pub run_exact : (n : ℕ) → Exact (λ run. length run ≡ n) (λ run. run) (run_from n)
run_exact n = record {
  found = λ bytes run rest fits e. let r = run_read n bytes run rest e in (r.size, r.parts);
  again = λ run rest v. subst (λ k. run_from k (run ++ rest) ≡ Ok (run, rest)) v (run_again run rest);
  within = λ bytes fault fits e. subst (IsWithin (length bytes)) (run_stops n bytes fault e) (let le : length bytes ≤ length bytes = omega arith in le);
}

-- A number of a width that has one spelling.
pub number_exact : (w : Width) → HasOneSpelling w → Exact (Fits w) (field w) (number_from w)
unfolding number_from
number_exact w law = record {
  found = λ bytes n rest fits e.
      let u = bind_ok (run_from (byte_len w) bytes) (λ (y : List ℕ × List ℕ). Ok (number_of w y.0, y.1)) (n, rest) e in
      let r = run_read (byte_len w) bytes u.0.0 u.0.1 u.1 in
      let cells : IsBytes u.0.0 = subst IsBytes r.taken (bytes_taken (byte_len w) bytes fits) in
      let P : ℕ × List ℕ → Type 0 = λ x. Fits w x.0 × (bytes ≡ field w x.0 ++ x.1) in
      let here : P (number_of w u.0.0, u.0.1) = (law.below u.0.0 cells, r.parts ∙ ap (λ (l : List ℕ). l ++ u.0.1) (sym (law.spelt u.0.0 r.size cells))) in
      subst P (ok_is (number_of w u.0.0, u.0.1) (n, rest) u.2) here;
  again = λ n rest v.
      let read : run_from (byte_len w) (field w n ++ rest) ≡ Ok (field w n, rest) =
      subst (λ k. run_from k (field w n ++ rest) ≡ Ok (field w n, rest)) (law.len n) (run_again (field w n) rest) in
      rw read (rw (law.again n v) refl);
  within = λ bytes fault fits e. elim (bind_err (run_from (byte_len w) bytes) (λ (y : List ℕ × List ℕ). Ok (number_of w y.0, y.1)) fault e) [
    | inl h ↦ (run_exact (byte_len w)).within bytes fault fits h
    | inr z ↦ absurd (let wrong : Ok (number_of w z.0.0, z.0.1) ≡ Err fault = z.2 in cc)
  ];
}

-- Bytes behind their length.
pub counted_field_exact : (w : Width) → HasOneSpelling w → Exact (IsCounted w) (counted_field w) (counted_field_from w)
counted_field_exact w law = made_exact _ _ _ (λ x. x.1) (IsCounted w) (counted_field w)
    (then_exact (Fits w) (field w) (number_from w) (λ n run. length run ≡ n) (λ n run. run) run_from (number_exact w law) (λ n v. run_exact n))
    (λ x v. (subst (Fits w) (sym v.1) v.0, ap (λ (n : ℕ). field w n ++ x.1) v.1))
    (λ run v. ((length run, run), (v, refl), refl))

-- Numbers of a width that have one spelling, and bytes behind their length, are read exactly.
pub width_exact : (w : Width) → HasOneSpelling w → WidthIsExact w
width_exact w law = record { number = number_exact w law; counted = counted_field_exact w law }

-- Numbers of 8 bits are read exactly.
pub u8_exact : Exact (Fits w8) (field w8) (number_from w8)
u8_exact = number_exact w8 width_8

-- Numbers of 16 bits are read exactly.
pub u16_exact : Exact (Fits w16) (field w16) (number_from w16)
u16_exact = number_exact w16 width_16

-- Numbers of 32 bits are read exactly.
pub u32_exact : Exact (Fits w32) (field w32) (number_from w32)
u32_exact = number_exact w32 width_32

-- Numbers of 64 bits are read exactly.
pub u64_exact : Exact (Fits w64) (field w64) (number_from w64)
u64_exact = number_exact w64 width_64

-- Bytes behind their length of 16 bits are read exactly.
pub run16_exact : Exact (IsCounted w16) (counted_field w16) (counted_field_from w16)
run16_exact = counted_field_exact w16 width_16

-- Bytes behind their length of 32 bits are read exactly.
pub run32_exact : Exact (IsCounted w32) (counted_field w32) (counted_field_from w32)
run32_exact = counted_field_exact w32 width_32

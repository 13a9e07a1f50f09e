-- Steps of a reader that did not fail, and the fields that they read.
use Rattle.std.proofs.Common.{◌≡◌, ℕ, ◌-◌, ◌+◌, ◌≤◌, ◌<◌, ◌^◌, Bool, true, false, cond, leb, List, ◌++◌, length, take}
use Rattle.std.proofs.Common.{drop, Result, Ok, Err, refl, sym, ap, subst, ◌∙◌, arith, inl, inr, length-append}
use Rattle.std.specs.Prelude.{slice_range}
use Rattle.std.specs.Int.{Width, byte_len}
use Rattle.std.proofs.lemmas.Bool.{cases_lt, leb-true, le-leb}
use Rattle.std.proofs.lemmas.List.{take_at, drop_at, take-append-drop, length-take, length-take-le}
use Rattle.std.proofs.lemmas.List.{length-drop, drop-drop, get_or-drop, get_or-take, get_or_past}
use Rattle.dl_codec.specs.declared.short.Short as codec
pub use Rattle.dl_reading.proofs.ReadingLemmas.{bind_ok, ok_is}
use Rattle.dl_codec.specs.Fields.{field, number_of, number_at, short_at, IsBytes}
use Rattle.dl_codec.specs.Laws.{HasOneSpelling}
use Rattle.dl_record.specs.declared.entry_flaw.EntryFlaw.{EntryFlaw}
use Rattle.dl_record.specs.Reading.{◌>>=◌, or_short, field_at, value_if, end_at}

-- Bytes from a place on are bytes.
pub IsBytes-drop : (n : ℕ) (bytes : List ℕ) → IsBytes bytes → IsBytes (drop n bytes)
IsBytes-drop n bytes h i = rw get_or-drop (h (n + i))

-- Bytes up to a place are bytes.
pub IsBytes-take : (n : ℕ) (bytes : List ℕ) → IsBytes bytes → IsBytes (take n bytes)
IsBytes-take n bytes h i = elim (cases_lt i n) [
  | inl lt ↦ rw (get_or-take n bytes i 0 lt) (h i)
  | inr le ↦ rw (get_or_past (take n bytes) i 0 (omega (arith, length-take n bytes))) (omega arith)
]

-- ---- steps

-- what a step that did not fail gives
abbrev done : {A : Type 0} → A → Result A EntryFlaw
done x = Ok x

-- a test that was passed
pub chosen : {A : Type 0} (b : Bool) (fault : EntryFlaw) (r : Result A EntryFlaw) (y : A) → cond b (Err fault) r ≡ Ok y → (b ≡ false) × (r ≡ Ok y)
chosen true fault r y e = absurd cc
chosen false fault r y e = (refl, e)

-- A value that was given passed the test, and is the value.
pub value_if_ok : (b : Bool) (fault : EntryFlaw) (n m : ℕ) → value_if b fault n ≡ Ok m → (b ≡ true) × (n ≡ m)
value_if_ok true fault n m e = (refl, cc)
value_if_ok false fault n m e = absurd cc

-- a number that passed its test
pub checked_ok : (read : Result ℕ EntryFlaw) (p : ℕ → Bool) (fault : EntryFlaw) (m : ℕ) → (read >>= λ n. value_if (p n) fault n) ≡ Ok m
    → (read ≡ Ok m) × (p m ≡ true)
checked_ok read p fault m e =
    let u = bind_ok read (λ n. value_if (p n) fault n) m e in
    let v = value_if_ok (p u.0) fault u.0 m u.2 in
    (u.1 ∙ ap (λ (n : ℕ). done n) v.1, ap p (sym v.1) ∙ v.0)

-- ---- fields

-- A field of an entry was a field of the codec.
or_short_ok : (r : Result ℕ codec.Short) (n : ℕ) → or_short r ≡ Ok n → r ≡ Ok n
or_short_ok (Ok m) n e = let same : m ≡ n = cc in cc
or_short_ok (Err short) n e = absurd cc

-- a number, as what a reading gives
abbrev number : ℕ → Result ℕ codec.Short
number n = Ok n

-- A number that was given passed the test, and is the number.
numbered : (b : Bool) (n m : ℕ) (short : codec.Short) → cond b (number n) (Err short) ≡ Ok m → (b ≡ true) × (n ≡ m)
numbered true n m short e = (refl, cc)
numbered false n m short e = absurd cc

-- What a field that was read says of the bytes.
pub record Field (w : Width) (bytes : List ℕ) (at next n : ℕ) : Type 0 where
  pub fits : n < 256 ^ byte_len w
  pub room : next ≤ length bytes
  pub stands : drop at bytes ≡ field w n ++ drop next bytes

-- Bytes from which a field was read stand for it.
pub field_found : (w : Width) → HasOneSpelling w → (bytes : List ℕ) (at next n : ℕ) → IsBytes bytes → next ≡ at + byte_len w
    → field_at w bytes at ≡ Ok n → Field w bytes at next n
unfolding field_at number_at
field_found w law bytes at next n fits place e =
    let k = byte_len w in
    let cells = take k (drop at bytes) in
    let g = numbered (leb (at + k) (length bytes)) (number_of w cells) n (short_at at)
    (or_short_ok (cond (leb (at + k) (length bytes)) (number (number_of w cells)) (Err (short_at at))) n e) in
    let long : at + k ≤ length bytes = leb-true (at + k) (length bytes) g.0 in
    let cells-fit = IsBytes-take k (drop at bytes) (IsBytes-drop at bytes fits) in
    let len : length cells ≡ k = length-take-le k (drop at bytes) (omega (arith, length-drop at bytes)) in
    let spelt : field w n ≡ cells = ap (field w) (sym g.1) ∙ law.spelt cells len cells-fit in
    let rest : drop k (drop at bytes) ≡ drop next bytes = drop-drop k at bytes ∙ ap (λ (i : ℕ). drop i bytes) (sym place) in
    record {
      fits = subst (λ (m : ℕ). m < 256 ^ k) g.1 (law.below cells cells-fit);
      room = omega arith;
      stands = sym (take-append-drop k (drop at bytes)) ∙ ap (λ (l : List ℕ). l ++ drop k (drop at bytes)) (sym spelt)
          ∙ ap (λ (l : List ℕ). field w n ++ l) rest;
    }

-- What a field that stands there reads as, and what stands behind it.
pub record FieldReads (w : Width) (bytes : List ℕ) (at next n : ℕ) (rest : List ℕ) : Type 0 where
  pub reads : field_at w bytes at ≡ Ok n
  pub behind : drop next bytes ≡ rest
  pub room : next ≤ length bytes

-- From the spelling of a number the number is read.
pub field_again : (w : Width) → HasOneSpelling w → 0 < byte_len w → (bytes : List ℕ) (at next n : ℕ) (rest : List ℕ) → next ≡ at + byte_len w
    → n < 256 ^ byte_len w → drop at bytes ≡ field w n ++ rest → FieldReads w bytes at next n rest
unfolding field_at number_at
field_again w law some bytes at next n rest place fits e =
    let k = byte_len w in
    let len = law.len n in
    let sizes : length bytes - at ≡ k + length rest =
    sym (length-drop at bytes) ∙ ap length e ∙ length-append (field w n) rest ∙ ap (λ (m : ℕ). m + length rest) len in
    let long : at + k ≤ length bytes = omega arith in
    let test : leb (at + k) (length bytes) ≡ true = le-leb (at + k) (length bytes) long in
    let cells : take k (drop at bytes) ≡ field w n = ap (take k) e ∙ take_at (field w n) rest k len in
    let value : number_of w (take k (drop at bytes)) ≡ n = ap (number_of w) cells ∙ law.again n fits in
    record {
      reads = rw (test, value) refl;
      behind = ap (λ (i : ℕ). drop i bytes) place ∙ sym (drop-drop k at bytes) ∙ ap (drop k) e ∙ drop_at (field w n) rest k len;
      room = omega arith;
    }

-- ---- runs of bytes

-- A run stands between two places.
pub record Part (bytes : List ℕ) (at end : ℕ) : Type 0 where
  pub stands : drop at bytes ≡ slice_range bytes at end ++ drop end bytes
  pub len : length (slice_range bytes at end) + at ≡ end

-- A run of bytes within the list stands between what is before and behind it.
pub part_found : (bytes : List ℕ) (at end : ℕ) → at ≤ end → end ≤ length bytes → Part bytes at end
part_found bytes at end within room =
    let behind : drop (end - at) (drop at bytes) ≡ drop end bytes = drop-drop (end - at) at bytes ∙ ap (λ (i : ℕ). drop i bytes) (omega arith) in
    record {
      stands = sym (take-append-drop (end - at) (drop at bytes)) ∙ ap (λ (l : List ℕ). slice_range bytes at end ++ l) behind;
      len = omega (arith, length-take-le (end - at) (drop at bytes) (omega (arith, length-drop at bytes)));
    }

-- The run between two places is these bytes, and the rest stands behind it.
pub record PartReads (bytes : List ℕ) (at end : ℕ) (text rest : List ℕ) : Type 0 where
  pub reads : slice_range bytes at end ≡ text
  pub behind : drop end bytes ≡ rest

-- From the spelling of a run its bytes are taken.
pub part_again : (bytes : List ℕ) (at end : ℕ) (text rest : List ℕ) → end ≡ at + length text → drop at bytes ≡ text ++ rest → PartReads bytes at end text rest
part_again bytes at end text rest place e = record {
  reads = ap (λ (k : ℕ). take k (drop at bytes)) (omega arith) ∙ ap (take (length text)) e ∙ take_at text rest (length text) refl;
  behind = ap (λ (i : ℕ). drop i bytes) place ∙ sym (drop-drop (length text) at bytes) ∙ ap (drop (length text)) e ∙ drop_at text rest (length text) refl;
}

-- the end of a run that fits
pub end_found : (bytes : List ℕ) (at size end : ℕ) → end_at bytes at size ≡ Ok end → (end ≡ at + size) × (end ≤ length bytes)
unfolding end_at
end_found bytes at size end e =
    let g = value_if_ok (leb (at + size) (length bytes)) _ (at + size) end e in
    (sym g.1, omega (arith, leb-true (at + size) (length bytes) g.0))

-- A run within the list ends there.
pub end_again : (bytes : List ℕ) (at size : ℕ) → at + size ≤ length bytes → end_at bytes at size ≡ Ok (at + size)
unfolding end_at
end_again bytes at size room = rw (le-leb (at + size) (length bytes) room) refl

-- The paths of keys have the form of paths.
use Rattle.std.proofs.Common.{◌≡◌, ℕ, zero, suc, ◌+◌, ◌*◌, ◌/◌, ◌%◌, ◌<◌, ◌≤◌, nat_le, Bool, true, false, cond, ◌&&◌, ◌==◌, not}
use Rattle.std.proofs.Common.{List, [], ◌∷◌, ◌++◌, codes, length, Some, None, refl, sym, ap, ◌∙◌, arith, lit<, lit≤, length-append}
use Rattle.std.proofs.lemmas.Bool.{and_parts, and_from, true≢false, le-leb}
use Rattle.std.proofs.lemmas.List.{reverse-append}
use Rattle.std.proofs.lemmas.Bool.Decides.{nat_tests}
use Rattle.std.specs.List.{AllByRecursion}
use Rattle.dl_types.specs.Names.{bad_from, is_letter, is_name_byte}
use Rattle.dl_fields.specs.Paths.{is_part_byte, IsPart, with_slashes, path_of_parts, IsPath, last_length, is_stem, IsStemField}
use Rattle.dl_fields.specs.Digits.{digits}
use Rattle.dl_formats.specs.Keys.{Key, Conf, Streams, Ledgers, Ledger, Stream, MaxSeq, Cut, Alloc, Locks, Member, Segs, Progress}
use Rattle.dl_formats.specs.Keys.{Completed, parts_of, path_of, ledger_stem, member_stem, NoSlash, IsKey, IsName, IsNodeKey}
use Rattle.dl_formats.specs.KeyLaws.{PathsHaveTheirForm}
use Rattle.dl_fields.proofs.DigitLemmas.{length-digits}
use Rattle.dl_formats.proofs.KeyLemmas.{with_slashes_more}

-- parts of fixed bytes, and of digits behind them

-- each of the bytes may stand in a part
abbrev ArePartBytes : List ℕ → Type 0
ArePartBytes xs = AllByRecursion (λ c. is_part_byte c ≡ true) xs

-- the same as a test
abbrev are_part_bytes : List ℕ → Bool
are_part_bytes [] = true
are_part_bytes (c ∷ cs) = is_part_byte c && are_part_bytes cs

-- Where the test says yes, each byte may stand in a part.
tested : (xs : List ℕ) → are_part_bytes xs ≡ true → ArePartBytes xs
tested [] h = tt
tested (c ∷ cs) h = let p = and_parts (is_part_byte c) (are_part_bytes cs) h in (p.0, tested cs p.1)

-- The bytes of two runs, one behind the other.
both : (xs ys : List ℕ) → ArePartBytes xs → ArePartBytes ys → ArePartBytes (xs ++ ys)
both [] ys a b = b
both (x ∷ xs) ys a b = (a.0, both xs ys a.1 b)

-- A digit may stand in a part.
digit_is : (k : ℕ) → is_part_byte (48 + k % 10) ≡ true
digit_is k = go (k % 10) (omega arith)
  where
    go : (d : ℕ) → d < 10 → is_part_byte (48 + d) ≡ true
    go d h = grind (arith, nat_tests)

-- Digits may stand in a part.
digits_are : (n k : ℕ) → ArePartBytes (digits n k)
digits_are zero k = tt
digits_are (suc n) k = both (digits n (k / 10)) ((48 + k % 10) ∷ []) (digits_are n (k / 10)) (digit_is k, tt)

-- 1 to 80 bytes that pass the test are a part.
fixed : (xs : List ℕ) → 0 < length xs → length xs ≤ 80 → are_part_bytes xs ≡ true → IsPart xs
fixed xs some few h = record { some = some; few = few; bytes = tested xs h }

-- Ten digits behind at most 70 such bytes are a part.
numbered : (xs : List ℕ) (k : ℕ) → length xs ≤ 70 → are_part_bytes xs ≡ true → IsPart (xs ++ digits 10 k)
numbered xs k few h = record {
  some = omega (arith, length-append xs (digits 10 k), length-digits 10 k);
  few = omega (arith, length-append xs (digits 10 k), length-digits 10 k);
  bytes = both xs (digits 10 k) (tested xs h) (digits_are 10 k);
}

-- names of streams

-- A byte of a name may stand in a part.
letter_is : (c : ℕ) → is_name_byte c ≡ true → is_part_byte c ≡ true
letter_is c h = grind (arith, nat_tests)

-- A byte of a name is no slash.
no_slash_byte : (c : ℕ) → is_name_byte c ≡ true → c ≡ 47 → ⊥
no_slash_byte c h e = true≢false (sym h ∙ ap is_name_byte e)

-- The bytes of a name from a place on: they are few, may stand in a part, and have no slash.
record Good (at : ℕ) (xs : List ℕ) : Type 0 where
  few : at + length xs ≤ 64
  bytes : ArePartBytes xs
  apart : NoSlash xs

-- One byte more before such bytes.
good_more : (at c : ℕ) (cs : List ℕ) (s t : Bool) → nat_le 64 at ≡ s → is_name_byte c ≡ t
    → cond s (Some 64) (cond t (bad_from (at + 1) cs) (Some at)) ≡ None → (at + 1 ≤ 64 → bad_from (at + 1) cs ≡ None → Good (at + 1) cs) → Good at (c ∷ cs)
good_more at c cs true t p q e more = absurd cc
good_more at c cs false false p q e more = absurd cc
good_more at c cs false true p q e more =
    let less : at + 1 ≤ 64 = grind (arith, nat_tests) in
    let r = more less e in
    record { few = omega (arith, r.few); bytes = (letter_is c q, r.bytes); apart = (no_slash_byte c q, r.apart) }

-- Where a name has no bad byte from a place on, its bytes from there on are good.
good_from : (at : ℕ) (xs : List ℕ) → at ≤ 64 → bad_from at xs ≡ None → Good at xs
good_from at [] le h = record { few = omega (arith, le); bytes = tt; apart = tt }
good_from at (c ∷ cs) le h = good_more at c cs (nat_le 64 at) (is_name_byte c) refl refl h (λ less e. good_from (at + 1) cs less e)

-- A name has a byte, and its bytes are good.
name_good : (s : List ℕ) → IsName s → (0 < length s) × Good 0 s
name_good [] h = absurd cc
name_good (c ∷ cs) h = (omega arith, go (is_letter c) refl h)
  where
    go : (t : Bool) → is_letter c ≡ t → cond t (bad_from 0 (c ∷ cs)) (Some 0) ≡ None → Good 0 (c ∷ cs)
    go true q e = good_from 0 (c ∷ cs) (lit≤ tt) e
    go false q e = absurd cc

-- A name is a part.
named : (s : List ℕ) → IsName s → IsPart s
named s h = let g = name_good s h in record { some = g.0; few = omega (arith, g.1.few); bytes = g.1.bytes }

-- A name has no slash.
pub name_no_slash : (s : List ℕ) → IsName s → NoSlash s
name_no_slash s h = (name_good s h).1.apart

-- keys

-- A key that the log uses has a path that no other key has.
key_is : (k : Key) → IsNodeKey k → IsKey k
key_is Conf h = tt
key_is Streams h = tt
key_is Ledgers h = tt
key_is (Ledger n) h = h
key_is (Stream s) h = name_no_slash s h
key_is (MaxSeq s) h = name_no_slash s h
key_is (Cut s) h = name_no_slash s h
key_is (Alloc s) h = name_no_slash s h
key_is (Locks s) h = name_no_slash s h
key_is (Segs s) h = name_no_slash s h
key_is (Member s n) h = (name_no_slash s h.0, h.1)
key_is (Progress s n) h = (name_no_slash s h.0, h.1)
key_is (Completed s n) h = (name_no_slash s h.0, h.1)

-- `streams` is a part.
streams_part : IsPart (codes "streams")
streams_part = fixed (codes "streams") (lit< tt) (lit≤ tt) refl

-- The parts of the path of such a key are parts.
parts_are : (k : Key) → IsNodeKey k → AllByRecursion IsPart (parts_of k)
parts_are Conf h = (fixed (codes "conf") (lit< tt) (lit≤ tt) refl, tt)
parts_are Streams h = (streams_part, tt)
parts_are Ledgers h = (fixed (codes "ledgers") (lit< tt) (lit≤ tt) refl, tt)
parts_are (Ledger n) h = (fixed (codes "ledgers") (lit< tt) (lit≤ tt) refl, (numbered (codes "L") n (lit≤ tt) refl, tt))
parts_are (Stream s) h = (streams_part, (named s h, tt))
parts_are (MaxSeq s) h = (streams_part, (named s h, (fixed (codes "maxseq") (lit< tt) (lit≤ tt) refl, tt)))
parts_are (Cut s) h = (streams_part, (named s h, (fixed (codes "cut") (lit< tt) (lit≤ tt) refl, tt)))
parts_are (Alloc s) h = (streams_part, (named s h, (fixed (codes "alloc") (lit< tt) (lit≤ tt) refl, tt)))
parts_are (Locks s) h = (streams_part, (named s h, (fixed (codes "lock") (lit< tt) (lit≤ tt) refl, tt)))
parts_are (Segs s) h = (streams_part, (named s h, (fixed (codes "segs") (lit< tt) (lit≤ tt) refl, tt)))
parts_are (Member s n) h = (streams_part, (named s h.0, (fixed (codes "lock") (lit< tt) (lit≤ tt) refl, (numbered (codes "m-") n (lit≤ tt) refl, tt))))
parts_are (Progress s n) h = (streams_part, (named s h.0, (fixed (codes "segs") (lit< tt) (lit≤ tt) refl, (numbered (codes "p") n (lit≤ tt) refl, tt))))
parts_are (Completed s n) h = (streams_part, (named s h.0, (fixed (codes "segs") (lit< tt) (lit≤ tt) refl, (numbered (codes "c") n (lit≤ tt) refl, tt))))

-- A key has at least one part.
some_parts : (k : Key) → with_slashes (parts_of k) ≡ path_of_parts (parts_of k)
some_parts Conf = refl
some_parts Streams = refl
some_parts Ledgers = refl
some_parts (Ledger n) = refl
some_parts (Stream s) = refl
some_parts (MaxSeq s) = refl
some_parts (Cut s) = refl
some_parts (Alloc s) = refl
some_parts (Locks s) = refl
some_parts (Segs s) = refl
some_parts (Member s n) = refl
some_parts (Progress s n) = refl
some_parts (Completed s n) = refl

-- The path of such a key has the form of a path.
path_is : (k : Key) → IsNodeKey k → IsPath (path_of k)
unfolding path_of
path_is k h = (parts_of k, parts_are k h, some_parts k)

-- parts of at most 80 bytes
with_slashes_few : (ps : List (List ℕ)) → AllByRecursion IsPart ps → length (with_slashes ps) ≤ 81 * length ps
with_slashes_few [] h = lit≤ tt
with_slashes_few (p ∷ ps) h = omega (arith, h.0.few, with_slashes_few ps h.1, length-append (47 ∷ p) (with_slashes ps))

-- A key has at most four parts.
few_parts : (k : Key) → length (parts_of k) ≤ 4
few_parts Conf = lit≤ tt
few_parts Streams = lit≤ tt
few_parts Ledgers = lit≤ tt
few_parts (Ledger n) = lit≤ tt
few_parts (Stream s) = lit≤ tt
few_parts (MaxSeq s) = lit≤ tt
few_parts (Cut s) = lit≤ tt
few_parts (Alloc s) = lit≤ tt
few_parts (Locks s) = lit≤ tt
few_parts (Segs s) = lit≤ tt
few_parts (Member s n) = lit≤ tt
few_parts (Progress s n) = lit≤ tt
few_parts (Completed s n) = lit≤ tt

-- The path of such a key fits a length of 16 bits.
path_fits : (k : Key) → IsNodeKey k → length (path_of k) < 65536
unfolding path_of
path_fits k h = omega (arith, with_slashes_few (parts_of k) (parts_are k h), few_parts k)

-- stems

-- The stem of ledgers is a stem.
ledger_stem_is : IsStemField ledger_stem
unfolding ledger_stem
ledger_stem_is = (
  (
    (
      codes "ledgers" ∷ codes "L" ∷ [],
      (fixed (codes "ledgers") (lit< tt) (lit≤ tt) refl, (fixed (codes "L") (lit< tt) (lit≤ tt) refl, tt)),
      refl,
    ),
    lit< tt,
  ),
  refl,
)

-- The parts of the stem of a lock's members are parts.
member_parts_are : (s : List ℕ) → IsName s → AllByRecursion IsPart (codes "streams" ∷ s ∷ codes "lock" ∷ codes "m-" ∷ [])
member_parts_are s h = (streams_part, (named s h, (fixed (codes "lock") (lit< tt) (lit≤ tt) refl, (fixed (codes "m-") (lit< tt) (lit≤ tt) refl, tt))))

-- the last part of such a path is the one behind its last slash
last_two : (front : List ℕ) (a b : ℕ) → not (a == 47) ≡ true → not (b == 47) ≡ true → last_length (front ++ 47 ∷ a ∷ b ∷ []) ≡ 2
last_two front a b p q = rw (reverse-append front (47 ∷ a ∷ b ∷ [])) (rw q (rw p refl))

-- The last part of that stem has two bytes.
member_last : (s : List ℕ) → last_length (member_stem s) ≡ 2
unfolding member_stem
member_last s =
    let more : member_stem s ≡ with_slashes (codes "streams" ∷ s ∷ codes "lock" ∷ []) ++ 47 ∷ codes "m-" =
    with_slashes_more (codes "streams" ∷ s ∷ codes "lock" ∷ []) (codes "m-") in
    ap last_length more ∙ last_two (with_slashes (codes "streams" ∷ s ∷ codes "lock" ∷ [])) 109 45 refl refl

-- That stem has at most 324 bytes.
member_few : (s : List ℕ) → IsName s → length (member_stem s) ≤ 324
unfolding member_stem
member_few s h = with_slashes_few (codes "streams" ∷ s ∷ codes "lock" ∷ codes "m-" ∷ []) (member_parts_are s h)

-- That stem has the form of a path.
member_path : (s : List ℕ) → IsName s → IsPath (member_stem s)
unfolding member_stem
member_path s h = (codes "streams" ∷ s ∷ codes "lock" ∷ codes "m-" ∷ [], member_parts_are s h, refl)

-- A path with few bytes, and few of them in its last part, passes the test of stems.
stem_from_sizes : (path : List ℕ) → last_length path ≤ 70 → length path ≤ 65525 → is_stem path ≡ true
stem_from_sizes path a b = and_from (nat_le (last_length path) 70) (nat_le (length path) 65525) (le-leb (last_length path) 70 a) (le-leb (length path) 65525 b)

-- The stem of a lock's members is a stem.
member_stem_is : (s : List ℕ) → IsName s → IsStemField (member_stem s)
member_stem_is s h =
    ((member_path s h, omega (arith, member_few s h)), stem_from_sizes (member_stem s) (omega (arith, member_last s)) (omega (arith, member_few s h)))

-- The paths of the nodes that the log uses have their form.
pub their_form : PathsHaveTheirForm
their_form = record { key = key_is; path = path_is; length = path_fits; ledger = ledger_stem_is; member = member_stem_is }

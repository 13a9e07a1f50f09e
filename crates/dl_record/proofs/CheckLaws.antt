-- A check of an entry keeps what reading says: whether a flaw was found, and what the next record is asked.
use Rattle.std.proofs.Common.{◌≡◌, ℕ, zero, suc, ◌-◌, ◌+◌, ◌≤◌, ◌<◌, Bool, true, false, cond, eqb, Option, Some}
use Rattle.std.proofs.Common.{List, [], ◌∷◌, length, take, Result, Ok, Err, refl, sym, ap, ap₂, ◌∙◌, arith}
use Rattle.std.proofs.lemmas.Bool.{eq-eqb, ne_eqb, cond-true, cond-false}
use Rattle.std.specs.Prelude.{slice_range}
use Rattle.dl_record.specs.declared.entry_flaw.EntryFlaw.{EntryFlaw}
use Rattle.dl_record.specs.declared.entry_flaw.EntryFlaw.TheVariants.{Long}
use Rattle.dl_record.specs.declared.kind.Kind.{Kind}
use Rattle.dl_record.specs.declared.kind.Kind.TheVariants as kinds
use Rattle.dl_record.specs.declared.kind.Head.{Head}
use Rattle.dl_record.specs.declared.kind.Behind.{Behind}
use Rattle.dl_record.specs.declared.stored.Stored.{Stored}
use Rattle.dl_record.specs.declared.stored.Stored.TheVariants.{Plain, Control, Set}
use Rattle.dl_record.specs.Stored.{position_of, txid_of, rows_in}
use Rattle.dl_record.specs.Reading.{◌>>=◌, behind_of, head_at, set_count_at, member_end_at, members_at, set_at, stored_at}
use Rattle.dl_record.specs.Reading.{content_at, record_at, records_at, verdict, set_rows_at, content_rows_at, behind_at}
use Rattle.dl_record.proofs.Steps.{bind_ok, ok_is}

-- a step behind a reading fails where that one does, if it never fails itself
kept_flaw : {A B : Type 0} (read : Result A EntryFlaw) (f : A → B) (flaw : EntryFlaw) → (read >>= λ x. Ok (f x)) ≡ Err flaw → read ≡ Err flaw
kept_flaw (Ok x) f flaw e = absurd cc
kept_flaw (Err other) f flaw e = cc

-- One thing more that was read leaves the verdict as it is.
verdict_more : {A : Type 0} (x : A) (read : Result (List A) EntryFlaw) → verdict (read >>= λ xs. Ok (x ∷ xs)) ≡ verdict read
verdict_more x (Ok xs) = refl
verdict_more x (Err flaw) = refl

-- the verdict that there is no flaw
abbrev fine : Result (Unit {0}) EntryFlaw
fine = Ok tt

-- The verdict on a reading that ends with a test is that of the test.
verdict_end : {A : Type 0} (b : Bool) (flaw : EntryFlaw) (x : A) → verdict (cond {A = Result A EntryFlaw} b (Ok x) (Err flaw)) ≡ cond b fine (Err flaw)
verdict_end true flaw x = refl
verdict_end false flaw x = refl

-- whether the bytes end at a place
abbrev ended : ℕ → List ℕ → Result (Unit {0}) EntryFlaw
ended at bytes = cond (eqb at (length bytes)) fine (Err (Long at))

-- At the end of the bytes nothing is left over.
ended_there : (at : ℕ) (bytes : List ℕ) → at ≡ length bytes → ended at bytes ≡ Ok tt
ended_there at bytes e = cond-true _ _ _ (eq-eqb at (length bytes) e)

-- Before the end of the bytes something is left over.
goes_on : (at : ℕ) (bytes : List ℕ) → (at ≡ length bytes → ⊥) → ended at bytes ≡ Err (Long at)
goes_on at bytes e = cond-false _ _ _ (ne_eqb at (length bytes) e)

-- ---- members

-- Behind a member that ends, the verdict is that on the members behind it.
pub members_checked_on : (count i : ℕ) (bytes : List ℕ) (at end : ℕ) (total : Result (Unit {0}) EntryFlaw) → i < count → member_end_at bytes at ≡ Ok end
    → verdict (members_at (count - i) bytes at) ≡ total → verdict (members_at (count - (i + 1)) bytes end) ≡ total
unfolding members_at
members_checked_on count i bytes at end total lt h so_far =
    let k : count - i ≡ suc (count - (i + 1)) = omega arith in
    let one : verdict (members_at (count - i) bytes at) ≡ verdict (members_at (count - (i + 1)) bytes end) =
    rw (k, h) (verdict_more _ (members_at (count - (i + 1)) bytes end)) in
    sym one ∙ so_far

-- A member that has a flaw is the flaw of them all.
pub members_checked_stop : (count i : ℕ) (bytes : List ℕ) (at : ℕ) (flaw : EntryFlaw) (total : Result (Unit {0}) EntryFlaw) → i < count
    → member_end_at bytes at ≡ Err flaw
    → verdict (members_at (count - i) bytes at) ≡ total → total ≡ Err flaw
unfolding members_at
members_checked_stop count i bytes at flaw total lt failed so_far =
    let k : count - i ≡ suc (count - (i + 1)) = omega arith in
    let one : verdict (members_at (count - i) bytes at) ≡ Err flaw = rw (k, failed) refl in
    sym so_far ∙ one

-- Behind the last member the verdict is whether the bytes end there.
members_checked : (count i : ℕ) (bytes : List ℕ) (at : ℕ) (total : Result (Unit {0}) EntryFlaw) → count ≤ i
    → verdict (members_at (count - i) bytes at) ≡ total → total ≡ ended at bytes
unfolding members_at
members_checked count i bytes at total le so_far =
    let k : count - i ≡ 0 = omega arith in
    sym so_far ∙ ap (λ (n : ℕ). verdict (members_at n bytes at)) k ∙ verdict_end (eqb at (length bytes)) (Long at) []

-- Members behind which the bytes end have no flaw.
pub members_checked_all : (count i : ℕ) (bytes : List ℕ) (at : ℕ) (total : Result (Unit {0}) EntryFlaw) → count ≤ i → at ≡ length bytes
    → verdict (members_at (count - i) bytes at) ≡ total → total ≡ Ok tt
members_checked_all count i bytes at total le e so_far = members_checked count i bytes at total le so_far ∙ ended_there at bytes e

-- Members behind which bytes are left over have that flaw.
pub members_checked_long : (count i : ℕ) (bytes : List ℕ) (at : ℕ) (total : Result (Unit {0}) EntryFlaw) → count ≤ i → (at ≡ length bytes → ⊥)
    → verdict (members_at (count - i) bytes at) ≡ total → total ≡ Err (Long at)
members_checked_long count i bytes at total le e so_far = members_checked count i bytes at total le so_far ∙ goes_on at bytes e

-- ---- the set

-- the verdict on a reading, with a count
abbrev counted : ℕ → Result (List (List ℕ)) EntryFlaw → Result ℕ EntryFlaw
counted n read = verdict read >>= λ _. Ok n

-- How many members were read is the count that was asked for.
members_counted : (n : ℕ) (bytes : List ℕ) (at : ℕ) → (members_at n bytes at >>= λ payloads. Ok (length payloads)) ≡ counted n (members_at n bytes at)
unfolding members_at
members_counted zero bytes at = go (eqb at (length bytes))
  where
    go : (b : Bool) → (cond {A = Result (List (List ℕ)) EntryFlaw} b (Ok []) (Err (Long at)) >>= λ payloads. Ok (length payloads)) ≡ counted 0
        (cond b (Ok []) (Err (Long at)))
    go true = refl
    go false = refl
members_counted (suc n) bytes at = first (member_end_at bytes at) (λ end. members_at n bytes end) (λ end. members_counted n bytes end)
  where
    rest : (x : List ℕ) (read : Result (List (List ℕ)) EntryFlaw) → (read >>= λ payloads. Ok (length payloads)) ≡ counted n read
        → ((read >>= λ others. Ok (x ∷ others)) >>= λ payloads. Ok (length payloads)) ≡ counted (suc n) (read >>= λ others. Ok (x ∷ others))
    rest x (Ok others) e = ap (λ (r : Result ℕ EntryFlaw). r >>= λ k. Ok (suc k)) e
    rest x (Err flaw) e = refl

    first : (end : Result ℕ EntryFlaw) (more : ℕ → Result (List (List ℕ)) EntryFlaw)
        → ((k : ℕ) → (more k >>= λ payloads. Ok (length payloads)) ≡ counted n (more k))
        → ((end >>= λ end. more end >>= λ others. Ok (slice_range bytes (at + 4) end ∷ others)) >>= λ payloads. Ok (length payloads))
        ≡ counted (suc n) (end >>= λ end. more end >>= λ others. Ok (slice_range bytes (at + 4) end ∷ others))
    first (Ok end) more same = rest (slice_range bytes (at + 4) end) (more end) (same end)
    first (Err flaw) more same = refl

-- The rows of a set are its count, where its members have no flaw.
set_checked : (bytes : List ℕ) (at : ℕ) → set_rows_at bytes at ≡ (set_count_at bytes at >>= λ count. counted count (members_at count bytes (at + 4)))
unfolding set_at
set_checked bytes at = go (set_count_at bytes at)
  where
    go : (count : Result ℕ EntryFlaw)
        → ((count >>= λ count. members_at count bytes (at + 4)) >>= λ payloads. Ok (length payloads)) ≡ (count >>= λ count. counted count
        (members_at count bytes (at + 4)))
    go (Ok count) = members_counted count bytes (at + 4)
    go (Err flaw) = refl

-- A flaw of the front of a set is the flaw of the set.
pub set_has_no_count : (bytes : List ℕ) (at : ℕ) (flaw : EntryFlaw) → set_count_at bytes at ≡ Err flaw → set_rows_at bytes at ≡ Err flaw
set_has_no_count bytes at flaw h = set_checked bytes at ∙ ap (λ (r : Result ℕ EntryFlaw). r >>= λ count. counted count (members_at count bytes (at + 4))) h

-- The rows of a set are its count, with the verdict on its members.
pub set_members : (bytes : List ℕ) (at count : ℕ) (read : Result (Unit {0}) EntryFlaw) → set_count_at bytes at ≡ Ok count
    → verdict (members_at count bytes (at + 4)) ≡ read → set_rows_at bytes at ≡ (read >>= λ _. Ok count)
set_members bytes at count read h e =
    set_checked bytes at ∙ ap (λ (r : Result ℕ EntryFlaw). r >>= λ count. counted count (members_at count bytes (at + 4))) h
    ∙ ap (λ (r : Result (Unit {0}) EntryFlaw). r >>= λ _. Ok count) e

-- ---- one record

-- The rows of a record of a set are those of the set.
pub set_content : (head : Head) (bytes : List ℕ) (at : ℕ) → head.kind ≡ kinds.Set → content_rows_at head bytes at ≡ set_rows_at (take head.end bytes) at
set_content head bytes at is =
    ap (λ (kind : Kind). stored_at kind head.position head.txid bytes at head.end >>= λ stored. Ok (rows_in stored)) is ∙ go (set_at (take head.end bytes) at)
  where
    go : (read : Result (List (List ℕ)) EntryFlaw)
        → ((read >>= λ payloads. Ok (Set head.position head.txid payloads)) >>= λ stored. Ok (rows_in stored)) ≡ (read >>= λ payloads. Ok (length payloads))
    go (Ok payloads) = refl
    go (Err flaw) = refl

-- a stored record has the position and the transaction id of its fields
pub record IsOf (n t : ℕ) (r : Stored) : Type 0 where
  pub position : position_of r ≡ n
  pub txid : txid_of r ≡ t

-- The record that stands behind fields has their position and their id.
content_is : (kind : Kind) (position txid : ℕ) (bytes : List ℕ) (at end : ℕ) (r : Stored) → stored_at kind position txid bytes at end ≡ Ok r
    → IsOf position txid r
content_is kinds.Plain position txid bytes at end r e =
    let is = ok_is (Plain position txid (slice_range bytes at end)) r e in
    record { position = ap position_of (sym is); txid = ap txid_of (sym is) }
content_is kinds.Control position txid bytes at end r e =
    let is = ok_is (Control position txid) r e in
    record { position = ap position_of (sym is); txid = ap txid_of (sym is) }
content_is kinds.Set position txid bytes at end r e =
    let u = bind_ok (set_at (take end bytes) at) (λ payloads. Ok (Set position txid payloads)) r e in
    let is = ok_is (Set position txid u.0) r u.2 in
    record { position = ap position_of (sym is); txid = ap txid_of (sym is) }

-- what a record with this position behind it and this id asks of the next one
abbrev asks : (position txid : ℕ) → Behind
asks position txid = record { position = position; txid = txid }

-- A record whose fields and payload are read asks of the next one what it says.
record_read : (alone : Bool) (before : Option Behind) (bytes : List ℕ) (at : ℕ) (head : Head) (r : Stored) → head_at alone before bytes at ≡ Ok head
    → content_at head bytes (at + 20) ≡ Ok r
    → behind_at alone before bytes at ≡ Ok (behind_of r, head.end)
unfolding record_at
record_read alone before bytes at head r h c = rw (h, c) refl

-- A flaw of the payload is the flaw of the record.
record_refused : (alone : Bool) (before : Option Behind) (bytes : List ℕ) (at : ℕ) (head : Head) (flaw : EntryFlaw)
    → head_at alone before bytes at ≡ Ok head → content_at head bytes (at + 20) ≡ Err flaw
    → behind_at alone before bytes at ≡ Err flaw
unfolding record_at
record_refused alone before bytes at head flaw h c = rw (h, c) refl

-- A record whose fields and rows were checked asks of the next one what they say.
pub record_checked : (alone : Bool) (before : Option Behind) (bytes : List ℕ) (at rows position txid : ℕ) (head : Head)
    → head_at alone before bytes at ≡ Ok head → content_rows_at head bytes (at + 20) ≡ Ok rows
    → position ≡ head.position + rows → txid ≡ head.txid → behind_at alone before bytes at ≡ Ok (asks position txid, head.end)
record_checked alone before bytes at rows position txid head h e counts t =
    let u = bind_ok (content_at head bytes (at + 20)) (λ stored. Ok (rows_in stored)) rows e in
    let is = content_is head.kind head.position head.txid bytes (at + 20) head.end u.0 u.1 in
    let same : behind_of u.0 ≡ asks position txid =
    ap₂ (λ (p t : ℕ). asks p t) (ap₂ (λ (p n : ℕ). p + n) is.position (ok_is (rows_in u.0) rows u.2) ∙ sym counts) (is.txid ∙ sym t) in
    record_read alone before bytes at head u.0 h u.1 ∙ ap (λ (b : Behind). Ok (b, head.end)) same

-- A flaw among the rows is the flaw of the record.
pub record_stops : (alone : Bool) (before : Option Behind) (bytes : List ℕ) (at : ℕ) (head : Head) (flaw : EntryFlaw)
    → head_at alone before bytes at ≡ Ok head → content_rows_at head bytes (at + 20) ≡ Err flaw
    → behind_at alone before bytes at ≡ Err flaw
record_stops alone before bytes at head flaw h e = record_refused alone before bytes at head flaw h (kept_flaw (content_at head bytes (at + 20)) rows_in flaw e)

-- A flaw of the fields is the flaw of the record.
pub record_has_no_head : (alone : Bool) (before : Option Behind) (bytes : List ℕ) (at : ℕ) (flaw : EntryFlaw)
    → head_at alone before bytes at ≡ Err flaw → behind_at alone before bytes at ≡ Err flaw
unfolding record_at
record_has_no_head alone before bytes at flaw h = rw h refl

-- ---- the records

-- Behind a record that is read, the verdict is that on the records behind it.
records_more : (n : ℕ) (alone : Bool) (before : Option Behind) (bytes : List ℕ) (at : ℕ) (x : Stored × ℕ) → record_at alone before bytes at ≡ Ok x
    → verdict (records_at (suc n) alone before bytes at) ≡ verdict (records_at n alone (Some (behind_of x.0)) bytes x.1)
unfolding records_at
records_more n alone before bytes at x h = rw h (verdict_more x.0 (records_at n alone (Some (behind_of x.0)) bytes x.1))

-- A flaw of the first record is the flaw of them all.
records_fail : (n : ℕ) (alone : Bool) (before : Option Behind) (bytes : List ℕ) (at : ℕ) (flaw : EntryFlaw)
    → record_at alone before bytes at ≡ Err flaw → verdict (records_at (suc n) alone before bytes at) ≡ Err flaw
unfolding records_at
records_fail n alone before bytes at flaw h = rw h refl

-- How many are left falls by one.
next_count : (count i : ℕ) → i < count → count - i ≡ suc (count - (i + 1))
next_count count i lt = omega arith

-- Behind a record that was checked, the verdict is that on the records behind it.
pub records_checked_on : (count i : ℕ) (alone : Bool) (before : Option Behind) (bytes : List ℕ) (at : ℕ) (x : Behind × ℕ)
    (total : Result (Unit {0}) EntryFlaw) → i < count
    → behind_at alone before bytes at ≡ Ok x → verdict (records_at (count - i) alone before bytes at) ≡ total
    → verdict (records_at (count - (i + 1)) alone (Some x.0) bytes x.1) ≡ total
records_checked_on count i alone before bytes at x total lt h so_far =
    let u = bind_ok (record_at alone before bytes at) (λ first. Ok (behind_of first.0, first.1)) x h in
    ap (λ (y : Behind × ℕ). verdict (records_at (count - (i + 1)) alone (Some y.0) bytes y.1)) (sym (ok_is (behind_of u.0.0, u.0.1) x u.2))
    ∙ sym (records_more (count - (i + 1)) alone before bytes at u.0 u.1)
    ∙ ap (λ (n : ℕ). verdict (records_at n alone before bytes at)) (sym (next_count count i lt))
    ∙ so_far

-- A record that has a flaw is the flaw of them all.
pub records_checked_stop : (count i : ℕ) (alone : Bool) (before : Option Behind) (bytes : List ℕ) (at : ℕ) (flaw : EntryFlaw)
    (total : Result (Unit {0}) EntryFlaw) → i < count
    → behind_at alone before bytes at ≡ Err flaw → verdict (records_at (count - i) alone before bytes at) ≡ total → total ≡ Err flaw
records_checked_stop count i alone before bytes at flaw total lt h so_far =
    sym so_far
    ∙ ap (λ (n : ℕ). verdict (records_at n alone before bytes at)) (next_count count i lt)
    ∙ records_fail (count - (i + 1)) alone before bytes at flaw (kept_flaw (record_at alone before bytes at) (λ first. (behind_of first.0, first.1)) flaw h)

-- Behind the last record the verdict is whether the bytes end there.
records_checked : (count i : ℕ) (alone : Bool) (before : Option Behind) (bytes : List ℕ) (at : ℕ) (total : Result (Unit {0}) EntryFlaw) → count ≤ i
    → verdict (records_at (count - i) alone before bytes at) ≡ total → total ≡ ended at bytes
unfolding records_at
records_checked count i alone before bytes at total le so_far =
    let k : count - i ≡ 0 = omega arith in
    sym so_far ∙ ap (λ (n : ℕ). verdict (records_at n alone before bytes at)) k ∙ verdict_end (eqb at (length bytes)) (Long at) []

-- Records behind which the bytes end have no flaw.
pub records_checked_all : (count i : ℕ) (alone : Bool) (before : Option Behind) (bytes : List ℕ) (at : ℕ) (total : Result (Unit {0}) EntryFlaw)
    → count ≤ i → at ≡ length bytes
    → verdict (records_at (count - i) alone before bytes at) ≡ total → total ≡ Ok tt
records_checked_all count i alone before bytes at total le e so_far = records_checked count i alone before bytes at total le so_far ∙ ended_there at bytes e

-- Records behind which bytes are left over have that flaw.
pub records_checked_long : (count i : ℕ) (alone : Bool) (before : Option Behind) (bytes : List ℕ) (at : ℕ) (total : Result (Unit {0}) EntryFlaw)
    → count ≤ i → (at ≡ length bytes → ⊥)
    → verdict (records_at (count - i) alone before bytes at) ≡ total → total ≡ Err (Long at)
records_checked_long count i alone before bytes at total le e so_far = records_checked count i alone before bytes at total le so_far ∙ goes_on at bytes e

-- Reading members or stored records one after the other, as a loop does.
use Rattle.std.proofs.Common.{◌≡◌, ℕ, suc, ◌-◌, ◌+◌, ◌≤◌, ◌<◌, Bool, cond, eqb, Option, Some, None, List, [], ◌∷◌, ◌++◌}
use Rattle.std.proofs.Common.{length, Result, Ok, Err, refl, sym, ap, subst, ◌∙◌, append_assoc, arith, true, false}
use Rattle.std.specs.Prelude.{slice_range, IfSome}
use Rattle.std.proofs.lemmas.List.{append-nil}
use Rattle.std.proofs.lemmas.Bool.{eq-eqb, ne_eqb}
use Rattle.dl_record.specs.declared.entry_fault.EntryFault.{EntryFault}
use Rattle.dl_record.specs.declared.entry_flaw.EntryFlaw.{EntryFlaw}
use Rattle.dl_record.specs.declared.kind.Behind.{Behind}
use Rattle.dl_record.specs.Flaws.{flaw_of}
use Rattle.dl_record.specs.declared.entry_flaw.EntryFlaw.TheVariants.{Long}
use Rattle.dl_record.specs.declared.stored.Stored.{Stored}
use Rattle.dl_record.specs.Reading.{◌>>=◌, FaultBy, behind_of, member_end_at, members_at, record_at, records_at}

-- what was read before, and what is still read
abbrev pub with_front : {A : Type 0} → List A → Result (List A) EntryFlaw → Result (List A) EntryFlaw
with_front front read = read >>= λ xs. Ok (front ++ xs)

-- A thing read first stands at the end of those before.
regroup : {A : Type 0} (front : List A) (x : A) (read : Result (List A) EntryFlaw)
    → with_front front (read >>= λ xs. Ok (x ∷ xs)) ≡ with_front (front ++ x ∷ []) read
regroup {A = A} front x (Ok xs) = ap (λ (ys : List A). Ok ys) (sym (append_assoc front (x ∷ []) xs))
regroup front x (Err flaw) = refl

-- where one reading fails so does the other
pub fails_too : {Y Z : Type 0} (fault : EntryFault) (one : Result Y EntryFlaw) (other : Result Z EntryFlaw)
    → ((flaw : EntryFlaw) → one ≡ Err flaw → other ≡ Err flaw) → FaultBy flaw_of fault one → FaultBy flaw_of fault other
fails_too {Y} {Z} fault one other h = go (flaw_of fault)
  where
    go : (o : Option EntryFlaw) → IfSome o (λ flaw. one ≡ Err flaw) → IfSome o (λ flaw. other ≡ Err flaw)
    go None f = tt
    go (Some flaw) f = h flaw f

-- what an error that a flaw became tells
pub fails_is : {Z : Type 0} (fault : EntryFault) (flaw : EntryFlaw) (read : Result Z EntryFlaw) → flaw_of fault ≡ Some flaw → read ≡ Err flaw
    → FaultBy flaw_of fault read
fails_is {Z} fault flaw read is e = subst (λ (o : Option EntryFlaw). IfSome o (λ flaw. read ≡ Err flaw)) (sym is) e

-- ---- members

-- A member that ends stands behind those before, and the others are still to be read.
pub members_go_on : (front : List (List ℕ)) (count i : ℕ) (bytes : List ℕ) (at end : ℕ) (total : Result (List (List ℕ)) EntryFlaw) → i < count
    → member_end_at bytes at ≡ Ok end
    → with_front front (members_at (count - i) bytes at) ≡ total
    → with_front (front ++ slice_range bytes (at + 4) end ∷ []) (members_at (count - (i + 1)) bytes end) ≡ total
unfolding members_at
members_go_on front count i bytes at end total lt h so_far =
    let k : count - i ≡ suc (count - (i + 1)) = omega arith in
    let one : with_front front (members_at (count - i) bytes at) ≡ with_front (front ++ slice_range bytes (at + 4) end ∷ [])
    (members_at (count - (i + 1)) bytes end) = rw (k, h) (regroup front (slice_range bytes (at + 4) end) (members_at (count - (i + 1)) bytes end)) in
    sym one ∙ so_far

-- A flaw of a member is the flaw of them all.
pub members_end : (fault : EntryFault) (flaw : EntryFlaw) (front : List (List ℕ)) (count i : ℕ) (bytes : List ℕ) (at : ℕ)
    (total : Result (List (List ℕ)) EntryFlaw) → flaw_of fault ≡ Some flaw → i < count → member_end_at bytes at ≡ Err flaw
    → with_front front (members_at (count - i) bytes at) ≡ total → FaultBy flaw_of fault total
unfolding members_at
members_end fault flaw front count i bytes at total is lt failed so_far =
    let k : count - i ≡ suc (count - (i + 1)) = omega arith in
    let one : with_front front (members_at (count - i) bytes at) ≡ Err flaw = rw (k, failed) refl in
    fails_is fault flaw total is (sym so_far ∙ one)

-- Behind the last member the result is those that were read, where the bytes end there.
pub members_are_all : (front : List (List ℕ)) (count i : ℕ) (bytes : List ℕ) (at : ℕ) (total : Result (List (List ℕ)) EntryFlaw) → count ≤ i
    → with_front front (members_at (count - i) bytes at) ≡ total → total ≡ cond (eqb at (length bytes)) (Ok front) (Err (Long at))
unfolding members_at
members_are_all front count i bytes at total le so_far =
    let k : count - i ≡ 0 = omega arith in
    let one : with_front front (members_at (count - i) bytes at) ≡ cond (eqb at (length bytes)) (Ok front) (Err (Long at)) =
    rw k (elim (eqb at (length bytes)) as (λ t. with_front front (cond t (Ok []) (Err (Long at))) ≡ cond t (Ok front) (Err (Long at)))
    [ true ↦ ap (λ (xs : List (List ℕ)). Ok xs) (append-nil front) | false ↦ refl ]) in
    sym so_far ∙ one

-- Where the bytes end, the result is the members that were read.
pub members_done : (front : List (List ℕ)) (count i : ℕ) (bytes : List ℕ) (at : ℕ) (total : Result (List (List ℕ)) EntryFlaw) → count ≤ i
    → at ≡ length bytes → with_front front (members_at (count - i) bytes at) ≡ total → total ≡ Ok front
members_done front count i bytes at total le ends so_far = members_are_all front count i bytes at total le so_far ∙ rw (eq-eqb at (length bytes) ends) refl

-- Where bytes are left over, that is the flaw.
pub members_too_long : (front : List (List ℕ)) (count i : ℕ) (bytes : List ℕ) (at : ℕ) (total : Result (List (List ℕ)) EntryFlaw) → count ≤ i
    → (at ≡ length bytes → ⊥) → with_front front (members_at (count - i) bytes at) ≡ total → total ≡ Err (Long at)
members_too_long front count i bytes at total le goes_on so_far =
    let test : eqb at (length bytes) ≡ false = ne_eqb at (length bytes) goes_on in
    members_are_all front count i bytes at total le so_far ∙ rw test refl

-- ---- stored records

-- A record that is read stands behind those before, and the others are still to be read.
pub records_go_on : (front : List Stored) (count i : ℕ) (alone : Bool) (before : Option Behind) (bytes : List ℕ) (at end : ℕ) (r : Stored)
    (total : Result (List Stored) EntryFlaw) → i < count
    → record_at alone before bytes at ≡ Ok (r, end) → with_front front (records_at (count - i) alone before bytes at) ≡ total
    → with_front (front ++ r ∷ []) (records_at (count - (i + 1)) alone (Some (behind_of r)) bytes end) ≡ total
unfolding records_at
records_go_on front count i alone before bytes at end r total lt h so_far =
    let k : count - i ≡ suc (count - (i + 1)) = omega arith in
    let rest = records_at (count - (i + 1)) alone (Some (behind_of r)) bytes end in
    let one : with_front front (records_at (count - i) alone before bytes at) ≡ with_front (front ++ r ∷ []) rest = rw (k, h) (regroup front r rest) in
    sym one ∙ so_far

-- A fault of a record is the fault of them all.
pub records_end : (fault : EntryFault) (front : List Stored) (count i : ℕ) (alone : Bool) (before : Option Behind) (bytes : List ℕ) (at : ℕ)
    (total : Result (List Stored) EntryFlaw) → i < count
    → FaultBy flaw_of fault (record_at alone before bytes at) → with_front front (records_at (count - i) alone before bytes at) ≡ total
    → FaultBy flaw_of fault total
unfolding records_at
records_end fault front count i alone before bytes at total lt failed so_far =
    let k : count - i ≡ suc (count - (i + 1)) = omega arith in
    fails_too fault (record_at alone before bytes at) total (λ flaw h.
    let one : with_front front (records_at (count - i) alone before bytes at) ≡ Err flaw = rw (k, h) refl in
    sym so_far ∙ one) failed

-- Behind the last record the result is those that were read, where the bytes end there.
pub records_are_all : (front : List Stored) (count i : ℕ) (alone : Bool) (before : Option Behind) (bytes : List ℕ) (at : ℕ)
    (total : Result (List Stored) EntryFlaw) → count ≤ i
    → with_front front (records_at (count - i) alone before bytes at) ≡ total → total ≡ cond (eqb at (length bytes)) (Ok front) (Err (Long at))
unfolding records_at
records_are_all front count i alone before bytes at total le so_far =
    let k : count - i ≡ 0 = omega arith in
    let one : with_front front (records_at (count - i) alone before bytes at) ≡ cond (eqb at (length bytes)) (Ok front) (Err (Long at)) =
    rw k (elim (eqb at (length bytes)) as (λ t. with_front front (cond t (Ok []) (Err (Long at))) ≡ cond t (Ok front) (Err (Long at)))
    [ true ↦ ap (λ (xs : List Stored). Ok xs) (append-nil front) | false ↦ refl ]) in
    sym so_far ∙ one

-- Where the bytes end, the result is the records that were read.
pub records_done : (front : List Stored) (count i : ℕ) (alone : Bool) (before : Option Behind) (bytes : List ℕ) (at : ℕ)
    (total : Result (List Stored) EntryFlaw) → count ≤ i
    → at ≡ length bytes → with_front front (records_at (count - i) alone before bytes at) ≡ total → total ≡ Ok front
records_done front count i alone before bytes at total le ends so_far =
    records_are_all front count i alone before bytes at total le so_far ∙ rw (eq-eqb at (length bytes) ends) refl

-- Where bytes are left over, that is the flaw.
pub records_too_long : (front : List Stored) (count i : ℕ) (alone : Bool) (before : Option Behind) (bytes : List ℕ) (at : ℕ)
    (total : Result (List Stored) EntryFlaw) → count ≤ i
    → (at ≡ length bytes → ⊥) → with_front front (records_at (count - i) alone before bytes at) ≡ total → total ≡ Err (Long at)
records_too_long front count i alone before bytes at total le goes_on so_far =
    let test : eqb at (length bytes) ≡ false = ne_eqb at (length bytes) goes_on in
    records_are_all front count i alone before bytes at total le so_far ∙ rw test refl

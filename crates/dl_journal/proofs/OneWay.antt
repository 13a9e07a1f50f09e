-- Batches behind gates are spelled in one way.
use Rattle.std.proofs.Common.{◌≡◌, ◌≢◌, ◌⊎◌, inl, inr, ℕ, ◌+◌, ◌≤◌, ◌<◌, ◌^◌, List, [], ◌∷◌, ◌++◌, length, drop, take, Option, Some}
use Rattle.std.proofs.Common.{Bool, true, false, ◌==◌, ◌&&◌, nat_le, sym, ◌∙◌, ap, subst, refl, arith, append_assoc, length-append}
use Rattle.std.specs.Int.{w32, w64, to_be_bytes, from_be_bytes}
use Rattle.std.proofs.lemmas.Nat.{from_be_bytes-to_be_bytes_4, from_be_bytes-to_be_bytes_8}
use Rattle.std.proofs.lemmas.Bool.Decides.{nat_tests}
use Rattle.std.proofs.lemmas.List.{take_at, drop_at, append_cancel_left}
use Rattle.dl_journal.specs.declared.batch.Batch.{Batch}
use Rattle.dl_journal.specs.Limits.{last_number, gate_size}
use Rattle.dl_journal.specs.Batches.{magic, frame_of, spell, Runs, InForce}
use Rattle.dl_journal.specs.Reading.{number_of, size_of, due_of, is_due, BadNumber, BadLength, Fault, IsBroken, Breaks}
use Rattle.dl_journal.proofs.Bytes.{length-framed}

-- a batch's number is spelled in 8 bytes
length-number : (n : ℕ) → length (to_be_bytes w64 n) ≡ 8
length-number n = refl

-- a body's length is spelled in 4 bytes
length-size : (n : ℕ) → length (to_be_bytes w32 n) ≡ 4
length-size n = refl

-- what a frame begins with
number_is : (n : ℕ) (body rest : List ℕ) → n ≤ last_number → number_of (frame_of n body ++ rest) ≡ n
unfolding frame_of number_of
number_is n body rest most =
    ap (λ (l : List ℕ). from_be_bytes w64 (take 8 l)) (append_assoc (to_be_bytes w64 n) (to_be_bytes w32 (length body) ++ body) rest)
    ∙ ap (λ (l : List ℕ). from_be_bytes w64 l) (take_at (to_be_bytes w64 n) ((to_be_bytes w32 (length body) ++ body) ++ rest) 8 (length-number n))
    ∙ from_be_bytes-to_be_bytes_8 n (omega (arith, most))

-- the length that a frame spells is its body's
size_is : (n : ℕ) (body rest : List ℕ) → length body < 2 ^ 32 → size_of (frame_of n body ++ rest) ≡ length body
unfolding frame_of size_of
size_is n body rest short =
    ap (λ (l : List ℕ). from_be_bytes w32 (take 4 (drop 8 l))) (append_assoc (to_be_bytes w64 n) (to_be_bytes w32 (length body) ++ body) rest)
    ∙ ap (λ (l : List ℕ). from_be_bytes w32 (take 4 l)) (drop_at (to_be_bytes w64 n) ((to_be_bytes w32 (length body) ++ body) ++ rest) 8 (length-number n))
    ∙ ap (λ (l : List ℕ). from_be_bytes w32 (take 4 l)) (append_assoc (to_be_bytes w32 (length body)) body rest)
    ∙ ap (λ (l : List ℕ). from_be_bytes w32 l) (take_at (to_be_bytes w32 (length body)) (body ++ rest) 4 (length-size (length body)))
    ∙ from_be_bytes-to_be_bytes_4 (length body) short

-- the bytes behind the head of a frame, as many as its body has, are the body
pub body_is : (n : ℕ) (body rest : List ℕ) → take (length body) (drop 12 (frame_of n body ++ rest)) ≡ body
unfolding frame_of
body_is n body rest =
    ap (λ (l : List ℕ). take (length body) (drop 12 (l ++ rest))) (sym (append_assoc (to_be_bytes w64 n) (to_be_bytes w32 (length body)) body))
    ∙ ap (λ (l : List ℕ). take (length body) (drop 12 l)) (append_assoc (to_be_bytes w64 n ++ to_be_bytes w32 (length body)) body rest)
    ∙ ap (λ (l : List ℕ). take (length body) l) (drop_at (to_be_bytes w64 n ++ to_be_bytes w32 (length body)) (body ++ rest) 12 refl)
    ∙ take_at body rest (length body) refl

-- what comes behind the body of a frame is what stands behind the frame
rest_is : (n : ℕ) (body rest : List ℕ) → drop (12 + length body) (frame_of n body ++ rest) ≡ rest
rest_is n body rest = drop_at (frame_of n body) rest (12 + length body) (length-framed n body)

-- a batch whose number and whose body's length fit their fields
abbrev InRange : Batch → Type 0
InRange b = (b.number ≤ last_number) × (length b.body < 2 ^ 32)

-- a frame is read in one way
pub record OneFrame (a b : Batch) (r s : List ℕ) : Type 0 where
  pub batch : a ≡ b
  pub rest : r ≡ s

-- two frames with the same bytes are one, and the same stands behind them
one_frame : (a b : Batch) (r s : List ℕ) → InRange a → InRange b → frame_of a.number a.body ++ r ≡ frame_of b.number b.body ++ s → OneFrame a b r s
one_frame a b r s of_a of_b same =
    let number : a.number ≡ b.number = sym (number_is a.number a.body r of_a.0) ∙ ap number_of same ∙ number_is b.number b.body s of_b.0 in
    let size : length a.body ≡ length b.body = sym (size_is a.number a.body r of_a.1) ∙ ap size_of same ∙ size_is b.number b.body s of_b.1 in
    let body : a.body ≡ b.body = sym (body_is a.number a.body r) ∙ ap (λ (l : List ℕ). take (length a.body) (drop 12 l)) same
    ∙ ap (λ (n : ℕ). take n (drop 12 (frame_of b.number b.body ++ s))) size ∙ body_is b.number b.body s in
    record {
      batch =
          ap (λ (n : ℕ). let x : Batch = record { number = n; body = a.body } in x) number
          ∙ ap (λ (l : List ℕ). let x : Batch = record { number = b.number; body = l } in x) body;
      rest =
          sym (rest_is a.number a.body r) ∙ ap (λ (l : List ℕ). drop (12 + length a.body) l) same
          ∙ ap (λ (n : ℕ). drop (12 + n) (frame_of b.number b.body ++ s)) size ∙ rest_is b.number b.body s;
    }

-- of two readings one goes on where the other ends
pub record Longer (x y : List Batch) (r s : List ℕ) : Type 0 where
  pub next : Batch
  pub more : List Batch
  pub whole : y ≡ x ++ next ∷ more
  pub rest : r ≡ 1 ∷ (frame_of next.number next.body ++ (spell more ++ s))

-- two readings are one, or one goes on where the other ends
abbrev Compared : List Batch → List Batch → List ℕ → List ℕ → Type 0
Compared x y r s = ((x ≡ y) × (r ≡ s)) ⊎ (Longer x y r s ⊎ Longer y x s r)

-- two lists of batches that spell the same bytes are one, or one goes on where the other ends
compared : (m n : ℕ) (x y : List Batch) (r s : List ℕ) → Runs m x → Runs n y → spell x ++ r ≡ spell y ++ s → Compared x y r s
compared m n [] [] r s of_x of_y same = inl (refl, same)
compared m n [] (b ∷ y) r s of_x of_y same =
    inr (inl (record { next = b; more = y; whole = refl; rest = same ∙ ap (λ (l : List ℕ). 1 ∷ l) (append_assoc (frame_of b.number b.body) (spell y) s) }))
compared m n (a ∷ x) [] r s of_x of_y same =
    inr (inr (record { next = a; more = x; whole = refl; rest = sym same ∙ ap (λ (l : List ℕ). 1 ∷ l) (append_assoc (frame_of a.number a.body) (spell x) r) }))
compared m n (a ∷ x) (b ∷ y) r s of_x of_y same =
    let tails : (frame_of a.number a.body ++ spell x) ++ r ≡ (frame_of b.number b.body ++ spell y) ++ s = cc in
    let frames : frame_of a.number a.body ++ (spell x ++ r) ≡ frame_of b.number b.body ++ (spell y ++ s) =
    sym (append_assoc (frame_of a.number a.body) (spell x) r) ∙ tails ∙ append_assoc (frame_of b.number b.body) (spell y) s in
    let a_range : InRange a = (subst (λ (k : ℕ). k ≤ last_number) (sym of_x.0) of_x.1.0, of_x.1.1.0) in
    let b_range : InRange b = (subst (λ (k : ℕ). k ≤ last_number) (sym of_y.0) of_y.1.0, of_y.1.1.0) in
    let one = one_frame a b (spell x ++ r) (spell y ++ s) a_range b_range frames in
    elim (compared (m + 1) (n + 1) x y r s of_x.1.1.1 of_y.1.1.1 one.rest) [
      | inl both ↦ inl (ap (λ (l : List Batch). a ∷ l) both.0 ∙ ap (λ (c : Batch). c ∷ y) one.batch, both.1)
      | inr (inl l) ↦ inr (inl (record {
        next = l.next;
        more = l.more;
        whole = ap (λ (z : List Batch). b ∷ z) l.whole
            ∙ ap (λ (c : Batch). c ∷ (x ++ l.next ∷ l.more)) (sym one.batch);
        rest = l.rest;
      }))
      | inr (inr l) ↦ inr (inr (record {
        next = l.next;
        more = l.more;
        whole = ap (λ (z : List Batch). a ∷ z) l.whole
            ∙ ap (λ (c : Batch). c ∷ (y ++ l.next ∷ l.more)) one.batch;
        rest = l.rest;
      }))
    ]

-- two readings of the same bytes
of_bytes : (bytes : List ℕ) (m n : ℕ) (x y : List Batch) (r s : List ℕ) → Runs m x → Runs n y → bytes ≡ magic ++ (spell x ++ r)
    → bytes ≡ magic ++ (spell y ++ s) → Compared x y r s
of_bytes bytes m n x y r s of_x of_y as_x as_y = compared m n x y r s of_x of_y (append_cancel_left magic (spell x ++ r) (spell y ++ s) (sym as_x ∙ as_y))

-- a shut gate opens no batch
shut_ends : (x y : List Batch) (gate : ℕ) (free s : List ℕ) → gate ≢ 1 → Longer x y (gate ∷ free) s → ⊥
shut_ends x y gate free s shut l = let head = l.rest in shut cc

-- the batches in force in a file are one list
pub one_list : (bytes : List ℕ) (x y : List Batch) → InForce bytes x → InForce bytes y → x ≡ y
one_list bytes x y p q =
    elim (of_bytes bytes p.first q.first x y (p.spells.gate ∷ p.spells.free) (q.spells.gate ∷ q.spells.free) p.runs q.runs p.spells.spelled q.spells.spelled) [
      | inl both ↦ both.0
      | inr (inl l) ↦ absurd (shut_ends x y p.spells.gate p.spells.free _ p.spells.shut l)
      | inr (inr l) ↦ absurd (shut_ends y x q.spells.gate q.spells.free _ q.spells.shut l)
    ]

-- a batch that comes next is due
due_next : (m n : ℕ) (y : List Batch) (b : Batch) (z : List Batch) → Runs m (y ++ b ∷ z) → Runs n y → is_due (due_of n y) b.number ≡ true
due_next m n [] b z runs of_y = less_true b.number (subst (λ (k : ℕ). k ≤ last_number) (sym runs.0) runs.1.0)
  where
    less_true : (k : ℕ) → k ≤ last_number → nat_le k last_number ≡ true
    less_true k less = grind (arith, nat_tests)
due_next m n (c ∷ y) b z runs of_y =
    let two = at_place (m + 1) y runs.1.1.1 in
    let first : m ≡ n = sym runs.0 ∙ of_y.0 in
    both b.number (n + length (c ∷ y)) (omega (arith, two.0, first)) two.1
  where
    at_place : (k : ℕ) (y : List Batch) → Runs k (y ++ b ∷ z) → (b.number ≡ k + length y) × (b.number ≤ last_number)
    at_place k [] runs = (omega (arith, runs.0), subst (λ (i : ℕ). i ≤ last_number) (sym runs.0) runs.1.0)
    at_place k (d ∷ y) runs = let two = at_place (k + 1) y runs.1.1.1 in (omega (arith, two.0), two.1)

    both : (k d : ℕ) → k ≡ d → k ≤ last_number → ((k == d) && nat_le k last_number) ≡ true
    both k d same less = grind (arith, nat_tests)

-- its length is in range
short_next : (m : ℕ) (y : List Batch) (b : Batch) (z : List Batch) → Runs m (y ++ b ∷ z) → InRange b
short_next m [] b z runs = (subst (λ (k : ℕ). k ≤ last_number) (sym runs.0) runs.1.0, runs.1.1.0)
short_next m (c ∷ y) b z runs = short_next (m + 1) y b z runs.1.1.1

-- no fault lies where a batch does
no_fault : (due : Option ℕ) (more : List ℕ) (place : ℕ) (b : Batch) (rest : List ℕ) → InRange b → is_due due b.number ≡ true
    → more ≡ frame_of b.number b.body ++ rest → Fault due more place → ⊥
no_fault due more place b rest range due_is is (inl f) = elim f.0.bad [
  | inl short ↦ omega (arith, short, ap length is, length-append (frame_of b.number b.body) rest, length-framed b.number b.body)
  | inr undue ↦ let number =
      ap number_of is ∙ number_is b.number b.body rest range.0 in clash (is_due due (number_of more)) undue (ap (λ (n : ℕ). is_due due n) number ∙ due_is)
]
  where
    clash : (b : Bool) → b ≡ false → b ≡ true → ⊥
    clash b p q = absurd (cc (p, q))
no_fault due more place b rest range due_is is (inr f) =
    let long : length more ≡ 12 + length b.body + length rest =
    omega (arith, ap length is, length-append (frame_of b.number b.body) rest, length-framed b.number b.body) in
    let size : size_of more ≡ length b.body = ap size_of is ∙ size_is b.number b.body rest range.1 in
    elim f.0.bad [
      | inl short ↦ omega (arith, short, long)
      | inr short ↦ omega (arith, short, long, size)
    ]

-- a fault behind some batches rules out that more batches are spelled there
longer_no_fault : (bytes : List ℕ) (at m : ℕ) (x : List Batch) (s : List ℕ) (q : IsBroken bytes at) → Runs m x → Longer q.batches x q.rest s → ⊥
longer_no_fault bytes at m x s q runs l = elim q.fault [
  | inl none ↦ let a = l.rest in let b = none.0 in absurd cc
  | inr f ↦
      let whole : Runs m (q.batches ++ l.next ∷ l.more) = subst (λ (z : List Batch). Runs m z) l.whole runs in
      let is : f.0 ≡ frame_of l.next.number l.next.body ++ (spell l.more ++ s) = (let a = f.1 in let b = l.rest in cc) in
      no_fault (due_of q.first q.batches) f.0 f.2.0 l.next (spell l.more ++ s) (short_next m q.batches l.next l.more whole)
      (due_next m q.first q.batches l.next l.more whole q.runs) is f.2.1
]

-- bytes that begin with the magic ones don't begin otherwise
has_magic : (bytes rest : List ℕ) → bytes ≡ magic ++ rest → take 8 bytes ≢ magic → ⊥
has_magic bytes rest is other = other (ap (λ (l : List ℕ). take 8 l) is ∙ take_at magic rest 8 refl)

-- a file with batches in force has no fault
pub not_both : (bytes : List ℕ) (x : List Batch) (at : ℕ) → InForce bytes x → Breaks bytes at → ⊥
not_both bytes x at p (inl f) = has_magic bytes _ p.spells.spelled f.0
not_both bytes x at p (inr q) =
    elim (of_bytes bytes p.first q.first x q.batches (p.spells.gate ∷ p.spells.free) q.rest p.runs q.runs p.spells.spelled q.spelled) [
      | inl both ↦ elim q.fault [
        | inl none ↦ let a = both.1 in let b = none.0 in absurd cc
        | inr f ↦ let a = both.1 in let b = f.1 in p.spells.shut cc
      ]
      | inr (inl l) ↦ shut_ends x q.batches p.spells.gate p.spells.free q.rest p.spells.shut l
      | inr (inr l) ↦ longer_no_fault bytes at p.first x (p.spells.gate ∷ p.spells.free) q p.runs l
    ]

-- a fault behind one open gate has one place
one_fault : (due : Option ℕ) (more : List ℕ) (i j : ℕ) → Fault due more i → Fault due more j → i ≡ j
one_fault due more i j (inl f) (inl g) = f.1 ∙ sym g.1
one_fault due more i j (inr f) (inr g) = f.1 ∙ sym g.1
one_fault due more i j (inl f) (inr g) = absurd (apart due more f.0 g.0)
  where
    apart : (due : Option ℕ) (more : List ℕ) → BadNumber due more → BadLength due more → ⊥
    apart due more f g = elim f.bad [ inl short ↦ omega (arith, short, g.whole) | inr undue ↦ let is = g.number in absurd (cc (undue, is)) ]
one_fault due more i j (inr f) (inl g) = sym (one_fault_turned due more j i g f)
  where
    one_fault_turned : (due : Option ℕ) (more : List ℕ) (i j : ℕ) → BadNumber due more × (i ≡ 0) → BadLength due more × (j ≡ 8) → i ≡ j
    one_fault_turned due more i j f g =
        elim f.0.bad [ inl short ↦ absurd (omega (arith, short, g.0.whole)) | inr undue ↦ let is = g.0.number in absurd (cc (undue, is)) ]

-- after the same batches the same number is due
same_due : (m n : ℕ) (x : List Batch) → Runs m x → Runs n x → due_of m x ≡ due_of n x
same_due m n [] p q = refl
same_due m n (b ∷ x) p q = ap (λ (k : ℕ). Some (k + length (b ∷ x))) (sym p.0 ∙ q.0)

-- a file has a fault at one place at most
pub one_place : (bytes : List ℕ) (m n : ℕ) → Breaks bytes m → Breaks bytes n → m ≡ n
one_place bytes m n (inl f) (inl g) = f.1 ∙ sym g.1
one_place bytes m n (inl f) (inr q) = absurd (has_magic bytes _ q.spelled f.0)
one_place bytes m n (inr p) (inl g) = absurd (has_magic bytes _ p.spelled g.0)
one_place bytes m n (inr p) (inr q) = elim (of_bytes bytes p.first q.first p.batches q.batches p.rest q.rest p.runs q.runs p.spelled q.spelled) [
  | inl both ↦ same both.0 both.1 p.fault q.fault
  | inr (inl l) ↦ absurd (longer_no_fault bytes m q.first q.batches q.rest p q.runs l)
  | inr (inr l) ↦ absurd (longer_no_fault bytes n p.first p.batches p.rest q p.runs l)
]
  where
    size : p.batches ≡ q.batches → length (spell p.batches) ≡ length (spell q.batches)
    size e = ap (λ (l : List Batch). length (spell l)) e

    same : p.batches ≡ q.batches → p.rest ≡ q.rest
        → ((p.rest ≡ []) × (m ≡ length magic + length (spell p.batches)))
        ⊎ ((more : List ℕ) × (p.rest ≡ 1 ∷ more) × ((place : ℕ) × Fault (due_of p.first p.batches) more place
        × (m ≡ length magic + length (spell p.batches) + gate_size + place)))
        → ((q.rest ≡ []) × (n ≡ length magic + length (spell q.batches)))
        ⊎ ((more : List ℕ) × (q.rest ≡ 1 ∷ more) × ((place : ℕ) × Fault (due_of q.first q.batches) more place
        × (n ≡ length magic + length (spell q.batches) + gate_size + place)))
        → m ≡ n
    same e r (inl f) (inl g) = omega (arith, f.1, g.1, size e)
    same e r (inl f) (inr g) = let a = f.0 in let b = g.1 in absurd cc
    same e r (inr f) (inl g) = let a = f.1 in let b = g.0 in absurd cc
    same e r (inr f) (inr g) =
        let more : f.0 ≡ g.0 = (let a = f.1 in let b = g.1 in cc) in
        let due : due_of p.first p.batches ≡ due_of q.first q.batches =
        same_due p.first q.first p.batches p.runs (subst (λ (l : List Batch). Runs q.first l) (sym e) q.runs) ∙ ap (λ (l : List Batch). due_of q.first l) e in
        let there : Fault (due_of q.first q.batches) g.0 f.2.0 =
        subst (λ (d : Option ℕ). Fault d g.0 f.2.0) due (subst (λ (l : List ℕ). Fault (due_of p.first p.batches) l f.2.0) more f.2.1) in
        omega (arith, f.2.2, g.2.2, size e, one_fault (due_of q.first q.batches) g.0 f.2.0 g.2.0 there g.2.1)

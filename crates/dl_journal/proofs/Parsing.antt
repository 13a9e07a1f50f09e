-- Reading batch by batch.
use Rattle.std.proofs.Common.{◌≡◌, ◌≢◌, ℕ, ◌+◌, ◌-◌, ◌≤◌, ◌<◌, ◌^◌, List, [], ◌∷◌, ◌++◌, length, drop, take, get_or, Option, Some, Bool}
use Rattle.std.proofs.Common.{true, false, ◌==◌, ◌&&◌, nat_le, sym, ◌∙◌, ap, subst, refl, arith, length-append, length-take, length-drop}
use Rattle.std.specs.Option.{unwrap_or}
use Rattle.std.proofs.lemmas.Bool.Decides.{nat_tests}
use Rattle.std.proofs.lemmas.List.{drop-drop, drop_more}
use Rattle.dl_journal.specs.declared.batch.Batch.{Batch}
use Rattle.dl_journal.specs.Limits.{journal_limit, last_number}
use Rattle.dl_journal.specs.Batches.{magic, frame_of, spell, Runs, InRow}
use Rattle.dl_journal.specs.Reading.{number_of, size_of, due_of, is_due, IsFramed, Holds}
use Rattle.dl_journal.proofs.Bytes.{spell-push, runs-push, length-framed, length-push}
use Rattle.dl_journal.proofs.Framing.{AreBytes, unframed, small_size}

-- of two facts that hold together each holds
pub both_hold : (a b : Bool) → (a && b) ≡ true → (a ≡ true) × (b ≡ true)
both_hold true true is = (refl, refl)
both_hold true false is = absurd (cc is)
both_hold false b is = absurd (cc is)

-- a number that passes the test is at most the other
pub most_is : (n m : ℕ) → nat_le n m ≡ true → n ≤ m
most_is n m is = grind (arith, nat_tests)

-- numbers that compare equal are equal
pub same_is : (n m : ℕ) → (n == m) ≡ true → n ≡ m
same_is n m is = grind (arith, nat_tests)

-- a batch that was read
pub framed_is : (due : Option ℕ) (more body : List ℕ) (number size : ℕ) → AreBytes more → number ≡ number_of more → size ≡ size_of more
    → 12 ≤ length more → size ≤ length more - 12 → body ≡ take (12 + size - 12) (drop 12 more) → is_due due number ≡ true
    → IsFramed due more (record { number = number; body = body })
framed_is due more body number size are number_is size_is twelve fits body_is due_is =
    let long : 12 + size_of more ≤ length more = omega (arith, twelve, fits, size_is) in
    let size_same : 12 + size - 12 ≡ size_of more = omega (arith, size_is) in
    let here : body ≡ take (size_of more) (drop 12 more) = body_is ∙ ap (λ (n : ℕ). take n (drop 12 more)) size_same in
    let len : length body ≡ size_of more = omega (arith, ap length here, length-take (size_of more) (drop 12 more), length-drop 12 more, long) in
    record {
      number = due_is;
      short = omega (arith, len, small_size more are);
      spelled = sym (unframed more are long) ∙ ap (λ (n : ℕ). frame_of n (take (size_of more) (drop 12 more)) ++ drop (12 + size_of more) more) (sym number_is)
          ∙ ap (λ (l : List ℕ). frame_of number l ++ drop (12 + size_of more) more) (sym here)
          ∙ ap (λ (n : ℕ). frame_of number body ++ drop (12 + n) more) (sym len);
    }

-- a body of the file, told from the bytes behind its gate
pub body_behind : (bytes more : List ℕ) (at size : ℕ) → more ≡ drop at bytes
    → take (at + 12 + size - (at + 12)) (drop (at + 12) bytes) ≡ take (12 + size - 12) (drop 12 more)
body_behind bytes more at size same =
    let count : at + 12 + size - (at + 12) ≡ 12 + size - 12 = omega arith in
    let here : drop 12 more ≡ drop (at + 12) bytes = ap (drop 12) same ∙ drop-drop 12 at bytes in
    ap (λ (n : ℕ). take n (drop (at + 12) bytes)) count ∙ ap (take (12 + size - 12)) (sym here)

-- one batch more
pub record Grown (bytes : List ℕ) (at : ℕ) (batches : List Batch) (b : Batch) : Type 0 where
  pub first : ℕ
  pub runs : Runs first (batches ++ b ∷ [])
  pub due : Some (b.number + 1) ≡ due_of first (batches ++ b ∷ [])
  pub place : at + (13 + length b.body) ≡ 8 + length (spell (batches ++ b ∷ []))
  pub inside : at + (13 + length b.body) ≤ length bytes
  pub spelled : bytes ≡ magic ++ (spell (batches ++ b ∷ []) ++ drop (at + (13 + length b.body)) bytes)

-- its number goes on
pub record GoesOn (batches : List Batch) (b : Batch) : Type 0 where
  pub first : ℕ
  pub runs : Runs first (batches ++ b ∷ [])
  pub due : Some (b.number + 1) ≡ due_of first (batches ++ b ∷ [])

-- a batch with the number that is due goes on with the batches before it
pub go_on : (first : ℕ) (batches : List Batch) (b : Batch) → Runs first batches → is_due (due_of first batches) b.number ≡ true
    → length b.body < 2 ^ 32 → GoesOn batches b
go_on first [] b runs due short = record { first = b.number; runs = (refl, (most_is b.number last_number due, (short, tt))); due = refl }
go_on first (a ∷ batches) b runs due short =
    let two = both_hold (b.number == first + length (a ∷ batches)) (nat_le b.number last_number) due in
    let number : b.number ≡ first + length (a ∷ batches) = same_is b.number (first + length (a ∷ batches)) two.0 in
    let next : b.number + 1 ≡ first + length (a ∷ (batches ++ b ∷ [])) = omega (arith, number, length-append batches (b ∷ [])) in
    record { first = first; runs = runs-push first (a ∷ batches) b runs number (most_is b.number last_number two.1) short; due = ap (λ (n : ℕ). Some n) next }

-- a frame that is read behind an open gate is one batch more
pub grown : (bytes : List ℕ) (at : ℕ) (due : Option ℕ) (first : ℕ) (batches : List Batch) (b : Batch) → Runs first batches
    → due ≡ due_of first batches → at ≡ 8 + length (spell batches) → at < length bytes → get_or bytes at 0 ≡ 1
    → bytes ≡ magic ++ (spell batches ++ drop at bytes) → IsFramed due (drop (at + 1) bytes) b → Grown bytes at batches b
grown bytes at due first batches b runs due_is place inside is_open spelled f =
    let on = go_on first batches b runs (subst (λ (d : Option ℕ). is_due d b.number ≡ true) due_is f.number) f.short in
    let back = drop (12 + length b.body) (drop (at + 1) bytes) in
    let jump : at + 1 + (12 + length b.body) ≡ at + (13 + length b.body) = omega arith in
    let back_is : back ≡ drop (at + (13 + length b.body)) bytes = drop-drop (12 + length b.body) (at + 1) bytes ∙ ap (λ (n : ℕ). drop n bytes) jump in
    let here : drop at bytes ≡ 1 ∷ (frame_of b.number b.body ++ back) = drop_more bytes at 0 inside
    ∙ ap (λ (n : ℕ). n ∷ drop (at + 1) bytes) is_open ∙ ap (λ (l : List ℕ). 1 ∷ l) f.spelled in
    record {
      first = on.first;
      runs = on.runs;
      due = on.due;
      place = omega (arith, place, length-push batches b);
      inside =
          omega (arith, inside, ap length f.spelled, length-append (frame_of b.number b.body) back, length-framed b.number b.body, length-drop (at + 1) bytes);
      spelled =
          spelled ∙ ap (λ (l : List ℕ). magic ++ (spell batches ++ l)) here ∙ ap (λ (l : List ℕ). magic ++ l) (sym (spell-push batches b back))
          ∙ ap (λ (l : List ℕ). magic ++ (spell (batches ++ b ∷ []) ++ l)) back_is;
    }

-- behind the last batch a shut gate
pub holds : (bytes : List ℕ) (at next : ℕ) (due : Option ℕ) (first : ℕ) (batches : List Batch) → Runs first batches → due ≡ due_of first batches
    → at ≡ 8 + length (spell batches) → at < length bytes → get_or bytes at 0 ≢ 1
    → bytes ≡ magic ++ (spell batches ++ drop at bytes) → next ≡ unwrap_or due 0 → length bytes ≤ journal_limit → Holds bytes batches at next
holds bytes at next due first batches runs due_is place inside shut spelled next_is most = record {
  in_row = row batches runs place (next_is ∙ ap (λ (d : Option ℕ). unwrap_or d 0) due_is);
  spells =
      record {
        gate = get_or bytes at 0;
        shut = shut;
        free = drop (at + 1) bytes;
        spelled = spelled
            ∙ ap (λ (l : List ℕ). magic ++ (spell batches ++ l)) (drop_more bytes at 0 inside);
      };
}
  where
    row : (bs : List Batch) → Runs first bs → at ≡ 8 + length (spell bs) → next ≡ unwrap_or (due_of first bs) 0 → InRow at next bs
    row [] runs place is = record { first = 0; runs = tt; follows = is; place = place; below = omega (arith, inside, most) }
    row (b ∷ bs) runs place is = record { first = first; runs = runs; follows = is; place = place; below = omega (arith, inside, most) }

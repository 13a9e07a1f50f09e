-- The table of ledgers counts one item more.
use Rattle.std.proofs.Common.{◌≡◌, ℕ, ◌<◌, max, Bool, true, false, not, ◌==◌, ◌||◌, if◌then◌else◌, List, [], ◌∷◌, ◌++◌, length, Option}
use Rattle.std.proofs.Common.{Some, None, is_some, Ok, Err, refl, sym, ap, subst, ◌∙◌, arith, append-nil, append_assoc}
use Rattle.std.proofs.Math.Bool.{or-false, or-true}
use Rattle.std.specs.List.{list_any}
use Rattle.std.proofs.lemmas.Bool.{eqb-true}
use Rattle.dl_fields.specs.declared.fault.Fault.{Fault}
use Rattle.dl_rules_nodes.specs.Limits.{most_ledgers}
use Rattle.dl_rules_nodes.specs.Items.{Item, ledger_of, is_fence, is_of, count_in, greatest}
use Rattle.dl_rules_nodes.specs.Counts.{count_new, is_new_ledger, ledgers_count}
use Rattle.dl_rules_nodes.specs.Reading.{item_from}
use Rattle.dl_items.specs.declared.head.Head.{Head}
use Rattle.dl_items.specs.declared.head.Head.TheVariants as head
use Rattle.dl_items.specs.Heads.{ledger_in, is_fence_head, count_of, item_of}
use Rattle.dl_items.specs.Reading.{IsFront}
use Rattle.dl_marks.specs.declared.marks.LedgerMarks.{LedgerMarks}
use Rattle.dl_marks.specs.Tables.{Ledgers, ledger_at}
use Rattle.dl_marks.specs.Known.{ledger_known}
use Rattle.dl_marks.proofs.CountLemmas.{ledgers_push}
use Rattle.dl_marks.proofs.KnownLemmas.{any_push, no_fence, no_count}
use Rattle.dl_marks.proofs.MoveLemmas.{greatest_push, fence_false, count_zero, max_zero, head_of_item, fences, counts}
use Rattle.dl_restore.specs.Bodies.{Spells, AllSpell, all_of}
use Rattle.dl_restore.specs.Ledgers.{ledger_added, LedgerAdded, NoLedgerRoom, CountsLedger, LedgersHold, LedgersAdded, LedgersUnderway, LedgerBatchesUnderway}
use Rattle.dl_restore.proofs.EntryLemmas.{if_some, one_if, one_unless, one_new, few_step, count_more, all_push}
use Rattle.dl_restore.proofs.EntryLoops.{first_is, ended}

-- the marks by durable items alone
abbrev settled : Bool → Bool → ℕ → Option LedgerMarks
settled t fenced most = if t then Some (record { fenced = fenced; fencing = false; greatest = most }) else None

-- one item more of a ledger
ledger_push : (before : List Item) (l : ℕ) (x : Item) → is_of l x ≡ true
    → ledger_known (before ++ x ∷ []) [] [] l ≡ Some (ledger_added (ledger_known before [] [] l) (is_fence l x) (count_in l x))
ledger_push before l x is = head ∙ go (list_any (is_of l) before) refl
  where
    there : list_any (is_of l) ((before ++ x ∷ []) ++ []) ≡ true
    there = ap (list_any (is_of l)) (append-nil (before ++ x ∷ [])) ∙ any_push (is_of l) before x ∙ ap (λ b. list_any (is_of l) before || b) is
        ∙ or-true (list_any (is_of l) before)

    was : list_any (is_of l) (before ++ []) ≡ list_any (is_of l) before
    was = ap (list_any (is_of l)) (append-nil before)

    head : ledger_known (before ++ x ∷ []) [] [] l
        ≡ Some (record { fenced = list_any (is_fence l) before || is_fence l x; fencing = false; greatest = max (greatest l before) (count_in l x) })
    head = λ i. settled (there i) (any_push (is_fence l) before x i) (greatest_push l before x i)

    go : (t : Bool) → list_any (is_of l) before ≡ t
        → Some (record { fenced = list_any (is_fence l) before || is_fence l x; fencing = false; greatest = max (greatest l before) (count_in l x) })
        ≡ Some (ledger_added (ledger_known before [] [] l) (is_fence l x) (count_in l x))
    go true w = sym (ap (λ (t : Bool). Some (ledger_added (settled t (list_any (is_fence l) before) (greatest l before)) (is_fence l x) (count_in l x)))
        (was ∙ w))
    go false w =
        let most : max (greatest l before) (count_in l x) ≡ count_in l x = omega (arith, no_count l before w) in
        (λ i. Some (record { fenced = no_fence l before w i || is_fence l x; fencing = false; greatest = most i }))
        ∙ sym (ap (λ (t : Bool). Some (ledger_added (settled t (list_any (is_fence l) before) (greatest l before)) (is_fence l x) (count_in l x))) (was ∙ w))

-- an item of another ledger changes nothing
ledger_skip : (before : List Item) (l : ℕ) (x : Item) → is_of l x ≡ false → ledger_known (before ++ x ∷ []) [] [] l ≡ ledger_known before [] [] l
ledger_skip before l x other =
    let all : list_any (is_of l) ((before ++ x ∷ []) ++ []) ≡ list_any (is_of l) (before ++ []) =
    ap (list_any (is_of l)) (append-nil (before ++ x ∷ [])) ∙ any_push (is_of l) before x ∙ ap (λ b. list_any (is_of l) before || b) other
    ∙ or-false (list_any (is_of l) before) ∙ sym (ap (list_any (is_of l)) (append-nil before)) in
    let fence : list_any (is_fence l) (before ++ x ∷ []) ≡ list_any (is_fence l) before =
    any_push (is_fence l) before x ∙ ap (λ b. list_any (is_fence l) before || b) (fence_false l x other) ∙ or-false (list_any (is_fence l) before) in
    let most : greatest l (before ++ x ∷ []) ≡ greatest l before = greatest_push l before x
    ∙ max_zero (greatest l before) (count_in l x) (count_zero l x other) in
    λ i. settled (all i) (fence i) (most i)

-- a ledger is in the table where an item is of it
there_by : (before : List Item) (old : Ledgers) (m : ℕ) → LedgersHold before old → is_some (ledger_at old m) ≡ list_any (is_of m) before
there_by before old m holds =
    ap (λ (o : Option LedgerMarks). is_some o) (holds.each m) ∙ if_some (list_any (is_of m) (before ++ [])) _ ∙ ap (list_any (is_of m)) (append-nil before)

-- the ledger of an item is that of its head
ledger_is : (h : Head) (bytes : List ℕ) → ledger_of (item_of h bytes) ≡ ledger_in h
ledger_is (head.Add l e n) bytes = refl
ledger_is (head.Copy l e n) bytes = refl
ledger_is (head.Fence l) bytes = refl

-- a ledger that is not in the table is a new one
one_more : (before : List Item) (h : Head) (bytes : List ℕ) (old : Ledgers) → LedgersHold before old
    → one_unless (is_some (ledger_at old (ledger_in h))) ≡ one_if (is_new_ledger (item_of h bytes) before)
one_more before h bytes old holds =
    one_new (is_some (ledger_at old (ledger_in h))) (list_any (is_of (ledger_in h)) before) (there_by before old (ledger_in h) holds)
    ∙ ap (λ (l : ℕ). one_if (not (list_any (is_of l) before))) (sym (ledger_is h bytes))

-- the table with one item more
ledger_step : (before : List Item) (h : Head) (bytes : List ℕ) (old new : Ledgers) → LedgersHold before old → LedgerAdded old new h
    → LedgersHold (before ++ item_of h bytes ∷ []) new
ledger_step before h bytes old new holds now = record {
  each = λ l. now.each l ∙ go l (ledger_in h == l) refl;
  count = omega (arith, now.count, holds.count, one_more before h bytes old holds, ledgers_push before x);
  few = few_step (length old) (length new) most_ledgers (is_some (ledger_at old (ledger_in h))) holds.few now.count now.room;
}
  where
    x : Item
    x = item_of h bytes

    go : (l : ℕ) (t : Bool) → (ledger_in h == l) ≡ t
        → (if t then Some (ledger_added (ledger_at old (ledger_in h)) (is_fence_head h) (count_of h)) else ledger_at old l)
        ≡ ledger_known (before ++ x ∷ []) [] [] l
    go l true w =
        (λ i. Some (ledger_added (ledger_at old (eqb-true (ledger_in h) l w i)) (sym (fences h bytes l w) i) (sym (counts h bytes l w) i)))
        ∙ ap (λ (o : Option LedgerMarks). Some (ledger_added o (is_fence l x) (count_in l x))) (holds.each l)
        ∙ sym (ledger_push before l x (head_of_item h bytes l ∙ w))
    go l false w = holds.each l ∙ sym (ledger_skip before l x (head_of_item h bytes l ∙ w))

-- without room there are too many ledgers
ledger_full : (before : List Item) (h : Head) (bytes : List ℕ) (old : Ledgers) → LedgersHold before old → NoLedgerRoom old h
    → most_ledgers < ledgers_count (before ++ item_of h bytes ∷ [])
ledger_full before h bytes old holds none =
    let one : one_if (is_new_ledger (item_of h bytes) before) ≡ 1 = sym (one_more before h bytes old holds)
    ∙ ap (λ (o : Option LedgerMarks). one_unless (is_some o)) none.missing in
    omega (arith, one, ledgers_push before (item_of h bytes), holds.count, none.full)

-- one item more is counted, or there are too many ledgers
ledger_counted : (before : List Item) (h : Head) (bytes : List ℕ) (old new : Ledgers) (had has : Bool) → CountsLedger had old new h has
    → LedgersAdded before old had → LedgersAdded (before ++ item_of h bytes ∷ []) new has
ledger_counted before h bytes old new true true now was = ledger_step before h bytes old new was now
ledger_counted before h bytes old new true false now was = ledger_full before h bytes old was now
ledger_counted before h bytes old new false true now was = absurd now
ledger_counted before h bytes old new false false now was = omega (arith, was, count_more is_new_ledger [] before (item_of h bytes ∷ []))

-- ---- a body

-- one item more is counted
pub ledgers_go_on : (items : List Item) (rest more : List ℕ) (h : Head) (bytes : List ℕ) (old new : Ledgers) (had has : Bool)
    → item_from rest ≡ Ok (item_of h bytes, more) → IsFront (item_of h bytes) more rest → CountsLedger had old new h has
    → LedgersUnderway items rest old had → LedgersUnderway items more new has
ledgers_go_on items rest more h bytes old new had has e front now u =
    let x = item_of h bytes in
    let f = first_is rest more x u.todo e front.less u.valid u.spelt in
    record {
      done = u.done ++ x ∷ [];
      todo = f.others;
      all = u.all ∙ ap (λ (xs : List Item). u.done ++ xs) f.split ∙ sym (append_assoc u.done (x ∷ []) f.others);
      valid = f.valid;
      spelt = f.spelt;
      counted = ledger_counted u.done h bytes old new had has now u.counted;
    }

-- where no item is read, all are counted
pub ledgers_end : (items : List Item) (rest : List ℕ) (fault : Fault) (ledgers : Ledgers) (room : Bool) → item_from rest ≡ Err fault
    → LedgersUnderway items rest ledgers room → LedgersAdded items ledgers room
ledgers_end items rest fault ledgers room e u =
    let all : items ≡ u.done = u.all ∙ ap (λ (xs : List Item). u.done ++ xs) (ended rest fault u.todo e u.valid u.spelt) ∙ append-nil u.done in
    subst (λ (xs : List Item). LedgersAdded xs ledgers room) (sym all) u.counted

-- ---- batches

-- one batch more is counted
pub ledger_batches_step : (items : List (List Item)) (body : List ℕ) (bodies : List (List ℕ)) (old new : Ledgers) (had has : Bool)
    → ((before xs : List Item) → Spells body xs → LedgersAdded before old had → LedgersAdded (before ++ xs) new has)
    → LedgerBatchesUnderway items (body ∷ bodies) old had → LedgerBatchesUnderway items bodies new has
ledger_batches_step items body bodies old new had has adds u = go u.todo u.spell u.all
  where
    go : (todo : List (List Item)) → AllSpell (body ∷ bodies) todo → items ≡ u.done ++ todo → LedgerBatchesUnderway items bodies new has
    go [] spell all = absurd spell
    go (xs ∷ more) spell all = record {
      done = u.done ++ xs ∷ [];
      todo = more;
      all = all ∙ sym (append_assoc u.done (xs ∷ []) more);
      spell = spell.1;
      counted = subst (λ (ys : List Item). LedgersAdded ys new has) (sym (all_push u.done xs)) (adds (all_of u.done) xs spell.0 u.counted);
    }

-- behind the last batch all are counted
pub ledger_batches_end : (items : List (List Item)) (ledgers : Ledgers) (room : Bool) → LedgerBatchesUnderway items [] ledgers room
    → LedgersAdded (all_of items) ledgers room
ledger_batches_end items ledgers room u = go u.todo u.spell u.all
  where
    go : (todo : List (List Item)) → AllSpell [] todo → items ≡ u.done ++ todo → LedgersAdded (all_of items) ledgers room
    go [] spell all = subst (λ (xs : List (List Item)). LedgersAdded (all_of xs) ledgers room) (sym (all ∙ append-nil u.done)) u.counted
    go (xs ∷ more) spell all = absurd spell

-- no items have no ledgers
no_ledgers : 0 ≡ ledgers_count []
unfolding count_new
no_ledgers = refl

-- the empty table holds nothing
pub ledgers_none : LedgersHold [] []
ledgers_none = record { each = λ l. refl; count = no_ledgers; few = omega arith }

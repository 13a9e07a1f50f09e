-- All items of a queue became durable.
use Rattle.std.proofs.Common.{◌≡◌, ℕ, ◌+◌, Bool, true, false, not, ◌&&◌, List, [], ◌∷◌, ◌++◌, sum_by, Option, Some, None, if◌then◌else◌, sym, refl, ap, ◌∙◌}
use Rattle.std.proofs.Common.{arith, append-nil}
use Rattle.std.specs.List.{list_any}
use Rattle.std.proofs.lemmas.List.Sums.{sum_by-cons}
use Rattle.dl_rules_nodes.specs.Items.{Item, items_length, is_add, is_entry, is_fence, is_of, greatest}
use Rattle.dl_rules_nodes.specs.Bookies.{Bookie, durable, queued_items, with_batch, gate_of}
use Rattle.dl_marks.specs.declared.marks.Place.{Place}
use Rattle.dl_marks.specs.Tables.{Entries, Ledgers, marks_at, ledger_at}
use Rattle.dl_marks.specs.Places.{place_in, or_place, place_from, place_of}
use Rattle.dl_marks.specs.Known.{entry_known, ledger_known}
use Rattle.dl_marks.specs.Moving.{Moving}
use Rattle.dl_marks.proofs.MoveLemmas.{or_assoc, or_nothing}

-- the places of batches with one more
pub from_push : (gate : ℕ) (batches : List (List Item)) (items : List Item) (l e : ℕ)
    → place_from gate (batches ++ items ∷ []) l e ≡ or_place (place_from gate batches l e) (place_in (gate + sum_by
    (λ batch. 13 + items_length batch) batches + 13) items l e)
from_push gate [] items l e = or_nothing (place_in (gate + 13) items l e) ∙ ap (λ n. place_in n items l e) (omega arith)
from_push gate (batch ∷ more) items l e =
    ap (or_place (place_in (gate + 13) batch l e)) (from_push (gate + (13 + items_length batch)) more items l e)
    ∙ or_assoc (place_in (gate + 13) batch l e) (place_from (gate + (13 + items_length batch)) more l e)
    (place_in (gate + (13 + items_length batch) + sum_by (λ batch. 13 + items_length batch) more + 13) items l e)
    ∙ ap (λ n. or_place (or_place (place_in (gate + 13) batch l e) (place_from (gate + (13 + items_length batch)) more l e)) (place_in n items l e))
    (omega (arith, sum_by-cons (λ (x : List Item). 13 + items_length x) batch more))

-- the places of a journal with one batch more, where there is an item
pub place_of_with : (batches : List (List Item)) (items : List Item) (l e : ℕ)
    → place_of (with_batch batches items) l e ≡ or_place (place_of batches l e) (place_in (gate_of batches + 13) items l e)
place_of_with batches [] l e = sym (or_nothing (place_of batches l e))
place_of_with batches (x ∷ xs) l e = from_push 8 batches (x ∷ xs) l e

-- where nothing waits, it matters not what was settled
and_false : (a : Bool) → (not a && false) ≡ false
and_false true = refl
and_false false = refl

-- the marks of an entry do not depend on what settled
known_settled : (before settled : List Item) (place : Option Place) (l e : ℕ) → entry_known before [] settled place l e ≡ entry_known before [] [] place l e
known_settled before settled place l e = λ i.
    if list_any (is_entry l e) (before ++ []) then Some (record {
      added = list_any (is_add l e) before;
      place = place;
      adding = and_false (list_any (is_entry l e) settled) i;
      coming = and_false (list_any (is_entry l e) settled) i;
    })
    else None

-- nor do those of a ledger
ledger_settled : (before settled : List Item) (l : ℕ) → ledger_known before [] settled l ≡ ledger_known before [] [] l
ledger_settled before settled l = λ i.
    if list_any (is_of l) (before ++ []) then Some (record {
      fenced = list_any (is_fence l) before;
      fencing = and_false (list_any (is_fence l) settled) i;
      greatest = greatest l before;
    })
    else None

-- the entries of a node whose queue became durable
pub entries_moved : (b : Bookie) (entries : Entries) (ledgers : Ledgers) → Moving b (queued_items b) [] entries ledgers → (l e : ℕ)
    → marks_at entries l e ≡ entry_known (durable b ++ queued_items b) [] [] (place_of (with_batch b.batches (queued_items b)) l e) l e
entries_moved b entries ledgers m l e =
    m.entry l e
    ∙ known_settled (durable b ++ queued_items b) (queued_items b)
    (or_place (place_of b.batches l e) (place_in (gate_of b.batches + 13) (queued_items b) l e)) l e
    ∙ ap (λ (p : Option Place). entry_known (durable b ++ queued_items b) [] [] p l e) (sym (place_of_with b.batches (queued_items b) l e))

-- and its ledgers
pub ledgers_moved : (b : Bookie) (entries : Entries) (ledgers : Ledgers) → Moving b (queued_items b) [] entries ledgers → (l : ℕ)
    → ledger_at ledgers l ≡ ledger_known (durable b ++ queued_items b) [] [] l
ledgers_moved b entries ledgers m l = m.ledger l ∙ ledger_settled (durable b ++ queued_items b) (queued_items b) l

-- before the first one, none is done
pub none_moved : (b : Bookie) (entries : Entries) (ledgers : Ledgers)
    → ((l e : ℕ) → marks_at entries l e ≡ entry_known (durable b) (queued_items b) [] (place_of b.batches l e) l e) → ((l : ℕ)
    → ledger_at ledgers l ≡ ledger_known (durable b) (queued_items b) [] l)
    → Moving b [] (queued_items b) entries ledgers
none_moved b entries ledgers es ls = record {
  entry = λ l e. es l e ∙ (λ i. entry_known (sym (append-nil (durable b)) i) (queued_items b) [] (sym (or_nothing (place_of b.batches l e)) i) l e);
  ledger = λ l. ls l ∙ (λ i. ledger_known (sym (append-nil (durable b)) i) (queued_items b) [] l);
}

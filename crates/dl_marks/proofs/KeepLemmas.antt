-- An item that waited first becomes durable.
use Rattle.std.proofs.Common.{◌≡◌, ℕ, ◌+◌, Bool, true, false, not, ◌&&◌, ◌||◌, List, [], ◌∷◌, ◌++◌, length, Option, Some, None, if◌then◌else◌, sym, refl, ap}
use Rattle.std.proofs.Common.{◌∙◌, arith, append_assoc}
use Rattle.std.proofs.Math.Bool.{or-false, or-true}
use Rattle.std.specs.List.{list_any}
use Rattle.std.proofs.lemmas.List.Folds.{list_any-append}
use Rattle.std.proofs.lemmas.List.Sums.{sum_by-cons}
use Rattle.dl_rules_nodes.specs.Items.{Item, item_length, items_length, entry_in, is_add, is_entry}
use Rattle.dl_marks.specs.declared.marks.Place.{Place}
use Rattle.dl_marks.specs.Keeping.{entry_kept}
use Rattle.dl_marks.specs.Places.{place_in, or_place}
use Rattle.dl_marks.specs.Known.{entry_known}
use Rattle.dl_marks.proofs.KnownLemmas.{any_push, add_false}

-- all items stay, and their order
all_same : (before todo : List Item) (x : Item) → (before ++ x ∷ []) ++ todo ≡ before ++ x ∷ todo
all_same before todo x = append_assoc before (x ∷ []) todo

-- an item of another entry becomes durable
pub keep_skip : (before todo settled : List Item) (place : Option Place) (l e : ℕ) (x : Item) → is_entry l e x ≡ false
    → entry_known (before ++ x ∷ []) todo (settled ++ x ∷ []) place l e ≡ entry_known before (x ∷ todo) settled place l e
keep_skip before todo settled place l e x other =
    let all : list_any (is_entry l e) ((before ++ x ∷ []) ++ todo) ≡ list_any (is_entry l e) (before ++ x ∷ todo) = ap (list_any (is_entry l e))
    (all_same before todo x) in
    let add : list_any (is_add l e) (before ++ x ∷ []) ≡ list_any (is_add l e) before =
    any_push (is_add l e) before x ∙ ap (λ b. list_any (is_add l e) before || b) (add_false l e x other) ∙ or-false (list_any (is_add l e) before) in
    let done : list_any (is_entry l e) (settled ++ x ∷ []) ≡ list_any (is_entry l e) settled =
    any_push (is_entry l e) settled x ∙ ap (λ b. list_any (is_entry l e) settled || b) other ∙ or-false (list_any (is_entry l e) settled) in
    λ i. if all i then Some (record {
      added = add i;
      place = place;
      adding = not (done i) && (sym (add_false l e x other) i || list_any (is_add l e) todo);
      coming = not (done i) && (sym other i || list_any (is_entry l e) todo);
    }) else None

-- an item of the entry becomes durable
pub keep_push : (before todo settled : List Item) (place : Option Place) (now : Place) (l e : ℕ) (x : Item) → is_entry l e x ≡ true
    → entry_known (before ++ x ∷ []) todo (settled ++ x ∷ []) (or_place place (Some now)) l e
    ≡ entry_kept (entry_known before (x ∷ todo) settled place l e) (is_add l e x) now
keep_push before todo settled place now l e x is =
    (λ i. if there i then Some (record {
      added = any_push (is_add l e) before x i;
      place = or_place place (Some now);
      adding = not (done i) && list_any (is_add l e) todo;
      coming = not (done i) && list_any (is_entry l e) todo;
    }) else None)
    ∙ sym (ap (λ (t : Bool). entry_kept (if t then Some (record {
      added = list_any (is_add l e) before;
      place = place;
      adding = not (list_any (is_entry l e) settled) && (is_add l e x || list_any (is_add l e) todo);
      coming = not (list_any (is_entry l e) settled) && (is_entry l e x || list_any (is_entry l e) todo);
    }) else None) (is_add l e x) now) was)
  where
    was : list_any (is_entry l e) (before ++ x ∷ todo) ≡ true
    was = list_any-append (is_entry l e) before (x ∷ todo) ∙ ap (λ b. list_any (is_entry l e) before || (b || list_any (is_entry l e) todo)) is
        ∙ or-true (list_any (is_entry l e) before)

    there : list_any (is_entry l e) ((before ++ x ∷ []) ++ todo) ≡ true
    there = ap (list_any (is_entry l e)) (all_same before todo x) ∙ was

    done : list_any (is_entry l e) (settled ++ x ∷ []) ≡ true
    done = any_push (is_entry l e) settled x ∙ ap (λ b. list_any (is_entry l e) settled || b) is ∙ or-true (list_any (is_entry l e) settled)

-- ---- places

-- one place that there may be, or the rest
place_push_here : (t : Bool) (p : Place) (rest : Option Place) → or_place (if t then Some p else None) rest ≡ (if t then Some p else rest)
place_push_here true p rest = refl
place_push_here false p rest = refl

-- a place by a test, or another
or_place_if : (t : Bool) (p : Place) (q r : Option Place) → or_place (if t then Some p else q) r ≡ (if t then Some p else or_place q r)
or_place_if true p q r = refl
or_place_if false p q r = refl

-- the places of items with one more
pub place_push : (at : ℕ) (xs : List Item) (x : Item) (l e : ℕ)
    → place_in at (xs ++ x ∷ []) l e ≡ or_place (place_in at xs l e) (if is_entry l e x
    then Some (record { at = at + items_length xs + 29; size = length (entry_in x) }) else None)
place_push at [] x l e = ap (λ n. if is_entry l e x then Some (record { at = n; size = length (entry_in x) }) else None) (omega arith)
place_push at (y ∷ xs) x l e =
    ap (λ (o : Option Place). if is_entry l e y then Some (record { at = at + 29; size = length (entry_in y) }) else o)
    (place_push (at + item_length y) xs x l e
    ∙ ap (λ n. or_place (place_in (at + item_length y) xs l e) (if is_entry l e x then Some (record { at = n; size = length (entry_in x) })
    else None)) (omega (arith, sum_by-cons item_length y xs)))
    ∙ sym (or_place_if (is_entry l e y) (record { at = at + 29; size = length (entry_in y) }) (place_in (at + item_length y) xs l e)
    (if is_entry l e x then Some (record { at = at + items_length (y ∷ xs) + 29; size = length (entry_in x) }) else None))

-- The loops over the items of a body, and over bodies, that count entries.
use Rattle.std.proofs.Common.{◌≡◌, ℕ, ◌+◌, ◌-◌, ◌<◌, Bool, List, [], ◌∷◌, ◌++◌, length, Result, Ok, Err, refl, sym, ap, subst, ◌∙◌, arith, append-nil, append_assoc}
use Rattle.std.proofs.Common.{length-append}
use Rattle.std.specs.List.{AllByRecursion}
use Rattle.std.proofs.lemmas.List.Concat.{flat_map-cons}
use Rattle.std.proofs.lemmas.List.Sums.{sum_by-cons, sum_by-append}
use Rattle.dl_fields.specs.declared.fault.Fault.{Fault}
use Rattle.dl_fields.proofs.ReaderLemmas.{ok_is}
use Rattle.dl_rules_nodes.specs.Items.{Item, item_bytes, item_length, items_length, body_of, IsItem}
use Rattle.dl_rules_nodes.specs.Bookies.{gate_of}
use Rattle.dl_rules_nodes.specs.Reading.{item_from}
use Rattle.dl_rules_nodes.proofs.ItemLaws.{lengths_are_of_bytes, items_are_exact}
use Rattle.dl_items.specs.declared.head.Head.{Head}
use Rattle.dl_items.specs.Heads.{item_of}
use Rattle.dl_items.specs.Reading.{IsFront}
use Rattle.dl_marks.specs.Tables.{Entries}
use Rattle.dl_restore.specs.Bodies.{Spells, AllSpell}
use Rattle.dl_restore.specs.Entries.{CountsEntry, BatchAdded, BatchesAdded, Underway, BatchesUnderway}
use Rattle.dl_restore.proofs.EntryLemmas.{entry_counted, batch_counted}

-- ---- items

-- Of items to come, the first is the one that is read.
pub record First (x : Item) (more : List ℕ) (todo : List Item) : Type 0 where
  pub others : List Item
  pub split : todo ≡ x ∷ others
  pub valid : AllByRecursion IsItem others
  pub spelt : more ≡ body_of others

-- an item, and the bytes behind it
abbrev pair : Item → List ℕ → Item × List ℕ
pair x rest = (x, rest)

-- the item that is read is the first of those to come
pub first_is : (rest more : List ℕ) (x : Item) (todo : List Item) → item_from rest ≡ Ok (x, more) → length more < length rest → AllByRecursion IsItem todo
    → rest ≡ body_of todo → First x more todo
first_is rest more x [] e less valid spelt = absurd (omega (arith, less, ap length spelt))
first_is rest more x (y ∷ ys) e less valid spelt =
    let again : item_from rest ≡ Ok (y, body_of ys) = ap item_from (spelt ∙ flat_map-cons item_bytes y ys) ∙ items_are_exact.again y (body_of ys) valid.0 in
    let same : pair x more ≡ pair y (body_of ys) = ok_is (x, more) (y, body_of ys) (sym e ∙ again) in
    record {
      others = ys;
      split = ap (λ (z : Item). z ∷ ys) (sym (ap (λ (p : Item × List ℕ). p.0) same));
      valid = valid.1;
      spelt = ap (λ (p : Item × List ℕ). p.1) same;
    }

-- what is read is not a fault
not_both : (r : Result (Item × List ℕ) Fault) (fault : Fault) (x : Item × List ℕ) → r ≡ Err fault → r ≡ Ok x → ⊥
not_both (Ok y) fault x e o = cc
not_both (Err other) fault x e o = cc

-- where no item is read, none is left
pub ended : (rest : List ℕ) (fault : Fault) (todo : List Item) → item_from rest ≡ Err fault → AllByRecursion IsItem todo → rest ≡ body_of todo → todo ≡ []
ended rest fault [] e valid spelt = refl
ended rest fault (x ∷ xs) e valid spelt =
    let again : item_from rest ≡ Ok (x, body_of xs) = ap item_from (spelt ∙ flat_map-cons item_bytes x xs) ∙ items_are_exact.again x (body_of xs) valid.0 in
    absurd (not_both (item_from rest) fault (x, body_of xs) e again)

-- one item more is counted
pub underway_step : (before : List (List Item)) (items : List Item) (at : ℕ) (rest more : List ℕ) (h : Head) (bytes : List ℕ) (old new : Entries)
    (had has : Bool) → item_from rest ≡ Ok (item_of h bytes, more) → IsFront (item_of h bytes) more rest
    → CountsEntry had old new h (record { at = at + 29; size = length bytes }) has
    → Underway before items at rest old had → Underway before items (at + (length rest - length more)) more new has
underway_step before items at rest more h bytes old new had has e front now u =
    let x = item_of h bytes in
    let f = first_is rest more x u.todo e front.less u.valid u.spelt in
    record {
      done = u.done ++ x ∷ [];
      todo = f.others;
      all = u.all ∙ ap (λ (xs : List Item). u.done ++ xs) f.split ∙ sym (append_assoc u.done (x ∷ []) f.others);
      valid = f.valid;
      spelt = f.spelt;
      place = omega (
        arith,
        u.place,
        ap length front.spelt,
        length-append (item_bytes x) more,
        lengths_are_of_bytes.item x,
        sum_by-append item_length u.done (x ∷ []),
        sum_by-cons item_length x [],
      );
      counted = entry_counted before u.done h bytes at old new had has u.place now u.counted;
    }

-- where no item is read, all are counted
pub underway_end : (before : List (List Item)) (items : List Item) (at : ℕ) (rest : List ℕ) (fault : Fault) (entries : Entries) (room : Bool)
    → item_from rest ≡ Err fault → Underway before items at rest entries room → BatchAdded before items entries room
underway_end before items at rest fault entries room e u =
    let all : items ≡ u.done = u.all ∙ ap (λ (xs : List Item). u.done ++ xs) (ended rest fault u.todo e u.valid u.spelt) ∙ append-nil u.done in
    subst (λ (xs : List Item). BatchAdded before xs entries room) (sym all) u.counted

-- ---- batches

-- one batch more is counted
pub batches_step : (items : List (List Item)) (gate : ℕ) (body : List ℕ) (bodies : List (List ℕ)) (old new : Entries) (had has : Bool)
    → ((before : List (List Item)) (xs : List Item) → Spells body xs → gate + 13 ≡ gate_of before + 13 → BatchesAdded before old had
    → BatchAdded before xs new has)
    → BatchesUnderway items gate (body ∷ bodies) old had → BatchesUnderway items (gate + (13 + length body)) bodies new has
batches_step items gate body bodies old new had has adds u = go u.todo u.spell u.all
  where
    go : (todo : List (List Item)) → AllSpell (body ∷ bodies) todo → items ≡ u.done ++ todo
        → BatchesUnderway items (gate + (13 + length body)) bodies new has
    go [] spell all = absurd spell
    go (xs ∷ more) spell all = record {
      done = u.done ++ xs ∷ [];
      todo = more;
      all = all ∙ sym (append_assoc u.done (xs ∷ []) more);
      spell = spell.1;
      place = omega (
        arith,
        u.place,
        ap length spell.0.spelt,
        lengths_are_of_bytes.items xs,
        sum_by-append (λ (b : List Item). 13 + items_length b) u.done (xs ∷ []),
        sum_by-cons (λ (b : List Item). 13 + items_length b) xs [],
      );
      counted = batch_counted u.done xs new has (adds u.done xs spell.0 (omega (arith, u.place)) u.counted);
    }

-- behind the last batch all are counted
pub batches_end : (items : List (List Item)) (gate : ℕ) (entries : Entries) (room : Bool) → BatchesUnderway items gate [] entries room
    → BatchesAdded items entries room
batches_end items gate entries room u = go u.todo u.spell u.all
  where
    go : (todo : List (List Item)) → AllSpell [] todo → items ≡ u.done ++ todo → BatchesAdded items entries room
    go [] spell all = subst (λ (xs : List (List Item)). BatchesAdded xs entries room) (sym (all ∙ append-nil u.done)) u.counted
    go (xs ∷ more) spell all = absurd spell

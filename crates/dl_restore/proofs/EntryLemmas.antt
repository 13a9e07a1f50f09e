-- The table of entries counts one item more.
use Rattle.std.proofs.Common.{◌≡◌, ℕ, ◌+◌, ◌<◌, ◌≤◌, ◌⊎◌, inl, inr, Bool, true, false, not, ◌==◌, ◌&&◌, ◌||◌, if◌then◌else◌, List, [], ◌∷◌, ◌++◌, length}
use Rattle.std.proofs.Common.{Option, Some, None, is_some, refl, sym, ap, subst, ◌∙◌, arith, append-nil, append_assoc}
use Rattle.std.proofs.Math.Bool.{or-false, or-true}
use Rattle.std.specs.List.{list_any}
use Rattle.std.proofs.lemmas.Bool.{eqb-true}
use Rattle.std.proofs.lemmas.List.Folds.{list_any-append}
use Rattle.std.proofs.lemmas.Grind.{flat_map-append}
use Rattle.std.proofs.lemmas.List.Concat.{flat_map-cons}
use Rattle.dl_rules_nodes.specs.Limits.{most_entries}
use Rattle.dl_rules_nodes.specs.Items.{Item, AddItem, CopyItem, FenceItem, item_length, items_length, entry_in, is_add, is_entry}
use Rattle.dl_rules_nodes.specs.Counts.{count_new, is_new_entry, entries_count}
use Rattle.dl_rules_nodes.specs.Bookies.{gate_of}
use Rattle.dl_items.specs.declared.head.Head.{Head}
use Rattle.dl_items.specs.declared.head.Head.TheVariants as head
use Rattle.dl_items.specs.Heads.{item_of}
use Rattle.dl_marks.specs.declared.marks.EntryMarks.{EntryMarks}
use Rattle.dl_marks.specs.declared.marks.Place.{Place}
use Rattle.dl_marks.specs.Tables.{Entries, marks_at}
use Rattle.dl_marks.specs.Places.{place_of, place_from, place_in, or_place}
use Rattle.dl_marks.specs.Known.{entry_known}
use Rattle.dl_marks.proofs.BoolLemmas.{first_of, second_of}
use Rattle.dl_marks.proofs.CountLemmas.{entries_push}
use Rattle.dl_marks.proofs.KnownLemmas.{any_push, no_add, or_left, or_right, add_false}
use Rattle.dl_marks.proofs.KeepLemmas.{place_push}
use Rattle.dl_marks.proofs.MoveLemmas.{or_assoc, or_nothing}
use Rattle.dl_marks.proofs.MovedLemmas.{from_push}
use Rattle.dl_restore.specs.Bodies.{all_of}
use Rattle.dl_restore.specs.Entries.{entry_added, EntryAdded, NoEntryRoom, AddsEntryOf, CountsEntry, EntriesHold, BatchAdded, BatchesAdded}

-- ---- marks

-- the marks by durable items alone
abbrev settled : Bool → Bool → Option Place → Option EntryMarks
settled t added place = if t then Some (record { added = added; place = place; adding = false; coming = false }) else None

-- one item more of an entry
entry_push : (before : List Item) (place : Option Place) (now : Place) (l e : ℕ) (x : Item) → is_entry l e x ≡ true
    → (list_any (is_entry l e) before ≡ false → place ≡ None)
    → entry_known (before ++ x ∷ []) [] [] (or_place place (Some now)) l e ≡ Some (entry_added (entry_known before [] [] place l e) (is_add l e x) now)
entry_push before place now l e x is none = head ∙ go (list_any (is_entry l e) before) refl
  where
    there : list_any (is_entry l e) ((before ++ x ∷ []) ++ []) ≡ true
    there = ap (list_any (is_entry l e)) (append-nil (before ++ x ∷ [])) ∙ any_push (is_entry l e) before x ∙ ap (λ b. list_any (is_entry l e) before || b) is
        ∙ or-true (list_any (is_entry l e) before)

    was : list_any (is_entry l e) (before ++ []) ≡ list_any (is_entry l e) before
    was = ap (list_any (is_entry l e)) (append-nil before)

    head : entry_known (before ++ x ∷ []) [] [] (or_place place (Some now)) l e
        ≡ Some (record { added = list_any (is_add l e) before || is_add l e x; place = or_place place (Some now); adding = false; coming = false })
    head = λ i. if there i then Some (record { added = any_push (is_add l e) before x i; place = or_place place (Some now); adding = false; coming = false })
        else None

    go : (t : Bool) → list_any (is_entry l e) before ≡ t
        → Some (record { added = list_any (is_add l e) before || is_add l e x; place = or_place place (Some now); adding = false; coming = false })
        ≡ Some (entry_added (entry_known before [] [] place l e) (is_add l e x) now)
    go true w = sym (ap (λ (t : Bool). Some (entry_added (settled t (list_any (is_add l e) before) place) (is_add l e x) now)) (was ∙ w))
    go false w =
        (λ i. Some (record { added = no_add l e before w i || is_add l e x; place = or_place (none w i) (Some now); adding = false; coming = false }))
        ∙ sym (ap (λ (t : Bool). Some (entry_added (settled t (list_any (is_add l e) before) place) (is_add l e x) now)) (was ∙ w))

-- an item of another entry changes nothing
entry_skip : (before : List Item) (place : Option Place) (l e : ℕ) (x : Item) → is_entry l e x ≡ false
    → entry_known (before ++ x ∷ []) [] [] place l e ≡ entry_known before [] [] place l e
entry_skip before place l e x other =
    let all : list_any (is_entry l e) ((before ++ x ∷ []) ++ []) ≡ list_any (is_entry l e) (before ++ []) =
    ap (list_any (is_entry l e)) (append-nil (before ++ x ∷ [])) ∙ any_push (is_entry l e) before x ∙ ap (λ b. list_any (is_entry l e) before || b) other
    ∙ or-false (list_any (is_entry l e) before) ∙ sym (ap (list_any (is_entry l e)) (append-nil before)) in
    let add : list_any (is_add l e) (before ++ x ∷ []) ≡ list_any (is_add l e) before =
    any_push (is_add l e) before x ∙ ap (λ b. list_any (is_add l e) before || b) (add_false l e x other) ∙ or-false (list_any (is_add l e) before) in
    λ i. settled (all i) (add i) place

-- ---- places

-- an entry that no item has, has no place in them
in_none : (at : ℕ) (xs : List Item) (l e : ℕ) → list_any (is_entry l e) xs ≡ false → place_in at xs l e ≡ None
in_none at [] l e h = refl
in_none at (x ∷ xs) l e h =
    ap (λ t. if t then Some (record { at = at + 29; size = length (entry_in x) }) else place_in (at + item_length x) xs l e)
    (or_left (is_entry l e x) (list_any (is_entry l e) xs) h)
    ∙ in_none (at + item_length x) xs l e (or_right (is_entry l e x) (list_any (is_entry l e) xs) h)

-- an entry that no item of the batches has, has no place in them
from_none : (gate : ℕ) (batches : List (List Item)) (l e : ℕ) → list_any (is_entry l e) (all_of batches) ≡ false → place_from gate batches l e ≡ None
from_none gate [] l e h = refl
from_none gate (batch ∷ more) l e h =
    let parts : (list_any (is_entry l e) batch || list_any (is_entry l e) (all_of more)) ≡ false =
    sym (list_any-append (is_entry l e) batch (all_of more)) ∙ ap (list_any (is_entry l e)) (sym (flat_map-cons (λ (b : List Item). b) batch more)) ∙ h in
    ap (λ (p : Option Place). or_place p (place_from (gate + (13 + items_length batch)) more l e))
    (in_none (gate + 13) batch l e (or_left (list_any (is_entry l e) batch) (list_any (is_entry l e) (all_of more)) parts))
    ∙ from_none (gate + (13 + items_length batch)) more l e (or_right (list_any (is_entry l e) batch) (list_any (is_entry l e) (all_of more)) parts)

-- the place of an entry by batches and the first items of the next one
abbrev place_by : List (List Item) → List Item → ℕ → ℕ → Option Place
place_by before done l e = or_place (place_of before l e) (place_in (gate_of before + 13) done l e)

-- an entry that no item has so far, has no place so far
by_none : (before : List (List Item)) (done : List Item) (l e : ℕ) → list_any (is_entry l e) (all_of before ++ done) ≡ false → place_by before done l e ≡ None
by_none before done l e h =
    let parts : (list_any (is_entry l e) (all_of before) || list_any (is_entry l e) done) ≡ false = sym (list_any-append (is_entry l e) (all_of before) done)
    ∙ h in
    ap (λ (p : Option Place). or_place p (place_in (gate_of before + 13) done l e))
    (from_none 8 before l e (or_left (list_any (is_entry l e) (all_of before)) (list_any (is_entry l e) done) parts))
    ∙ in_none (gate_of before + 13) done l e (or_right (list_any (is_entry l e) (all_of before)) (list_any (is_entry l e) done) parts)

-- the place of an item behind these
abbrev pub place_after : List (List Item) → List Item → Item → Place
place_after before done x = record { at = gate_of before + 13 + items_length done + 29; size = length (entry_in x) }

-- an item more gives its entry a place, where it has none
by_next : (before : List (List Item)) (done : List Item) (x : Item) (l e : ℕ) (t : Bool) → is_entry l e x ≡ t
    → place_by before (done ++ x ∷ []) l e ≡ or_place (place_by before done l e) (if t then Some (place_after before done x) else None)
by_next before done x l e t is =
    ap (or_place (place_of before l e)) (place_push (gate_of before + 13) done x l e)
    ∙ or_assoc (place_of before l e) (place_in (gate_of before + 13) done l e) (if is_entry l e x then Some (place_after before done x) else None)
    ∙ ap (λ s. or_place (place_by before done l e) (if s then Some (place_after before done x) else None)) is

-- ---- a step

-- what the table knows after an item of this entry
each_step : (before : List (List Item)) (done : List Item) (x : Item) (old new : Entries) (m f : ℕ) (added : Bool)
    → ((l e : ℕ) → is_entry l e x ≡ (m == l && f == e)) → ((l e : ℕ) → is_entry l e x ≡ true → is_add l e x ≡ added)
    → EntriesHold before done old → EntryAdded old new m f added (place_after before done x)
    → (l e : ℕ) → marks_at new l e ≡ entry_known (all_of before ++ (done ++ x ∷ [])) [] [] (place_by before (done ++ x ∷ []) l e) l e
each_step before done x old new m f added same adds holds now l e =
    now.each l e ∙ go (m == l && f == e) refl
    ∙ ap (λ (xs : List Item). entry_known xs [] [] (place_by before (done ++ x ∷ []) l e) l e) (append_assoc (all_of before) done (x ∷ []))
  where
    go : (t : Bool) → (m == l && f == e) ≡ t → (if t then Some (entry_added (marks_at old m f) added (place_after before done x)) else marks_at old l e)
        ≡ entry_known ((all_of before ++ done) ++ x ∷ []) [] [] (place_by before (done ++ x ∷ []) l e) l e
    go true w =
        let is : is_entry l e x ≡ true = same l e ∙ w in
        (λ i. Some (entry_added (marks_at old (eqb-true m l (first_of (m == l) (f == e) w) i) (eqb-true f e (second_of (m == l) (f == e) w) i))
        (sym (adds l e is) i) (place_after before done x)))
        ∙ ap (λ (o : Option EntryMarks). Some (entry_added o (is_add l e x) (place_after before done x))) (holds.each l e)
        ∙ sym (entry_push (all_of before ++ done) (place_by before done l e) (place_after before done x) l e x is (by_none before done l e))
        ∙ ap (λ (p : Option Place). entry_known ((all_of before ++ done) ++ x ∷ []) [] [] p l e) (sym (by_next before done x l e true is))
    go false w =
        let other : is_entry l e x ≡ false = same l e ∙ w in
        holds.each l e ∙ sym (entry_skip (all_of before ++ done) (place_by before done l e) l e x other)
        ∙ ap (λ (p : Option Place). entry_known ((all_of before ++ done) ++ x ∷ []) [] [] p l e)
        (sym (by_next before done x l e false other ∙ or_nothing (place_by before done l e)))

-- a choice gives a value where its test holds
pub if_some : {A : Type 0} (t : Bool) (x : A) → is_some (if t then Some x else None) ≡ t
if_some true x = refl
if_some false x = refl

-- an entry is in the table where an item has it
there_by : (before : List (List Item)) (done : List Item) (old : Entries) (m f : ℕ) → EntriesHold before done old
    → is_some (marks_at old m f) ≡ list_any (is_entry m f) (all_of before ++ done)
there_by before done old m f holds =
    ap (λ (o : Option EntryMarks). is_some o) (holds.each m f)
    ∙ if_some (list_any (is_entry m f) ((all_of before ++ done) ++ [])) _
    ∙ ap (list_any (is_entry m f)) (append-nil (all_of before ++ done))

-- 1 where it holds, else 0
abbrev pub one_if : Bool → ℕ
one_if t = if t then 1 else 0

-- 0 where it holds, else 1
abbrev pub one_unless : Bool → ℕ
one_unless t = if t then 0 else 1

-- the two counts of what is new are the same
pub one_new : (s t : Bool) → s ≡ t → one_unless s ≡ one_if (not t)
one_new s t e = ap one_unless e ∙ turn t
  where
    turn : (t : Bool) → one_unless t ≡ one_if (not t)
    turn true = refl
    turn false = refl

-- the count after an item of this entry
count_step : (before : List (List Item)) (done : List Item) (x : Item) (old new : Entries) (m f : ℕ)
    → ((seen : List Item) → is_new_entry x seen ≡ not (list_any (is_entry m f) seen))
    → EntriesHold before done old → length new ≡ length old + (if is_some (marks_at old m f) then 0 else 1)
    → length new ≡ entries_count (all_of before ++ (done ++ x ∷ []))
count_step before done x old new m f same holds now =
    omega (
      arith,
      now,
      holds.count,
      one_new (is_some (marks_at old m f)) (list_any (is_entry m f) (all_of before ++ done)) (there_by before done old m f holds),
      ap one_if (same (all_of before ++ done)),
      entries_push (all_of before ++ done) x,
      ap entries_count (append_assoc (all_of before) done (x ∷ [])),
    )

-- with room before, or no more than before, there are at most so many
pub few_step : (old new most : ℕ) (there : Bool) → old ≤ most → new ≡ old + one_unless there → (old < most) ⊎ (there ≡ true) → new ≤ most
few_step old new most there few now (inl less) = omega (arith, now, less, at_most there)
  where
    at_most : (t : Bool) → one_unless t ≤ 1
    at_most true = omega arith
    at_most false = omega arith
few_step old new most there few now (inr is) = omega (arith, now, few, ap one_unless is)

-- the table with one item more
entry_step : (before : List (List Item)) (done : List Item) (h : Head) (bytes : List ℕ) (old new : Entries)
    → EntriesHold before done old → AddsEntryOf old new h (place_after before done (item_of h bytes)) true
    → EntriesHold before (done ++ item_of h bytes ∷ []) new
entry_step before done (head.Add l e n) bytes old new holds now = record {
  each = each_step before done (AddItem l e n bytes) old new l e true (λ a c. refl) (λ a c is. is) holds now;
  count = count_step before done (AddItem l e n bytes) old new l e (λ seen. refl) holds now.count;
  few = few_step (length old) (length new) most_entries (is_some (marks_at old l e)) holds.few now.count now.room;
}
entry_step before done (head.Copy l e n) bytes old new holds now = record {
  each = each_step before done (CopyItem l e n bytes) old new l e false (λ a c. refl) (λ a c is. refl) holds now;
  count = count_step before done (CopyItem l e n bytes) old new l e (λ seen. refl) holds now.count;
  few = few_step (length old) (length new) most_entries (is_some (marks_at old l e)) holds.few now.count now.room;
}
entry_step before done (head.Fence l) bytes old new holds now = record {
  each = λ m f. ap (λ (es : Entries). marks_at es m f) now ∙ holds.each m f
      ∙ sym (entry_skip (all_of before ++ done) (place_by before done m f) m f (FenceItem l) refl)
      ∙ ap (λ (p : Option Place). entry_known ((all_of before ++ done) ++ FenceItem l ∷ []) [] [] p m f)
      (sym (by_next before done (FenceItem l) m f false refl ∙ or_nothing (place_by before done m f)))
      ∙ ap (λ (xs : List Item). entry_known xs [] [] (place_by before (done ++ FenceItem l ∷ []) m f) m f)
      (append_assoc (all_of before) done (FenceItem l ∷ []));
  count = omega (
    arith,
    ap (λ (es : Entries). length es) now,
    holds.count,
    entries_push (all_of before ++ done) (FenceItem l),
    ap entries_count (append_assoc (all_of before) done (FenceItem l ∷ [])),
  );
  few = omega (arith, ap (λ (es : Entries). length es) now, holds.few);
}

-- more items are no fewer
pub count_more : (new : Item → List Item → Bool) (seen xs ys : List Item) → count_new new seen xs ≤ count_new new seen (xs ++ ys)
unfolding count_new
count_more new seen [] ys = omega arith
count_more new seen (x ∷ xs) ys = omega (arith, count_more new (seen ++ x ∷ []) xs ys)

-- without room there are too many entries
entry_full : (before : List (List Item)) (done : List Item) (h : Head) (bytes : List ℕ) (old new : Entries) (place : Place)
    → EntriesHold before done old → AddsEntryOf old new h place false → most_entries < entries_count (all_of before ++ (done ++ item_of h bytes ∷ []))
entry_full before done h bytes old new place holds none = each h none
  where
    over : (x : Item) (m f : ℕ) → ((seen : List Item) → is_new_entry x seen ≡ not (list_any (is_entry m f) seen)) → NoEntryRoom old m f
        → most_entries < entries_count (all_of before ++ (done ++ x ∷ []))
    over x m f is room =
        let missing : list_any (is_entry m f) (all_of before ++ done) ≡ false = sym (there_by before done old m f holds)
        ∙ ap (λ (o : Option EntryMarks). is_some o) room.missing in
        let one : one_if (is_new_entry x (all_of before ++ done)) ≡ 1 = ap one_if (is (all_of before ++ done) ∙ ap not missing) in
        omega (
          arith,
          one,
          entries_push (all_of before ++ done) x,
          holds.count,
          room.full,
          ap entries_count (append_assoc (all_of before) done (x ∷ [])),
        )

    each : (h : Head) → AddsEntryOf old new h place false → most_entries < entries_count (all_of before ++ (done ++ item_of h bytes ∷ []))
    each (head.Add l e n) none = over (AddItem l e n bytes) l e (λ seen. refl) none
    each (head.Copy l e n) none = over (CopyItem l e n bytes) l e (λ seen. refl) none
    each (head.Fence l) none = absurd none

-- the place of an entry, by how much is counted before its item
place_is : (h : Head) (bytes : List ℕ) (at n : ℕ) (old new : Entries) → at ≡ n → AddsEntryOf old new h (record { at = at + 29; size = length bytes }) true
    → AddsEntryOf old new h (record { at = n + 29; size = length (entry_in (item_of h bytes)) }) true
place_is (head.Add l e c) bytes at n old new same a =
    subst (λ (k : ℕ). AddsEntryOf old new (head.Add l e c) (record { at = k + 29; size = length bytes }) true) same a
place_is (head.Copy l e c) bytes at n old new same a =
    subst (λ (k : ℕ). AddsEntryOf old new (head.Copy l e c) (record { at = k + 29; size = length bytes }) true) same a
place_is (head.Fence l) bytes at n old new same a = a

-- one item more is counted, or there are too many entries
pub entry_counted : (before : List (List Item)) (done : List Item) (h : Head) (bytes : List ℕ) (at : ℕ) (old new : Entries) (had has : Bool)
    → at ≡ gate_of before + 13 + items_length done → CountsEntry had old new h (record { at = at + 29; size = length bytes }) has
    → BatchAdded before done old had → BatchAdded before (done ++ item_of h bytes ∷ []) new has
entry_counted before done h bytes at old new true true place now was =
    entry_step before done h bytes old new was (place_is h bytes at (gate_of before + 13 + items_length done) old new place now)
entry_counted before done h bytes at old new true false place now was = entry_full before done h bytes old new (record { at = at + 29; size = length bytes }) was now
entry_counted before done h bytes at old new false true place now was = absurd now
entry_counted before done h bytes at old new false false place now was = omega (
  arith,
  was,
  count_more is_new_entry [] (all_of before ++ done) (item_of h bytes ∷ []),
  ap entries_count (append_assoc (all_of before) done (item_of h bytes ∷ [])),
)

-- ---- a batch

-- the items of batches with one more
pub all_push : (before : List (List Item)) (items : List Item) → all_of (before ++ items ∷ []) ≡ all_of before ++ items
all_push before items = flat_map-append (λ (b : List Item). b) before (items ∷ []) ∙ ap (λ (xs : List Item). all_of before ++ xs) (append-nil items)

-- all items of a batch are counted
entries_next : (before : List (List Item)) (items : List Item) (entries : Entries) → EntriesHold before items entries
    → EntriesHold (before ++ items ∷ []) [] entries
entries_next before items entries holds = record {
  each = λ l e. holds.each l e ∙ (λ i. entry_known (all i) [] [] (place l e i) l e);
  count = holds.count ∙ ap entries_count all;
  few = holds.few;
}
  where
    all : all_of before ++ items ≡ all_of (before ++ items ∷ []) ++ []
    all = sym (append-nil (all_of (before ++ items ∷ [])) ∙ all_push before items)

    place : (l e : ℕ) → place_by before items l e ≡ place_by (before ++ items ∷ []) [] l e
    place l e = sym (or_nothing (place_of (before ++ items ∷ []) l e) ∙ from_push 8 before items l e)

-- all items of a batch are counted, or there are too many entries
pub batch_counted : (before : List (List Item)) (items : List Item) (entries : Entries) (room : Bool) → BatchAdded before items entries room
    → BatchesAdded (before ++ items ∷ []) entries room
batch_counted before items entries true holds = entries_next before items entries holds
batch_counted before items entries false many = omega (arith, many, ap entries_count (all_push before items))

-- before the first item of a batch those of the batches before it are counted
pub batch_begins : (before : List (List Item)) (entries : Entries) (room : Bool) → BatchesAdded before entries room → BatchAdded before [] entries room
batch_begins before entries true holds = holds
batch_begins before entries false many = omega (arith, many, ap entries_count (append-nil (all_of before)))

-- no items have no entries
no_entries : 0 ≡ entries_count []
unfolding count_new
no_entries = refl

-- the empty table holds nothing
pub entries_none : EntriesHold [] [] []
entries_none = record { each = λ l e. refl; count = no_entries; few = omega arith }

-- What a pass over the batches leaves is that of a load.
use Rattle.std.proofs.Common.{◌≡◌, ℕ, ◌+◌, ◌<◌, ◌≤◌, Bool, true, false, ◌==◌, ◌||◌, nat_lt, if◌then◌else◌, List, [], ◌∷◌, ◌++◌, length, Result, Ok, Err, refl}
use Rattle.std.proofs.Common.{sym, ap, ◌∙◌, arith, append-nil, length-append}
use Rattle.std.specs.List.{AllByRecursion}
use Rattle.std.proofs.lemmas.Bool.Decides.{nat_tests}
use Rattle.std.proofs.lemmas.List.Concat.{flat_map-cons}
use Rattle.dl_fields.proofs.ReaderLemmas.{err_is}
use Rattle.dl_msg.specs.declared.resource.Resource.TheVariants.{Index, Ledgers}
use Rattle.dl_rules_nodes.specs.Limits.{longest_batch, most_entries, most_ledgers}
use Rattle.dl_rules_nodes.specs.Items.{Item, body_of, item_bytes, IsBatch}
use Rattle.dl_rules_nodes.specs.Counts.{entries_count, ledgers_count}
use Rattle.dl_rules_nodes.specs.Bookies.{Bookie}
use Rattle.dl_rules_nodes.specs.Reading.{batch_at, with_place, items_in}
use Rattle.dl_rules_nodes.specs.Loads.{◌>>=◌, IsDamaged, IsCrowded, batches_at, taken_over, or_damaged, loaded_bookie}
use Rattle.dl_rules_nodes.proofs.ItemLaws.{lengths_are_of_bytes, bodies_are_exact}
use Rattle.dl_items.specs.Reading.{verdict, IsBody}
use Rattle.dl_items.proofs.ReadLemmas.{some_bytes}
use Rattle.dl_marks.specs.Tables as tables
use Rattle.dl_marks.specs.Places.{place_of}
use Rattle.dl_marks.specs.Known.{entry_known}
use Rattle.dl_marks.proofs.BoolLemmas.{or_false}
use Rattle.dl_marks.proofs.MoveLemmas.{or_nothing}
use Rattle.dl_restore.specs.Bodies.{AllSpell, all_of}
use Rattle.dl_restore.specs.Entries.{EntriesHold}
use Rattle.dl_restore.specs.Ledgers.{LedgersHold}
use Rattle.dl_restore.specs.Restoring.{Restored}

-- a fault of the batches is that of the load
pub is_damaged : (first at : ℕ) (bodies : List (List ℕ)) → verdict (batches_at 8 bodies) ≡ Err at → loaded_bookie first bodies ≡ Err (IsDamaged at)
unfolding loaded_bookie
is_damaged first at bodies e = go (batches_at 8 bodies) e
  where
    go : (r : Result (List (List Item)) ℕ) → verdict r ≡ Err at → (or_damaged r >>= λ batches. taken_over first batches) ≡ Err (IsDamaged at)
    go (Ok batches) w = absurd cc
    go (Err other) w = let same : other ≡ at = err_is other at w in ap (λ (n : ℕ). Err (IsDamaged n)) same

-- ---- reading what is spelt

-- what is more than 0 is not 0
not_none : (n : ℕ) → 0 < n → (n == 0) ≡ false
not_none n some = grind (arith, nat_tests)

-- what is at most a number is not above it
not_long : (m n : ℕ) → n ≤ m → nat_lt m n ≡ false
not_long m n le = grind (arith, nat_tests)

-- the choice where the test fails
chosen : {A : Type 0} (t : Bool) (x y : A) → t ≡ false → (if t then x else y) ≡ y
chosen true x y e = absurd (let k : true ≡ false = e in cc)
chosen false x y e = refl

-- a batch with an item has a body that is not empty
body_some : (items : List Item) → 0 < length items → 0 < length (body_of items)
body_some [] some = absurd (omega (arith, some))
body_some (x ∷ xs) some = omega (arith, ap length (flat_map-cons item_bytes x xs), length-append (item_bytes x) (body_of xs), some_bytes x)

-- the spelling of a batch is read as it
read_one : (gate : ℕ) (body : List ℕ) (items : List Item) → IsBatch items → body ≡ body_of items → batch_at gate body ≡ Ok items
read_one gate body items is spelt =
    chosen (length body == 0 || nat_lt longest_batch (length body)) (Err (gate + 9)) (with_place (gate + 13 + length body) (items_in body))
    (or_false (length body == 0) (nat_lt longest_batch (length body)) (not_none (length body) (omega (arith, ap length spelt, body_some items is.some)))
    (not_long longest_batch (length body) (omega (arith, ap length spelt, lengths_are_of_bytes.items items, is.short))))
    ∙ ap (with_place (gate + 13 + length body)) (ap items_in spelt ∙ bodies_are_exact.again items is.each)

-- Bodies are read as batches that they spell.
pub record AllRead (gate : ℕ) (bodies : List (List ℕ)) (batches : List (List Item)) : Type 0 where
  pub read : batches_at gate bodies ≡ Ok batches
  pub spell : AllSpell bodies batches

-- bodies that spell batches are read as them
read_all : (gate : ℕ) (bodies : List (List ℕ)) → AllByRecursion IsBody bodies → (batches : List (List Item)) × AllRead gate bodies batches
unfolding batches_at
read_all gate [] all = ([], record { read = refl; spell = tt })
read_all gate (body ∷ bodies) all =
    let one = all.0 in
    let more = read_all (gate + 13 + length body) bodies all.1 in (
      one.0 ∷ more.0,
      record {
        read = ap (λ (r : Result (List Item) ℕ). r >>= λ items. batches_at (gate + 13 + length body) bodies >>= λ batches. Ok (items ∷ batches))
            (read_one gate body one.0 one.1 one.2)
            ∙ ap (λ (r : Result (List (List Item)) ℕ). r >>= λ batches. Ok (one.0 ∷ batches)) more.1.read;
        spell = (record { valid = one.1.each; spelt = one.2 }, more.1.spell);
      },
    )

-- ---- the answers

-- a load of what is read is that of the tables
loads : (first : ℕ) (bodies : List (List ℕ)) (batches : List (List Item)) → AllRead 8 bodies batches → loaded_bookie first bodies ≡ taken_over first batches
unfolding loaded_bookie
loads first bodies batches all = ap (λ (r : Result (List (List Item)) ℕ). or_damaged r >>= λ xs. taken_over first xs) all.read

-- what is above a number is tested so
over : (m n : ℕ) → m < n → nat_lt m n ≡ true
over m n lt = grind (arith, nat_tests)

-- the choice where the test holds
picked : {A : Type 0} (t : Bool) (x y : A) → t ≡ true → (if t then x else y) ≡ x
picked true x y e = refl
picked false x y e = absurd (let k : false ≡ true = e in cc)

-- too many entries
pub is_crowded : (first : ℕ) (bodies : List (List ℕ)) → AllByRecursion IsBody bodies
    → ((items : List (List Item)) → AllSpell bodies items → most_entries < entries_count (all_of items)) → loaded_bookie first bodies ≡ Err (IsCrowded Index)
is_crowded first bodies all many =
    let r = read_all 8 bodies all in
    loads first bodies r.0 r.1 ∙ picked _ _ _ (over most_entries (entries_count (all_of r.0)) (many r.0 r.1.spell))

-- a table that holds all items shows that their entries are few enough
hold_few : (items : List (List Item)) (es : tables.Entries) → EntriesHold items [] es → entries_count (all_of items) ≤ most_entries
hold_few items es h = omega (arith, h.count, h.few, ap entries_count (append-nil (all_of items)))

-- too many ledgers
pub is_crowded_with : (first : ℕ) (bodies : List (List ℕ)) (es : tables.Entries) → AllByRecursion IsBody bodies
    → ((items : List (List Item)) → AllSpell bodies items → EntriesHold items [] es)
    → ((items : List (List Item)) → AllSpell bodies items → most_ledgers < ledgers_count (all_of items)) → loaded_bookie first bodies ≡ Err (IsCrowded Ledgers)
is_crowded_with first bodies es all holds many =
    let r = read_all 8 bodies all in
    loads first bodies r.0 r.1
    ∙ chosen _ _ _ (not_long most_entries (entries_count (all_of r.0)) (hold_few r.0 es (holds r.0 r.1.spell)))
    ∙ picked _ _ _ (over most_ledgers (ledgers_count (all_of r.0)) (many r.0 r.1.spell))

-- the tables hold all
pub is_restored : (first : ℕ) (bodies : List (List ℕ)) (es : tables.Entries) (ls : tables.Ledgers) → AllByRecursion IsBody bodies
    → ((items : List (List Item)) → AllSpell bodies items → EntriesHold items [] es)
    → ((items : List (List Item)) → AllSpell bodies items → LedgersHold (all_of items) ls) → (b : Bookie) × Restored first bodies es ls b
is_restored first bodies es ls all entries ledgers =
    let r = read_all 8 bodies all in
    let e = entries r.0 r.1.spell in
    let l = ledgers r.0 r.1.spell in
    let nil : all_of r.0 ++ [] ≡ all_of r.0 = append-nil (all_of r.0) in (
      record { first = first; batches = r.0; queue = [] },
      record {
        loaded = loads first bodies r.0 r.1
            ∙ chosen _ _ _ (not_long most_entries (entries_count (all_of r.0)) (hold_few r.0 es e))
            ∙ chosen _ _ _ (not_long most_ledgers (ledgers_count (all_of r.0)) (omega (arith, l.count, l.few)));
        number = refl;
        idle = refl;
        spell = r.1.spell;
        entries = λ m f. e.each m f ∙ (λ i. entry_known (nil i) [] [] (or_nothing (place_of r.0 m f) i) m f);
        entries_kept = e.count;
        ledgers = λ m. l.each m;
        ledgers_kept = l.count ∙ ap ledgers_count (sym nil);
      },
    )

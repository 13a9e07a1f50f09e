-- A node that is loaded stands for what the batches of its file give.
use Rattle.std.proofs.Common.{◌≡◌, inl, inr, ℕ, ◌+◌, List, [], ◌∷◌, ◌++◌, length, false, Some, Result, Ok, Err}
use Rattle.std.proofs.Common.{flat_map, sum_by, Vec, sym, refl, ap, subst, ◌∙◌, arith, append-nil}
use Rattle.std.specs.declared.alloc.Global.{Global}
use Rattle.std.specs.List.{AllZip, AllByRecursion}
use Rattle.std.proofs.lemmas.List.Sums.{sum_by-cons}
use Rattle.std.proofs.lemmas.List.Concat.{flat_map-cons}
use Rattle.dl_depot.specs.View.{View}
use Rattle.dl_depot.proofs.Moments.{keeps_refl}
use Rattle.dl_journal.specs.State.{JournalState}
use Rattle.dl_journal.specs.declared.batch.Batch.{Batch}
use Rattle.dl_journal.specs.Batches.{spell, Runs, InRow}
use Rattle.dl_journal.specs.Settled.{IsSettled}
use Rattle.dl_journal.specs.Load.{Loaded}
use Rattle.dl_journal.specs.declared.load_fault.LoadFault.{LoadFault as JournalFault}
use Rattle.dl_journal.specs.declared.load_fault.LoadFault.TheVariants as journal
use Rattle.dl_journal.proofs.Staging.{some_inj, at_rest}
use Rattle.dl_msg.specs.declared.resource.Resource.{Resource}
use Rattle.dl_pool.specs.Pools.{empty_pool}
use Rattle.dl_rules_nodes.specs.Limits.{pool_pages}
use Rattle.dl_rules_nodes.specs.Items.{Item, AddItem, CopyItem, FenceItem, IsItem, items_length}
use Rattle.dl_rules_nodes.specs.Bookies.{Bookie, Waiting, items_of, durable}
use Rattle.dl_rules_nodes.specs.Loads.{LoadStop, IsDamaged, IsCrowded, loaded_bookie}
use Rattle.dl_rules_nodes.proofs.ItemLaws.{lengths_are_of_bytes}
use Rattle.dl_marks.specs.Tables.{Entries, Ledgers}
use Rattle.dl_restore.specs.Bodies.{bodies_of, AllSpell}
use Rattle.dl_restore.specs.Restoring.{Restored, stop_of}
use Rattle.dl_restore.specs.declared.fault.RestoreFault.{RestoreFault}
use Rattle.dl_restore.specs.declared.fault.RestoreFault.TheVariants as items
use Rattle.dl_restore.proofs.CheckLemmas.{spell_length}
use Rattle.dl_bookie.specs.Facts.{BookieFacts}
use Rattle.dl_bookie.specs.Standing.{StandsFor, HasEntry, IsQueued, numbered, batches_of}
use Rattle.dl_bookie.specs.declared.load_fault.LoadFault.{LoadFault}
use Rattle.dl_bookie.specs.declared.load_fault.LoadFault.TheVariants as node
use Rattle.dl_bookie.specs.Faults.{fault_of_journal, fault_of_items}
use Rattle.dl_bookie.specs.Loading.{IsLoaded, LoadsNode, StopsItems}
use Rattle.dl_bookie.proofs.ViewLemmas.{moment_same}
use Rattle.dl_bookie.proofs.CommitLemmas.{told_before}

-- what is kept of a node with this journal and these tables, and without a queue
abbrev pub kept_of : JournalState → Entries → Ledgers → BookieFacts
kept_of j es ls = record { journal = j; pool = empty_pool pool_pages; entries = es; ledgers = ls; queue = []; bytes = 0; failed = false }

-- ---- the file

-- batches in a row are those of the items that they spell
numbered_is : (first : ℕ) (batches : List Batch) (items : List (List Item))
    → Runs first batches → AllSpell (bodies_of batches) items → numbered first items ≡ batches
numbered_is first [] [] runs s = refl
numbered_is first [] (x ∷ xs) runs s = absurd s
numbered_is first (b ∷ bs) [] runs s = absurd s
numbered_is first (b ∷ bs) (x ∷ xs) runs s =
    λ i. record { number = sym runs.0 i; body = sym s.0.spelt i } ∷ numbered_is (first + 1) bs xs runs.1.1.1 s.1 i

-- there are as many
same_length : (batches : List Batch) (items : List (List Item)) → AllSpell (bodies_of batches) items → length items ≡ length batches
same_length [] [] s = refl
same_length [] (x ∷ xs) s = absurd s
same_length (b ∷ bs) [] s = absurd s
same_length (b ∷ bs) (x ∷ xs) s = omega (arith, same_length bs xs s.1)

-- and as long
spelled_length : (batches : List Batch) (items : List (List Item)) → AllSpell (bodies_of batches) items
    → length (spell batches) ≡ sum_by (λ batch. 13 + items_length batch) items
spelled_length [] [] s = refl
spelled_length [] (x ∷ xs) s = absurd s
spelled_length (b ∷ bs) [] s = absurd s
spelled_length (b ∷ bs) (x ∷ xs) s =
    omega (
      arith,
      spell_length b bs,
      ap length s.0.spelt,
      lengths_are_of_bytes.items x,
      spelled_length bs xs s.1,
      sum_by-cons (λ batch. 13 + items_length batch) x xs,
    )

-- ---- whole entries

-- an item that has a spelling has a whole entry, where it has one
item_whole : (x : Item) → IsItem x → HasEntry x
item_whole (AddItem l e n bytes) v = v.1.1.1
item_whole (CopyItem l e n bytes) v = v.1.1.1
item_whole (FenceItem l) v = tt

-- so have those before others
whole_join : (xs ys : List Item) → AllByRecursion IsItem xs → AllByRecursion HasEntry ys → AllByRecursion HasEntry (xs ++ ys)
whole_join [] ys valid all = all
whole_join (x ∷ xs) ys valid all = (item_whole x valid.0, whole_join xs ys valid.1 all)

-- and those of all batches
all_whole : (bodies : List (List ℕ)) (items : List (List Item)) → AllSpell bodies items → AllByRecursion HasEntry (flat_map (λ batch. batch) items)
all_whole [] [] s = tt
all_whole [] (x ∷ xs) s = absurd s
all_whole (b ∷ bs) [] s = absurd s
all_whole (b ∷ bs) (x ∷ xs) s =
    subst (λ (ys : List Item). AllByRecursion HasEntry ys) (sym (flat_map-cons (λ batch. batch) x xs))
    (whole_join x (flat_map (λ batch. batch) xs) s.0.valid (all_whole bs xs s.1))

-- with nothing in the queue these are all items
whole_idle : (b : Bookie) → b.queue ≡ [] → AllByRecursion HasEntry (durable b) → AllByRecursion HasEntry (durable b ++ items_of b.queue)
whole_idle b idle all =
    subst (λ (ws : List Waiting). AllByRecursion HasEntry (durable b ++ items_of ws)) (sym idle)
    (subst (λ (ys : List Item). AllByRecursion HasEntry ys) (sym (append-nil (durable b))) all)

-- ---- the node

-- what is kept stands for it
stands_loaded : (j : JournalState) (batches : List Batch) (es : Entries) (ls : Ledgers) (b : Bookie) (row : InRow j.gate j.next batches)
    → Restored row.first (bodies_of batches) es ls b → StandsFor b (kept_of j es ls)
stands_loaded j batches es ls b row r = record {
  tables = record { entries = r.entries; entries_kept = r.entries_kept; ledgers = r.ledgers; ledgers_kept = r.ledgers_kept };
  queue = subst (λ (ws : List Waiting). AllZip (IsQueued (empty_pool pool_pages)) [] ws) (sym r.idle) tt;
  gate = row.place ∙ ap (λ n. 8 + n) (spelled_length batches b.batches r.spell);
  next = omega (arith, row.follows, r.number, same_length batches b.batches r.spell);
  works = refl;
  whole = whole_idle b r.idle (all_whole (bodies_of batches) b.batches r.spell);
}

-- its batches are those of the file
batches_same : (gate next : ℕ) (batches : List Batch) (es : Entries) (ls : Ledgers) (b : Bookie) (row : InRow gate next batches)
    → Restored row.first (bodies_of batches) es ls b → batches_of b ≡ batches
batches_same gate next batches es ls b row r =
    ap (λ n. numbered n b.batches) r.number ∙ numbered_is row.first batches b.batches row.runs r.spell

-- the node is that of the file
is_loaded : (old new : View) (file : ℕ) (j : JournalState) (v : Vec Batch Global) (es : Entries) (ls : Ledgers) (b : Bookie)
    (l : Loaded old new file (Ok (j, v))) → Restored l.in_row.first (bodies_of v.items) es ls b → IsLoaded old new file (kept_of j es ls) b
is_loaded old new file j v es ls b l r =
    let same : batches_of b ≡ v.items = batches_same j.gate j.next v.items es ls b l.in_row r in
    let told : (was : List ℕ) → old.shown file ≡ Some was → IsSettled new j was (batches_of b) =
    λ was is. subst (λ (bs : List Batch). IsSettled new j was bs) (sym same) (l.ok was is) in
    record {
      stands = stands_loaded j v.items es ls b l.in_row r;
      on_file = λ shown is. on_file shown (subst (λ f. new.shown f ≡ Some shown) l.same is) told;
      told = told;
      loaded = (λ i. loaded_bookie (r.number i) (bodies_of (same i))) ∙ r.loaded;
      idle = r.idle;
      file_same = l.same;
      goes_on = l.stands;
    }
  where
    on_file : (shown : List ℕ) → new.shown file ≡ Some shown → ((was : List ℕ) → old.shown file ≡ Some was → IsSettled new j was (batches_of b))
        → IsSettled new j shown (batches_of b)
    on_file shown is told =
        let before = told_before (old.shown file) (new.shown file) shown (l.reads.keeps.told file) is in
        let settled : IsSettled new j before.0 (batches_of b) = told before.0 before.1 in
        subst (λ (bytes : List ℕ). IsSettled new j bytes (batches_of b))
        (some_inj before.0 shown (sym settled.on_disk.shown ∙ subst (λ f. new.shown f ≡ Some shown) (sym l.same) is)) settled

-- a load whose items give a node
pub loads_node : (old new : View) (file : ℕ) (j : JournalState) (v : Vec Batch Global) (es : Entries) (ls : Ledgers) (k : BookieFacts)
    (l : Loaded old new file (Ok (j, v))) → ((b : Bookie) × Restored l.in_row.first (bodies_of v.items) es ls b) → k ≡ kept_of j es ls
    → LoadsNode old new file (Ok k)
loads_node old new file j v es ls k l r is =
    subst (λ (n : BookieFacts). LoadsNode old new file (Ok n)) (sym is) (record {
      keeps = l.reads.keeps;
      images = l.reads.images;
      node = (r.0, is_loaded old new file j v es ls r.0 l r.1);
      too_large = λ n e. absurd cc;
      damaged = λ at e. absurd cc;
      crowded = λ what e. absurd cc;
      counts = l.reads.counts;
      calls = record { told = l.reads.calls.told; fronts = l.reads.calls.fronts; unset = l.reads.calls.unset };
    })

-- ---- faults

-- a load that failed
abbrev pub failure : LoadFault → Result BookieFacts LoadFault
failure fault = Err fault

-- faults of one kind that are the same have the same place, resource or size
damaged_same : (m n : ℕ) → failure (node.Damaged m) ≡ failure (node.Damaged n) → m ≡ n
damaged_same m n e = cc

-- two failures for want of places are of one table
crowded_same : (m n : Resource) → failure (node.Crowded m) ≡ failure (node.Crowded n) → m ≡ n
crowded_same m n e = cc

-- two failures by size are of one size
large_same : (m n : ℕ) → failure (node.TooLarge m) ≡ failure (node.TooLarge n) → m ≡ n
large_same m n e = cc

-- memory ran out before a call
pub no_room : (v : View) (file : ℕ) → LoadsNode v v file (Err node.NoMemory)
no_room v file = record {
  keeps = keeps_refl file v;
  images = λ t c from to image. subst (λ (m : ℕ). v.image file m c) (moment_same v t from to) image;
  node = tt;
  too_large = λ n e. absurd cc;
  damaged = λ at e. absurd cc;
  crowded = λ what e. absurd cc;
  counts = refl;
  calls = record { told = λ calls is. tt; fronts = λ calls is. (0, is ∙ ap Some (sym (append-nil calls))); unset = λ is. is };
}

-- the journal was not loaded
pub no_journal : (old new : View) (file : ℕ) (fault : JournalFault) → Loaded old new file (Err fault) → LoadsNode old new file (Err (fault_of_journal fault))
no_journal old new file (journal.Damaged at) l = record {
  keeps = l.reads.keeps;
  images = l.reads.images;
  node = tt;
  too_large = λ n e. absurd cc;
  damaged = λ n e was is. inl (l.damaged n (ap (λ (m : ℕ). Err (journal.Damaged m)) (damaged_same at n e)) was is);
  crowded = λ what e. absurd cc;
  counts = l.reads.counts;
  calls = record { told = λ calls is. tt; fronts = l.reads.calls.fronts; unset = l.reads.calls.unset };
}
no_journal old new file (journal.TooLarge size) l = record {
  keeps = l.reads.keeps;
  images = l.reads.images;
  node = tt;
  too_large = λ n e. l.reads.too_large n (ap (λ (m : ℕ). Err (journal.TooLarge m)) (large_same size n e));
  damaged = λ at e. absurd cc;
  crowded = λ what e. absurd cc;
  counts = l.reads.counts;
  calls = record { told = λ calls is. tt; fronts = l.reads.calls.fronts; unset = l.reads.calls.unset };
}
no_journal old new file journal.Device l = record {
  keeps = l.reads.keeps;
  images = l.reads.images;
  node = tt;
  too_large = λ n e. absurd cc;
  damaged = λ at e. absurd cc;
  crowded = λ what e. absurd cc;
  counts = l.reads.counts;
  calls = record { told = λ calls is. tt; fronts = l.reads.calls.fronts; unset = l.reads.calls.unset };
}
no_journal old new file journal.NoMemory l = record {
  keeps = l.reads.keeps;
  images = l.reads.images;
  node = tt;
  too_large = λ n e. absurd cc;
  damaged = λ at e. absurd cc;
  crowded = λ what e. absurd cc;
  counts = l.reads.counts;
  calls = record { told = λ calls is. tt; fronts = l.reads.calls.fronts; unset = l.reads.calls.unset };
}

-- the batches of the file give no node
stops_items : (old new : View) (file : ℕ) (j : JournalState) (v : Vec Batch Global) (stop : LoadStop) (was : List ℕ)
    → Loaded old new file (Ok (j, v)) → ((first : ℕ) → loaded_bookie first (bodies_of v.items) ≡ Err stop) → old.shown file ≡ Some was
    → StopsItems was stop
stops_items old new file j v stop was l stops is =
    record { batches = v.items; journal = at_rest new j was v.items (l.ok was is); stops = stops }

-- so the load has their fault
pub no_tables : (old new : View) (file : ℕ) (j : JournalState) (v : Vec Batch Global) (fault : RestoreFault) → Loaded old new file (Ok (j, v))
    → ((first : ℕ) → loaded_bookie first (bodies_of v.items) ≡ Err (stop_of fault)) → LoadsNode old new file (Err (fault_of_items fault))
no_tables old new file j v (items.Damaged at) l stops = record {
  keeps = l.reads.keeps;
  images = l.reads.images;
  node = tt;
  too_large = λ n e. absurd cc;
  damaged = λ n e was is. inr (subst (λ (m : ℕ). StopsItems was (IsDamaged m)) (damaged_same at n e)
      (stops_items old new file j v (IsDamaged at) was l stops is));
  crowded = λ what e. absurd cc;
  counts = l.reads.counts;
  calls = record { told = λ calls is. tt; fronts = l.reads.calls.fronts; unset = l.reads.calls.unset };
}
no_tables old new file j v (items.Crowded what) l stops = record {
  keeps = l.reads.keeps;
  images = l.reads.images;
  node = tt;
  too_large = λ n e. absurd cc;
  damaged = λ at e. absurd cc;
  crowded = λ w e was is. subst (λ (r : Resource). StopsItems was (IsCrowded r)) (crowded_same what w e)
      (stops_items old new file j v (IsCrowded what) was l stops is);
  counts = l.reads.counts;
  calls = record { told = λ calls is. tt; fronts = l.reads.calls.fronts; unset = l.reads.calls.unset };
}

-- A store is loaded: the size of its file, its journal, and then its items.
use Rattle.std.proofs.Common.{◌≡◌, ◌≢◌, ◌⊎◌, inl, inr, ℕ, ◌+◌, ◌≤◌, ◌<◌, ◌==◌, Bool, false, List, [], ◌∷◌, ◌++◌, length, take, Option, Some, None, Result, Ok}
use Rattle.std.proofs.Common.{Err, true, Vec, IfOk, MatchOption, IsErrOf, sym, ap, ◌∙◌, subst, refl, arith}
use Rattle.std.specs.declared.alloc.Global.{Global}
use Rattle.std.proofs.lemmas.List.{append-nil}
use Rattle.dl_depot.specs.View.{View, Keeps}
use Rattle.dl_depot.specs.Device.{Looks, Sized}
use Rattle.dl_depot.specs.declared.device_call.DeviceCall.{DeviceCall}
use Rattle.dl_depot.specs.declared.device_call.DeviceCall.TheVariants.{Sync}
use Rattle.dl_depot.specs.declared.device_fault.DeviceFault.{DeviceFault}
use Rattle.dl_depot.proofs.Moments.{keeps_trans, ordered}
use Rattle.dl_journal.specs.declared.batch.Batch.{Batch}
use Rattle.dl_journal.specs.declared.load_fault.LoadFault.{LoadFault}
use Rattle.dl_journal.specs.declared.load_fault.LoadFault.TheVariants as load
use Rattle.dl_journal.specs.State.{JournalState}
use Rattle.dl_journal.specs.Batches.{IsJournal}
use Rattle.dl_journal.specs.Load.{CountsLoad, ReadsFile, Loaded}
use Rattle.dl_journal.specs.Settled.{IsSettled, Stands}
use Rattle.dl_journal.proofs.Staging.{at_rest}
use Rattle.dl_journal.proofs.Through.{rose_on}
use Rattle.dl_tree.specs.Trees.{Nodes}
use Rattle.dl_session.specs.Sessions.{Known}
use Rattle.dl_rules_nodes.specs.Items.{MetaItem}
use Rattle.dl_rules_nodes.specs.Metadata.{MetaNode, nothing, meta_of}
use Rattle.dl_rules_nodes.specs.MetaOrder.{bodies_of}
use Rattle.dl_rules_nodes.specs.Loads.{◌>>=◌, meta_items_at, loaded_meta}
use Rattle.dl_meta.specs.declared.meta_fault.MetaFault.{MetaFault}
use Rattle.dl_meta.specs.declared.meta_fault.MetaFault.TheVariants as fault
use Rattle.dl_meta.specs.State.{MetaState}
use Rattle.dl_meta.specs.Standing.{meta_file, numbered, batches_of, StandsFor}
use Rattle.dl_meta.specs.Turns.{CountsFaults}
use Rattle.dl_meta.specs.Loading.{bodies_in, span, meta_with, DoesItems, DoesBodies, BreaksItems, IsFrom, AnswersLoad, IsStanding, Loads, fault_of}
use Rattle.dl_meta.proofs.Files.{length-bodies}
use Rattle.dl_meta.proofs.Replays.{length-spelt, numbered_is, gate_behind, length-bodies_in}

-- what stays as it was, and what calls were made, until the file was read
record Reads (old new : View) : Type 0 where
  keeps : Keeps meta_file old new
  images : (t : ℕ) (c : List ℕ) → old.moment ≤ t → t ≤ new.moment → new.image meta_file t c → old.image meta_file old.moment c
  calls : (calls : List DeviceCall) → old.calls meta_file ≡ Some calls → (n : ℕ) × (new.calls meta_file ≡ Some (calls ++ take n (Sync ∷ [])))
  unset : old.fuse meta_file ≡ Some None → new.fuse meta_file ≡ Some None

-- with what was answered
loads : (old new : View) (result : Result (Option MetaState) MetaFault) → Reads old new → CountsFaults (old.faults meta_file) (new.faults meta_file) result
    → ((bytes : List ℕ) → old.shown meta_file ≡ Some bytes → AnswersLoad new bytes result) → IfOk result (λ o. MatchOption o (Unit {0}) (IsStanding new))
    → Loads old new result
loads old new result r counts answers standing = record {
  keeps = r.keeps;
  images = r.images;
  counts = counts;
  calls = r.calls;
  unset = r.unset;
  answers = answers;
  standing = standing;
}

-- the size alone
looked : (a b : View) → Looks a b meta_file → Reads a b
looked a b l = record {
  keeps = l.keeps;
  images = λ t c from to image. (l.images t c from to).0 image;
  calls = λ calls is. (0, l.same_calls ∙ is ∙ ap (λ (x : List DeviceCall). Some x) (sym (append-nil calls)));
  unset = λ is. l.same_fuse ∙ is;
}

-- and then the file
read_on : {X : Type 0} (a m b : View) (result : Result X LoadFault) → Looks a m meta_file → ReadsFile m b meta_file result → Reads a b
read_on a m b result l r = record {
  keeps = keeps_trans meta_file a m b l.keeps r.keeps;
  images = λ t c from to image. elim (ordered t m.moment) [
    | inl early ↦ (l.images t c from early).0 ((r.keeps.past meta_file t c early).0 image)
    | inr late ↦ (l.images m.moment c l.keeps.later (omega arith)).0 (r.images t c (omega (arith, late)) to image)
  ];
  calls = λ calls is. r.calls.fronts calls (l.same_calls ∙ is);
  unset = λ is. r.calls.unset (l.same_fuse ∙ is);
}

-- a list of no length is empty
is_empty : (bytes : List ℕ) → 0 ≡ length bytes → bytes ≡ []
is_empty [] e = refl
is_empty (x ∷ xs) e = absurd (omega (arith, e))

-- an empty file
pub empty_loads : (a b : View) → Sized a b meta_file (Ok 0) → Loads a b (Ok None)
empty_loads a b s = loads a b (Ok None) (looked a b s.looks) s.counts.passed (λ bytes is. inl (is_empty bytes (s.size bytes is))) tt

-- no size
pub unsized_loads : (a b : View) (e : DeviceFault) → Sized a b meta_file (Err e) → Loads a b (Err fault.Device)
unsized_loads a b e s = loads a b (Err fault.Device) (looked a b s.looks) s.counts.failed (λ bytes is. tt) tt

module _ (a m b : View) (size : ℕ) (sized : Sized a m meta_file (Ok size)) (some : size ≢ 0) where
  shown : (bytes : List ℕ) → a.shown meta_file ≡ Some bytes → m.shown meta_file ≡ Some bytes
  shown bytes is = sized.looks.same_shown ∙ is

  not_empty : (bytes : List ℕ) → a.shown meta_file ≡ Some bytes → bytes ≢ []
  not_empty bytes is none = some (sized.size bytes is ∙ ap length none)

  -- the journal wasn't loaded
  pub unread_loads : (e : LoadFault) → Loaded m b meta_file (Err e) → Loads a b (Err (fault_of e))
  unread_loads e l = loads a b (Err (fault_of e)) (read_on a m b _ sized.looks l.reads) (counts e l.reads.counts) (λ bytes is. answers e l bytes is) tt
    where
      counts : (e : LoadFault) → CountsLoad {X = JournalState × Vec Batch Global} (m.faults meta_file) (b.faults meta_file) (Err e)
          → CountsFaults {A = Option MetaState} (a.faults meta_file) (b.faults meta_file) (Err (fault_of e))
      counts (load.Damaged at) same = same ∙ sized.counts.passed
      counts (load.TooLarge n) same = same ∙ sized.counts.passed
      counts load.Device rose = rose_on _ _ _ sized.counts.passed rose
      counts load.NoMemory same = same ∙ sized.counts.passed

      answers : (e : LoadFault) → Loaded m b meta_file (Err e) → (bytes : List ℕ) → a.shown meta_file ≡ Some bytes → AnswersLoad b bytes (Err (fault_of e))
      answers (load.Damaged at) l bytes is = let d = l.damaged at refl bytes (shown bytes is) in (d.0, (not_empty bytes is, inl d.1))
      answers (load.TooLarge n) l bytes is = let t = l.reads.too_large n refl in (t.0, t.1 bytes (shown bytes is))
      answers load.Device l bytes is = tt
      answers load.NoMemory l bytes is = tt

  module _ (j : JournalState) (batches : Vec Batch Global) (l : Loaded m b meta_file (Ok (j, batches))) where
    same_count : b.faults meta_file ≡ a.faults meta_file
    same_count = l.reads.counts ∙ sized.counts.passed

    read : Reads a b
    read = read_on a m b _ sized.looks l.reads

    -- no batch is in force
    pub none_loads : batches.items ≡ [] → Loads a b (Ok None)
    none_loads none = loads a b (Ok None) read same_count
        (λ bytes is. inr (subst (IsJournal bytes) none (at_rest b j bytes batches.items (l.ok bytes (shown bytes is))))) tt

    -- memory ran out, or an item is broken
    pub memory_loads : Loads a b (Err fault.NoMemory)
    memory_loads = loads a b (Err fault.NoMemory) read same_count (λ bytes is. tt) tt

    pub broken_loads : (at : ℕ) → meta_items_at 8 true nothing [] (bodies_in batches.items) ≡ Err at → Loads a b (Err (fault.Damaged at))
    unfolding loaded_meta
    broken_loads at e = loads a b (Err (fault.Damaged at)) read same_count (λ bytes is. answers bytes (l.ok bytes (shown bytes is)) is) tt
      where
        answers : (bytes : List ℕ) → IsSettled b j bytes batches.items → a.shown meta_file ≡ Some bytes → AnswersLoad b bytes (Err (fault.Damaged at))
        answers bytes s is = (
          s.fits,
          (
            not_empty bytes is,
            inr (record {
              batches = batches.items;
              first = s.in_row.first;
              in_force = subst (IsJournal bytes) (numbered_is s.in_row.first batches.items s.in_row.runs) (at_rest b j bytes batches.items s);
              broken = rw e refl;
            }),
          ),
        )

    module _ (tree : Nodes) (sessions : Known) (d : DoesItems (bodies_in batches.items) (meta_with tree sessions)) (not_none : batches.items ≢ []) where
      -- the node, from a number on
      abbrev pub node : ℕ → MetaNode
      node first = record { first = first; items = d.items }

      -- its batches
      batches_are : (first : ℕ) → batches.items ≡ numbered first (bodies_in batches.items) → batches.items ≡ batches_of (node first)
      unfolding batches_of
      batches_are first e = e ∙ ap (numbered first) d.spelt

      abbrev pub store : MetaState
      store = record { tree = tree; sessions = sessions; journal = j }

      item_count : length d.items ≡ length batches.items
      item_count = sym (length-bodies d.items) ∙ ap length (sym d.spelt) ∙ length-bodies_in batches.items

      stands : StandsFor (node l.in_row.first) store
      stands = record {
        meta = d.meta;
        file = l.same;
        gate = l.in_row.place ∙ ap (λ n. 8 + n) (length-spelt batches.items) ∙ ap (λ (bodies : List (List ℕ)). 8 + span bodies) d.spelt
            ∙ sym (gate_behind d.items);
        next = l.in_row.follows ∙ ap (λ n. l.in_row.first + n) (sym item_count);
        works = l.works;
        in_order = d.in_order;
        some = subst (λ n. 0 < n) (sym item_count) (has_some batches.items not_none);
      }
        where
          has_some : (bs : List Batch) → bs ≢ [] → 0 < length bs
          has_some [] no_none = absurd (no_none refl)
          has_some (x ∷ xs) no_none = omega arith

      pub store_loads : Loads a b (Ok (Some store))
      store_loads = loads a b (Ok (Some store)) read same_count
          (λ bytes is. record {
            node = node l.in_row.first;
            stands = stands;
            settled = subst (IsSettled b j bytes) (batches_are l.in_row.first (numbered_is l.in_row.first batches.items l.in_row.runs))
                (l.ok bytes (shown bytes is));
          })
          (record { node = node l.in_row.first; stands = stands; journal = l.stands })

-- ---- the same, of the file that has the metadata file's number, by the tests of the code

-- so many batches as are counted are some
some_batches : (batches : List Batch) (count : ℕ) (t : Bool) → t ≡ (count == 0) → t ≡ false → length batches ≡ count → batches ≢ []
some_batches batches count t is so long none =
    let zero_is : count ≡ 0 = sym long ∙ ap length none in
    let yes : t ≡ true = is ∙ ap (λ (n : ℕ). n == 0) zero_is in
    absurd (cc (yes, so))

module _ (a m b : View) (f size : ℕ) (loaded : JournalState × Vec Batch Global) (at : f ≡ meta_file) (sized : Sized a m f (Ok size)) (some : size ≡ 0 → ⊥)
    (l : Loaded m b f (Ok loaded)) (batches : List Batch) (is : batches ≡ loaded.1.items) where
  size_here : Sized a m meta_file (Ok size)
  size_here = subst (λ (n : ℕ). Sized a m n (Ok size)) at sized

  load_here : Loaded m b meta_file (Ok (loaded.0, loaded.1))
  load_here = subst (λ (n : ℕ). Loaded m b n (Ok loaded)) at l

  -- a store
  pub store_loads_at : (tree : Nodes) (sessions : Known) (s : MetaState) (count : ℕ) (t : Bool) → t ≡ (count == 0) → t ≡ false → length batches ≡ count
      → DoesItems (bodies_in batches) (meta_with tree sessions) → s ≡ record { tree = tree; sessions = sessions; journal = loaded.0 } → Loads a b (Ok (Some s))
  store_loads_at tree sessions s count t test so long d made =
      subst (λ (x : MetaState). Loads a b (Ok (Some x))) (sym made)
      (store_loads a m b size size_here some loaded.0 loaded.1 load_here tree sessions
      (subst (λ (bs : List Batch). DoesItems (bodies_in bs) (meta_with tree sessions)) is d)
      (subst (λ (bs : List Batch). bs ≢ []) is (some_batches batches count t test so long)))

  -- no store
  pub stop_loads_at : (e : MetaFault) → DoesBodies (bodies_in batches) (Err e) → Loads a b (Err e)
  stop_loads_at (fault.Damaged place) d =
      broken_loads a m b size size_here some loaded.0 loaded.1 load_here place
      (subst (λ (bs : List Batch). meta_items_at 8 true nothing [] (bodies_in bs) ≡ Err place) is d)
  stop_loads_at fault.NoMemory d = memory_loads a m b size size_here some loaded.0 loaded.1 load_here
  stop_loads_at fault.Device wrong = absurd wrong
  stop_loads_at fault.Failed wrong = absurd wrong
  stop_loads_at fault.Full wrong = absurd wrong
  stop_loads_at (fault.TooLarge n) wrong = absurd wrong

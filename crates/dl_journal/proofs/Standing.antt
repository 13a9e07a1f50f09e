-- What a journal stands for, after work on its file and beside it.
use Rattle.std.proofs.Common.{◌≡◌, ◌≢◌, ℕ, List, [], Option, Some, None, Result, Ok, sym, ◌∙◌, ap, subst, refl, arith, is_some}
use Rattle.dl_depot.specs.declared.device_fault.DeviceFault.{DeviceFault}
use Rattle.dl_depot.specs.View.{View, Keeps, KeepsBut}
use Rattle.dl_depot.specs.Device.{IsTorn, with_bytes}
use Rattle.dl_depot.specs.Stops.{Still}
use Rattle.dl_journal.specs.declared.batch.Batch.{Batch}
use Rattle.dl_journal.specs.State.{JournalState}
use Rattle.dl_journal.specs.Calls.{Stores, StaysInLimit}
use Rattle.dl_journal.specs.Settled.{IsSettled}
use Rattle.dl_journal.specs.Commits.{IsEmpty, Made, start, new_journal}
use Rattle.dl_journal.specs.Laws.{StandsOn, LeavesStanding}

-- what is there in two equal options is one list
same_bytes : (x y : List ℕ) → Some x ≡ Some y → x ≡ y
same_bytes x y e = cc

-- batches of the bytes before, and what they become, are batches of the bytes now
pub on_told : (a b : View) (j k : JournalState) → Keeps j.file a b → k.file ≡ j.file
    → ((was : List ℕ) → a.shown j.file ≡ Some was → (batches : List Batch) × IsSettled a j was batches)
    → ((was : List ℕ) (batches : List Batch) → IsSettled a j was batches → (more : List Batch) × ((now : List ℕ) × IsSettled b k now more))
    → (shown : List ℕ) → b.shown k.file ≡ Some shown → (batches : List Batch) × IsSettled b k shown batches
on_told a b j k keeps same before becomes shown is = go (a.shown j.file) refl
  where
    go : (o : Option (List ℕ)) → a.shown j.file ≡ o → (batches : List Batch) × IsSettled b k shown batches
    go None was = let told = keeps.told j.file in absurd (cc (told, ap is_some was, is, same))
    go (Some bytes) was =
        let old = before bytes was in
        let new = becomes bytes old.0 old.1 in
        (new.0, subst (λ (l : List ℕ). IsSettled b k l new.0) (same_bytes _ _ (sym new.1.1.on_disk.shown ∙ is)) new.1.1)

-- a file that shows the same bytes, whose images are those from before
stays : (a b : View) (j : JournalState) → b.shown j.file ≡ a.shown j.file → b.synced j.file ≡ a.synced j.file
    → ((c : List ℕ) → b.image j.file b.moment c → a.image j.file a.moment c) → StandsOn a b j
stays a b j shown synced images =
    record {
      settled = settled;
      stands = λ stands works bytes is. let before = stands works bytes (sym shown ∙ is) in
          (before.0, settled bytes before.0 before.1);
    }
  where
    settled : (bytes : List ℕ) (batches : List Batch) → IsSettled a j bytes batches → IsSettled b j bytes batches
    settled bytes batches s = record {
      on_disk = record { shown = shown ∙ s.on_disk.shown; only = λ c image. s.on_disk.only c (images c image); last = synced ∙ s.on_disk.last };
      fits = s.fits;
      in_row = s.in_row;
      spells = s.spells;
    }

-- work on another file
pub beside : (a b : View) (j : JournalState) (g : ℕ) → j.file ≢ g → Keeps g a b → StandsOn a b j
beside a b j g other keeps =
    stays a b j (keeps.shown j.file other) (keeps.synced j.file other) (λ c image. (keeps.others j.file b.moment c other keeps.later (omega arith)).0 image)

-- work on several other files
pub beside_all : (a b : View) (j : JournalState) (Mine : ℕ → Type 0) → (Mine j.file → ⊥) → KeepsBut Mine a b → StandsOn a b j
beside_all a b j Mine other keeps =
    stays a b j (keeps.shown j.file other) (keeps.synced j.file other) (λ c image. (keeps.others j.file b.moment c other keeps.later (omega arith)).0 image)

-- a fuse that is set or taken away
pub under_fuse : (a b : View) (j : JournalState) (g : ℕ) → Still g a b → StandsOn a b j
under_fuse a b j g still = stays a b j (still.shown j.file) (still.synced j.file) images
  where
    images : (c : List ℕ) → b.image j.file b.moment c → a.image j.file a.moment c
    images c image = (still.images j.file a.moment c (omega arith)).0 (subst (λ (t : ℕ). b.image j.file t c) still.moment image)

-- work on other files, and fuses, leave each journal standing
pub left_standing : (a b : View) → LeavesStanding a b
left_standing a b = record {
  other = beside a b;
  fused = λ j g calls outcome set. under_fuse a b j g set.still;
  revived = λ j g stopped taken. under_fuse a b j g taken.still;
}

-- what a write of so many bytes at the start may leave is within the limit, if what was left before is
start_fits : (a b : View) (file : ℕ) (result : Result (Unit {0}) DeviceFault) → Stores a b file 0 start result → StaysInLimit file a b
start_fits a b file result w fit t c from to image =
    let left = w.images t c from to image in
    let torn : IsTorn 0 9 left.0 c = left.2 in
    omega (arith, torn.no_longer, fit left.0 left.1)

-- a new journal
pub made : (a b : View) (file : ℕ) (v : Unit {0}) → IsEmpty a file → Stores a b file 0 start (Ok v) → Made a b file (Ok (new_journal file))
made a b file v empty w = record {
  keeps = w.keeps;
  in_limit = start_fits a b file (Ok v) w;
  state = refl;
  settled = settled;
  stands = λ works shown is. go (a.shown file) refl shown is;
  in_row = record { first = 0; runs = tt; follows = refl; place = refl; below = omega arith };
  counts = record { passed = w.counts.passed; failed = tt };
  calls = record { told = w.calls.told; fronts = w.calls.fronts; unset = w.calls.unset };
}
  where
    settled : (was : List ℕ) → a.shown file ≡ Some was → IsSettled b (new_journal file) start []
    settled was is =
        let shown : b.shown file ≡ Some start = w.shown was is ∙ ap (λ (l : List ℕ). Some (with_bytes 0 start l)) (empty was is) in
        record {
          on_disk = record { shown = shown; only = λ c image. same_bytes _ _ (sym (w.only c image) ∙ shown); last = w.last ∙ shown };
          fits = omega arith;
          in_row = record { first = 0; runs = tt; follows = refl; place = refl; below = omega arith };
          spells = record { gate = 0; shut = omega arith; free = []; spelled = refl };
        }

    go : (o : Option (List ℕ)) → a.shown file ≡ o → (shown : List ℕ) → b.shown file ≡ Some shown
        → (batches : List Batch) × IsSettled b (new_journal file) shown batches
    go None was shown is = let told = w.keeps.told file in absurd (cc (ap is_some is, told, ap is_some was))
    go (Some bytes) was shown is =
        let s = settled bytes was in ([], subst (λ (l : List ℕ). IsSettled b (new_journal file) l []) (same_bytes _ _ (sym s.on_disk.shown ∙ is)) s)

-- The bytes of a file in the course of a commit: the frame behind the shut gate, and then the gate opened.
use Rattle.std.proofs.Common.{◌≡◌, ℕ, zero, suc, ◌+◌, ◌≤◌, ◌<◌, max, List, [], ◌∷◌, ◌++◌, length, drop, take, Option, Some, None, false, cond}
use Rattle.std.proofs.Common.{Result, Ok, sym, ◌∙◌, ap, subst, refl, arith, append_assoc, length-append, length-take, length-drop, is_some}
use Rattle.dl_depot.specs.declared.device_fault.DeviceFault.{DeviceFault}
use Rattle.dl_depot.specs.declared.fuse.Outcome.{Outcome}
use Rattle.dl_depot.specs.declared.fuse.Outcome.TheVariants.{Before, After}
use Rattle.dl_depot.specs.View.{View, LeavesOnly, AtMost}
use Rattle.dl_depot.specs.Device.{IsTorn, with_bytes, left_by}
use Rattle.dl_journal.specs.declared.batch.Batch.{Batch}
use Rattle.dl_journal.specs.Limits.{journal_limit, gate_size, around_body}
use Rattle.dl_journal.specs.Batches.{magic, frame_of, spell, InRow, IsJournal, BeforeOrAfter}
use Rattle.dl_journal.specs.State.{JournalState}
use Rattle.dl_journal.specs.Calls.{Stores}
use Rattle.dl_journal.specs.Settled.{IsSettled, Stands}
use Rattle.dl_journal.specs.Commits.{Shows, is_gate_open, batch_of}
use Rattle.dl_journal.proofs.Bytes.{length-framed, torn_frame, put_frame, torn_gate, put_gate, runs-push, length-push}
use Rattle.dl_journal.proofs.Room.{HasRoom}

-- what is there in two equal options is one list
pub some_inj : (x y : List ℕ) → Some x ≡ Some y → x ≡ y
some_inj x y e = cc

-- a frame and the shut gate behind it
abbrev pub frame_bytes : JournalState → List ℕ → List ℕ
frame_bytes j body = frame_of j.next body ++ 0 ∷ []

-- the bytes of a frame in the file are the body's and those around it
pub length-frame_bytes : (j : JournalState) (body : List ℕ) → length (frame_bytes j body) ≡ length body + around_body
length-frame_bytes j body = omega (arith, length-framed j.next body, length-append (frame_of j.next body) (0 ∷ []))

-- bytes put inside a list or at its end
pub length-put : (at : ℕ) (xs old : List ℕ) → at ≤ length old → length (with_bytes at xs old) ≡ max (length old) (at + length xs)
length-put at xs old le =
    omega (
      arith,
      le,
      length-append (take at old) (xs ++ drop (at + length xs) old),
      length-append xs (drop (at + length xs) old),
      length-take at old,
      length-drop (at + length xs) old,
    )

-- what is settled is a journal
pub at_rest : (a : View) (j : JournalState) (bytes : List ℕ) (batches : List Batch) → IsSettled a j bytes batches → IsJournal bytes batches
at_rest a j bytes batches s = record { fits = s.fits; in_force = record { first = s.in_row.first; runs = s.in_row.runs; spells = s.spells } }

-- the gate is in the file
pub gate_inside : (a : View) (j : JournalState) (bytes : List ℕ) (batches : List Batch) → IsSettled a j bytes batches → j.gate + gate_size ≤ length bytes
gate_inside a j bytes batches s = omega (arith, s.in_row.place, ap length s.spells.spelled, length-append (spell batches) (s.spells.gate ∷ s.spells.free))

-- one batch more, where there is room for it
pub row-push : (j : JournalState) (body : List ℕ) (batches : List Batch) → HasRoom j (length body) → InRow j.gate j.next batches
    → InRow (j.gate + (length body + around_body)) (j.next + 1) (batches ++ batch_of j body ∷ [])
row-push j body batches room row = record {
  first = row.first;
  runs = runs-push row.first batches (batch_of j body) row.runs row.follows room.number room.size;
  follows = omega (arith, row.follows, length-append batches (batch_of j body ∷ []));
  place = omega (arith, row.place, length-push batches (batch_of j body));
  below = omega (arith, room.fits);
}

-- what a write within the limit may leave is within it
pub torn_fits : (at n : ℕ) (old c : List ℕ) → IsTorn at n old c → length old ≤ journal_limit → at + n ≤ journal_limit → length c ≤ journal_limit
torn_fits at n old c torn fits room = omega (arith, torn.no_longer, fits, room)

module _ (a m : View) (j : JournalState) (body bytes : List ℕ) (batches : List Batch) (room : HasRoom j (length body)) (s : IsSettled a j bytes batches) where
  frame_fits : j.gate + 1 + length (frame_bytes j body) ≤ journal_limit
  frame_fits = omega (arith, room.fits, length-frame_bytes j body)

  abbrev pub staged_bytes : List ℕ
  staged_bytes = magic ++ (spell batches ++ s.spells.gate ∷ (frame_of j.next body ++ 0 ∷ drop (length (frame_bytes j body)) s.spells.free))

  pub first_images : (result : Result (Unit {0}) DeviceFault) → Stores a m j.file (j.gate + 1) (frame_bytes j body) result
      → LeavesOnly j.file a m (λ c. IsJournal c batches)
  first_images result w t c from to image =
      let left = w.images t c from to image in
      let torn : IsTorn (j.gate + 1) (length (frame_bytes j body)) bytes c =
      subst (λ (d : List ℕ). IsTorn (j.gate + 1) (length (frame_bytes j body)) d c) (s.on_disk.only left.0 left.1) left.2 in
      let there : IsTorn (8 + length (spell batches) + 1) (length (frame_bytes j body)) (magic ++ (spell batches ++ s.spells.gate ∷ s.spells.free)) c =
      subst (λ (k : ℕ). IsTorn (k + 1) (length (frame_bytes j body)) (magic ++ (spell batches ++ s.spells.gate ∷ s.spells.free)) c) s.in_row.place
      (subst (λ (l : List ℕ). IsTorn (j.gate + 1) (length (frame_bytes j body)) l c) s.spells.spelled torn) in
      record {
        fits = torn_fits (j.gate + 1) (length (frame_bytes j body)) bytes c torn s.fits frame_fits;
        in_force = torn_frame batches s.in_row.first s.in_row.runs s.spells.gate s.spells.free _ c s.spells.shut there;
      }

  pub staged_is : with_bytes (j.gate + 1) (frame_bytes j body) bytes ≡ staged_bytes
  staged_is =
      ap (λ (l : List ℕ). with_bytes (j.gate + 1) (frame_bytes j body) l) s.spells.spelled
      ∙ ap (λ (k : ℕ). with_bytes (k + 1) (frame_bytes j body) (magic ++ (spell batches ++ s.spells.gate ∷ s.spells.free))) s.in_row.place
      ∙ put_frame batches s.in_row.first s.in_row.runs s.spells.gate (frame_bytes j body) s.spells.free
      ∙ ap (λ (l : List ℕ). magic ++ (spell batches ++ s.spells.gate ∷ l))
      (append_assoc (frame_of j.next body) (0 ∷ []) (drop (length (frame_bytes j body)) s.spells.free))

  staged_length : length staged_bytes ≡ max (length bytes) (j.gate + 1 + length (frame_bytes j body))
  staged_length = sym (ap length staged_is) ∙ length-put (j.gate + 1) (frame_bytes j body) bytes (gate_inside a j bytes batches s)

  staged_fits : length staged_bytes ≤ journal_limit
  staged_fits = omega (arith, staged_length, frame_fits, s.fits)

  pub staged_rest : IsJournal staged_bytes batches
  staged_rest = record {
    fits = staged_fits;
    in_force = record {
      first = s.in_row.first;
      runs = s.in_row.runs;
      spells =
          record {
            gate = s.spells.gate;
            shut = s.spells.shut;
            free = frame_of j.next body ++ 0 ∷ drop (length (frame_bytes j body)) s.spells.free;
            spelled = refl;
          };
    };
  }

  pub staged_holds : IsJournal (with_bytes (j.gate + 1) (frame_bytes j body) bytes) batches
  staged_holds = subst (λ (l : List ℕ). IsJournal l batches) (sym staged_is) staged_rest

  -- what is shown where a fuse stopped the frame or its sync
  pub first_shows : (b : View) (outcome : Outcome) (left : ℕ) → left < 2
      → b.shown j.file ≡ Some (left_by outcome (with_bytes (j.gate + 1) (frame_bytes j body) bytes) bytes)
      → Shows b j.file (cond (is_gate_open outcome left) (batches ++ batch_of j body ∷ []) batches)
  first_shows b Before left less is shown_bytes shown =
      subst (λ (l : List ℕ). IsJournal l batches) (some_inj _ _ (sym is ∙ shown)) (at_rest a j bytes batches s)
  first_shows b After zero less is shown_bytes shown = subst (λ (l : List ℕ). IsJournal l batches) (some_inj _ _ (sym is ∙ shown)) staged_holds
  first_shows b After (suc zero) less is shown_bytes shown = subst (λ (l : List ℕ). IsJournal l batches) (some_inj _ _ (sym is ∙ shown)) staged_holds
  first_shows b After (suc (suc left)) less is shown_bytes shown = absurd (omega (arith, less))

  module _ (v : Unit {0}) (w : Stores a m j.file (j.gate + 1) (frame_bytes j body) (Ok v)) where
    pub staged_shown : m.shown j.file ≡ Some staged_bytes
    staged_shown = w.shown bytes s.on_disk.shown ∙ ap (λ (l : List ℕ). Some l) staged_is

    pub staged_only : (c : List ℕ) → m.image j.file m.moment c → c ≡ staged_bytes
    staged_only c image = some_inj _ _ (sym (w.only c image) ∙ staged_shown)

    module _ (b : View) (result : Result (Unit {0}) DeviceFault) (x : Stores m b j.file j.gate (1 ∷ []) result) where
      pub second_images : LeavesOnly j.file m b (BeforeOrAfter batches (batch_of j body))
      second_images t c from to image =
          let left = x.images t c from to image in
          let torn : IsTorn j.gate 1 staged_bytes c = subst (λ (d : List ℕ). IsTorn j.gate 1 d c) (staged_only left.0 left.1) left.2 in
          let fits = torn_fits j.gate 1 staged_bytes c torn staged_fits (omega (arith, frame_fits)) in
          torn_gate batches s.in_row.first s.in_row.runs (batch_of j body) s.in_row.follows room.number room.size s.spells.gate _ c
          (subst (λ (k : ℕ). IsTorn k 1 staged_bytes c) s.in_row.place torn) fits

      abbrev pub opened_bytes : List ℕ
      opened_bytes = magic ++ (spell (batches ++ batch_of j body ∷ []) ++ 0 ∷ drop (length (frame_bytes j body)) s.spells.free)

      pub opened_is : with_bytes j.gate (1 ∷ []) staged_bytes ≡ magic ++ (spell (batches ++ batch_of j body ∷ []) ++ 0 ∷ drop (length (frame_bytes j body))
          s.spells.free)
      opened_is =
          ap (λ (k : ℕ). with_bytes k (1 ∷ []) staged_bytes) s.in_row.place
          ∙ put_gate batches s.in_row.first s.in_row.runs (batch_of j body) s.in_row.follows room.number room.size s.spells.gate
          (drop (length (frame_bytes j body)) s.spells.free)

      opened_fits : length opened_bytes ≤ journal_limit
      opened_fits =
          let inside : j.gate ≤ length staged_bytes = omega (arith, staged_length) in
          omega (arith, sym (ap length opened_is) ∙ length-put j.gate (1 ∷ []) staged_bytes inside, staged_fits, frame_fits)

      pub opened_holds : IsJournal opened_bytes (batches ++ batch_of j body ∷ [])
      opened_holds = record {
        fits = opened_fits;
        in_force = record {
          first = s.in_row.first;
          runs = runs-push s.in_row.first batches (batch_of j body) s.in_row.runs s.in_row.follows room.number room.size;
          spells = record { gate = 0; shut = omega arith; free = drop (length (frame_bytes j body)) s.spells.free; spelled = refl };
        };
      }

      pub staged_last : m.synced j.file ≡ Some staged_bytes
      staged_last = w.last ∙ staged_shown

      -- what is shown where a fuse stopped the gate or its sync
      pub second_shows : (outcome : Outcome) (left n : ℕ) → left ≡ suc (suc n)
          → b.shown j.file ≡ Some (left_by outcome (with_bytes j.gate (1 ∷ []) staged_bytes) staged_bytes)
          → Shows b j.file (cond (is_gate_open outcome left) (batches ++ batch_of j body ∷ []) batches)
      second_shows Before left n is shown bytes_are shown_is = subst (λ (l : List ℕ). IsJournal l batches) (some_inj _ _ (sym shown ∙ shown_is)) staged_rest
      second_shows After zero n is shown bytes_are shown_is = absurd (omega (arith, is))
      second_shows After (suc zero) n is shown bytes_are shown_is = absurd (omega (arith, is))
      second_shows After (suc (suc left)) n is shown bytes_are shown_is =
          subst (λ (l : List ℕ). IsJournal l (batches ++ batch_of j body ∷ [])) (sym opened_is ∙ some_inj _ _ (sym shown ∙ shown_is)) opened_holds

-- the gate is in the file still behind the frame
pub gate_there : (a m : View) (j : JournalState) (frame : List ℕ) (v : Unit {0}) → Stands a j → j.failed ≡ false
    → Stores a m j.file (j.gate + 1) frame (Ok v) → AtMost j.gate m j.file
gate_there a m j frame v stands works w bytes shown = go (a.shown j.file) refl
  where
    go : (o : Option (List ℕ)) → a.shown j.file ≡ o → j.gate ≤ length bytes
    go None is = let told = w.keeps.told j.file in absurd (cc (ap is_some shown, told, ap is_some is))
    go (Some was) is =
        let s = (stands works was is).1 in
        let same : with_bytes (j.gate + 1) frame was ≡ bytes = some_inj _ _ (sym (w.shown was is) ∙ shown) in
        omega (arith, ap length same, length-put (j.gate + 1) frame was (gate_inside a j was _ s))

-- What a call does, by the items that the store stands for. The parts of a call speak of what the store keeps alone; here they
-- are lifted, once for all calls.
use Rattle.std.proofs.Common.{◌≡◌, ℕ, ◌+◌, ◌-◌, ◌≤◌, ◌<◌, ◌⊎◌, ◌↔◌, inl, inr, Bool, true, false, cond, List, [], ◌∷◌, ◌++◌, length, Option, Some, None, Result}
use Rattle.std.proofs.Common.{Ok, Err, sym, ap, ◌∙◌, subst, refl, arith, OnOk, IsErrOf}
use Rattle.std.proofs.lemmas.List.{append-nil}
use Rattle.dl_depot.specs.View.{View, Keeps, LeavesOnly}
use Rattle.dl_depot.specs.Device.{Rose}
use Rattle.dl_depot.specs.declared.device_call.DeviceCall.{DeviceCall}
use Rattle.dl_depot.specs.declared.fuse.Fuse.{Fuse}
use Rattle.dl_depot.specs.declared.fuse.Outcome.{Outcome}
use Rattle.dl_depot.proofs.Moments.{keeps_refl}
use Rattle.dl_journal.specs.declared.batch.Batch.{Batch}
use Rattle.dl_journal.specs.declared.commit_fault.CommitFault.{CommitFault}
use Rattle.dl_journal.specs.declared.commit_fault.CommitFault.TheVariants as commit
use Rattle.dl_journal.specs.State.{JournalState}
use Rattle.dl_journal.specs.Batches.{IsJournal, BeforeOrAfter}
use Rattle.dl_journal.specs.Calls.{MakesCalls, Spent, StopsWork, Caught}
use Rattle.dl_journal.specs.Settled.{IsSettled, Stands}
use Rattle.dl_journal.specs.Commits.{body_of, Committed, Shows, batch_of, state_after, commit_calls, is_gate_open}
use Rattle.dl_journal.proofs.Staging.{at_rest}
use Rattle.dl_rules_nodes.specs.Items.{MetaItem, meta_item_bytes, meta_item_length}
use Rattle.dl_rules_nodes.specs.Metadata.{Meta, MetaNode, meta_from, meta_of, meta_gate, does, with_item}
use Rattle.dl_rules_nodes.specs.MetaOrder.{IsDue, is_first_behind}
use Rattle.dl_meta.specs.declared.meta_fault.MetaFault.{MetaFault}
use Rattle.dl_meta.specs.declared.meta_fault.MetaFault.TheVariants as fault
use Rattle.dl_meta.specs.State.{MetaState, meta_in}
use Rattle.dl_meta.specs.Standing.{meta_file, batches_of, HoldsItems, HoldsEither, StandsFor, OnFile}
use Rattle.dl_meta.specs.Turns.{Rests, IsStop, item_calls, LeftBy, CommitsOnFile, Puts, Works}
use Rattle.dl_meta.specs.Storing.{framed, CommitsBody, IsStored, Stores}
use Rattle.dl_meta.proofs.Files.{batches-push}
use Rattle.dl_meta.proofs.Frames.{length-framed, body_framed, item_is_some}

-- what is told is one list of bytes
some_is : (x y : List ℕ) → Some x ≡ Some y → x ≡ y
some_is x y e = cc

-- calls are those of this work, whatever is answered by it
calls_as : {X Y E F : Type 0} (old new : View) (file : ℕ) (work : List DeviceCall) (r : Result X E) (s : Result Y F) → file ≡ meta_file
    → MakesCalls old new file work r
    → ((calls : List DeviceCall) → OnOk r (new.calls file ≡ Some (calls ++ work)) → OnOk s (new.calls file ≡ Some (calls ++ work)))
    → MakesCalls old new meta_file work s
calls_as old new file work r s at calls on =
    subst (λ (f : ℕ). MakesCalls old new f work s) at
    (record { told = λ before is. on before (calls.told before is); fronts = calls.fronts; unset = calls.unset })

-- a later item comes behind some
is_later : (items : List MetaItem) → 0 < length items → is_first_behind items ≡ false
is_later [] some = absurd (omega arith)
is_later (x ∷ older) some = refl

-- a store that did an item, whose journal went on behind it, stands for the node with the item
stands_with : (n : MetaNode) (x : MetaItem) (before after : MetaState) → StandsFor n before → IsDue false (meta_of n.items).sessions x
    → meta_in after ≡ does (meta_in before) x → after.journal ≡ state_after before.journal (meta_item_bytes x) → StandsFor (with_item n x) after
unfolding meta_from meta_gate
stands_with n x before after h due meta journal = record {
  meta = meta ∙ ap (λ (m : Meta). does m x) h.meta;
  file = ap (λ (j : JournalState). j.file) journal ∙ h.file;
  gate = ap (λ (j : JournalState). j.gate) journal
      ∙ (let k : before.journal.gate + (length (meta_item_bytes x) + 13) ≡ meta_gate n.items + 13 + meta_item_length x = omega (arith, h.gate) in k);
  next = ap (λ (j : JournalState). j.next) journal ∙ (let k : before.journal.next + 1 ≡ n.first + length (x ∷ n.items) = omega (arith, h.next) in k);
  works = ap (λ (j : JournalState). j.failed) journal;
  in_order = (subst (λ (b : Bool). IsDue b (meta_of n.items).sessions x) (sym (is_later n.items h.some)) due, h.in_order);
  some = omega arith;
}

module _ (old new : View) (n : MetaNode) (x : MetaItem) (before after : MetaState) (stands : StandsFor n before) where
  -- the batches with that of the item are those of the node with it
  pushed : batches_of n ++ batch_of before.journal (meta_item_bytes x) ∷ [] ≡ batches_of (with_item n x)
  pushed = batches-push n x before.journal.next stands.next

  either : (c : List ℕ) → BeforeOrAfter (batches_of n) (batch_of before.journal (meta_item_bytes x)) c → HoldsEither n x c
  unfolding HoldsItems
  either c (inl i) = inl i
  either c (inr i) = inr (subst (IsJournal c) pushed i)

  -- at each moment of a commit
  moments : (shown : List ℕ) (r : Result (Unit {0}) CommitFault) → Committed old new before.journal after.journal (meta_item_bytes x) r
      → IsSettled old before.journal shown (batches_of n) → LeavesOnly meta_file old new (HoldsEither n x)
  moments shown r c settled =
      subst (λ (f : ℕ). LeavesOnly f old new (HoldsEither n x)) stands.file
      (λ t bytes from to image. either bytes (c.any_moment shown (batches_of n) settled t bytes from to image))

  -- what is left where a fuse stopped it
  left : (outcome : Outcome) (k : ℕ)
      → Shows new before.journal.file (cond (is_gate_open outcome k) (batches_of n ++ batch_of before.journal (meta_item_bytes x) ∷ []) (batches_of n))
      → LeftBy new n x outcome k
  unfolding HoldsItems
  left outcome k shows bytes is = go (is_gate_open outcome k) (shows bytes (ap new.shown stands.file ∙ is))
    where
      go : (t : Bool) → IsJournal bytes (cond t (batches_of n ++ batch_of before.journal (meta_item_bytes x) ∷ []) (batches_of n))
          → HoldsItems (cond t (with_item n x) n) bytes
      go true i = subst (IsJournal bytes) pushed i
      go false i = i

  module _ (shown : List ℕ) (settled : IsSettled old before.journal shown (batches_of n)) where
    -- an item that was committed
    committed_on_file : {A : Type 0} (a : A) → Committed old new before.journal after.journal (meta_item_bytes x) (Ok tt)
        → CommitsOnFile old new n x before after (Ok a)
    committed_on_file a c = record {
      any_moment = moments shown (Ok tt) c settled;
      ok = λ now is.
          let s = c.ok shown (batches_of n) settled in
          let same : s.0 ≡ now = some_is s.0 now (sym s.1.on_disk.shown ∙ ap new.shown (c.file ∙ stands.file) ∙ is) in
          subst (λ (bytes : List ℕ). IsSettled new after.journal bytes (batches_of (with_item n x))) same (subst (IsSettled new after.journal s.0) pushed s.1);
      spends = λ f is.
          let spent = c.spends f shown (batches_of n) (ap old.fuse stands.file ∙ is) settled in
          subst (λ (file : ℕ). Spent new file (item_calls before x) f) stands.file spent;
    }

    -- one whose commit the device stopped
    failed_on_file : {A : Type 0} → Committed old new before.journal after.journal (meta_item_bytes x) (Err commit.Device)
        → CommitsOnFile {A = A} old new n x before after (Err fault.Device)
    failed_on_file c = record {
      any_moment = moments shown (Err commit.Device) c settled;
      ok = tt;
      spends = λ f is.
          let caught = c.spends f shown (batches_of n) (ap old.fuse stands.file ∙ is) settled in
          subst (λ (file : ℕ). Caught old new file (item_calls before x) (LeftBy new n x) f) stands.file (record {
            now = caught.now;
            fuse = caught.fuse;
            at_stop = λ alive stopped. let w = caught.at_stop alive stopped in
                record { behind = w.behind; told = w.told; holds = left f.outcome f.left w.holds };
          });
    }

-- one for which memory ran out
rested_on_file : {A : Type 0} (view : View) (n : MetaNode) (x : MetaItem) (s : MetaState) → StandsFor n s → (shown : List ℕ)
    → IsSettled view s.journal shown (batches_of n)
    → CommitsOnFile {A = A} view view n x s s (Err fault.NoMemory)
unfolding HoldsItems
rested_on_file view n x s h shown settled = record {
  any_moment = λ t c from to image.
      let now : t ≡ view.moment = omega (arith, from, to) in
      let here : view.image s.journal.file view.moment c = subst (λ (m : ℕ). view.image s.journal.file m c) now
      (subst (λ (f : ℕ). view.image f t c) (sym h.file) image) in
      inl (subst (λ (bytes : List ℕ). IsJournal bytes (batches_of n)) (sym (settled.on_disk.only c here))
      (at_rest view s.journal shown (batches_of n) settled));
  ok = tt;
  spends = λ f is. tt;
}

-- no call was made
no_calls : {X E : Type 0} (view : View) (work : List DeviceCall) (e : E) → MakesCalls {X = X} view view meta_file work (Err e)
no_calls view work e = record {
  told = λ calls is. tt;
  fronts = λ calls is. (0, is ∙ ap (λ (l : List DeviceCall). Some l) (sym (append-nil calls)));
  unset = λ is. is;
}

-- an item is stored as the node says
pub stored_puts : {A : Type 0} (old new : View) (Idle : Type 0) (n : MetaNode) (x : MetaItem) (answer : A) (before after : MetaState)
    (result : Result A MetaFault)
    → (Idle → new ≡ old) → StandsFor n before → IsDue false (meta_of n.items).sessions x → Stores old new Idle before after x answer result
    → Puts old new Idle n x answer before after result
stored_puts {A} old new Idle n x answer before after (Ok a) idle h due s = record {
  ok = (s.answer_is, stands_with n x before after h due s.meta s.committed.state);
  stop = tt;
  calls = calls_as {X = Unit {0}} {Y = A} {E = CommitFault} {F = MetaFault} old new before.journal.file (item_calls before x) (Ok tt)
      (Ok a) h.file s.committed.calls (λ calls made. made);
  on_file = λ shown is on. committed_on_file old new n x before after h shown (on shown is) a s.committed;
}
stored_puts {A} old new Idle n x answer before after (Err fault.Device) idle h due c = record {
  ok = tt;
  stop = ap (λ (j : JournalState). j.failed) c.state;
  calls = calls_as {X = Unit {0}} {Y = A} {E = CommitFault} {F = MetaFault} old new before.journal.file (item_calls before x) (Err commit.Device)
      (Err fault.Device) h.file c.calls (λ calls made. tt);
  on_file = λ shown is on. failed_on_file old new n x before after h shown (on shown is) c;
}
stored_puts {A} old new Idle n x answer before after (Err fault.NoMemory) idle h due rests =
    subst (λ (v : View). Puts {A = A} old v Idle n x answer before after (Err fault.NoMemory)) (sym (idle rests.idle))
    (subst (λ (s : MetaState). Puts {A = A} old old Idle n x answer before s (Err fault.NoMemory)) (sym rests.same)
    (record {
      ok = tt;
      stop = record { same = refl; idle = rests.idle };
      calls = no_calls old (item_calls before x) fault.NoMemory;
      on_file = λ shown is on. rested_on_file old n x before h shown (on shown is);
    }))
stored_puts old new Idle n x answer before after (Err fault.Failed) idle h due wrong = absurd wrong
stored_puts old new Idle n x answer before after (Err fault.Full) idle h due wrong = absurd wrong
stored_puts old new Idle n x answer before after (Err (fault.Damaged at)) idle h due wrong = absurd wrong
stored_puts old new Idle n x answer before after (Err (fault.TooLarge size)) idle h due wrong = absurd wrong

-- ---- what each call keeps

-- no test is both
differ : {A : Type 0} (b : Bool) → b ≡ false → b ≡ true → A
differ b is is_too = absurd (cc (is, is_too))

-- a store that failed rests, and says so
pub works_failed : {A : Type 0} (view : View) (Idle : Type 0) (s : MetaState) → Stands view s.journal → Idle → s.journal.failed ≡ true
    → Works {A = A} view view Idle s s (Err fault.Failed)
works_failed view Idle s stands idle failed = record {
  keeps = keeps_refl meta_file view;
  stands = stands;
  counts = refl;
  failed = (λ e. failed, λ e. refl);
  rests = λ e. record { same = refl; idle = idle };
}

-- a store that has room for nothing more rests
pub works_full : {A : Type 0} (view : View) (Idle : Type 0) (s : MetaState) → Stands view s.journal → s.journal.failed ≡ false
    → Works {A = A} view view Idle s s (Err fault.Full)
works_full view Idle s stands works = record {
  keeps = keeps_refl meta_file view;
  stands = stands;
  counts = refl;
  failed = (λ e. absurd (cc e), λ e. differ s.journal.failed works e);
  rests = λ e. differ s.journal.failed works e;
}

-- and so does one that answers without a call
pub works_resting : {A : Type 0} (view : View) (Idle : Type 0) (s : MetaState) (a : A) → Stands view s.journal → s.journal.failed ≡ false
    → Works view view Idle s s (Ok a)
works_resting view Idle s a stands works = record {
  keeps = keeps_refl meta_file view;
  stands = stands;
  counts = refl;
  failed = (λ e. absurd (cc e), λ e. differ s.journal.failed works e);
  rests = λ e. differ s.journal.failed works e;
}

-- storing an item
pub stored_works : {A : Type 0} (old new : View) (Idle : Type 0) (x : MetaItem) (answer : A) (before after : MetaState) (result : Result A MetaFault)
    → (Idle → new ≡ old) → before.journal.file ≡ meta_file → before.journal.failed ≡ false → Stands old before.journal
    → Stores old new Idle before after x answer result
    → Works old new Idle before after result
stored_works old new Idle x answer before after (Ok a) idle at works stands s = record {
  keeps = subst (λ (f : ℕ). Keeps f old new) at s.committed.keeps;
  stands = s.committed.stands stands;
  counts = subst (λ (f : ℕ). new.faults f ≡ old.faults f) at s.committed.counts;
  failed = (λ e. absurd (cc e), λ e. differ before.journal.failed works e);
  rests = λ e. differ before.journal.failed works e;
}
stored_works old new Idle x answer before after (Err fault.Device) idle at works stands c = record {
  keeps = subst (λ (f : ℕ). Keeps f old new) at c.keeps;
  stands = c.stands stands;
  counts = subst (λ (f : ℕ). Rose (old.faults f) (new.faults f)) at c.counts;
  failed = (λ e. absurd (cc e), λ e. differ before.journal.failed works e);
  rests = λ e. differ before.journal.failed works e;
}
stored_works {A} old new Idle x answer before after (Err fault.NoMemory) idle at works stands rests =
    subst (λ (v : View). Works {A = A} old v Idle before after (Err fault.NoMemory)) (sym (idle rests.idle))
    (subst (λ (s : MetaState). Works {A = A} old old Idle before s (Err fault.NoMemory)) (sym rests.same)
    (record {
      keeps = keeps_refl meta_file old;
      stands = stands;
      counts = refl;
      failed = (λ e. absurd (cc e), λ e. differ before.journal.failed works e);
      rests = λ e. differ before.journal.failed works e;
    }))
stored_works old new Idle x answer before after (Err fault.Failed) idle at works stands wrong = absurd wrong
stored_works old new Idle x answer before after (Err fault.Full) idle at works stands wrong = absurd wrong
stored_works old new Idle x answer before after (Err (fault.Damaged at_)) idle at works stands wrong = absurd wrong
stored_works old new Idle x answer before after (Err (fault.TooLarge size)) idle at works stands wrong = absurd wrong

-- ---- the parts of a call

-- what a call answers whose commit answers this
abbrev pub answered : {A : Type 0} → A → Result (Unit {0}) MetaFault → Result A MetaFault
answered a (Ok u) = Ok a
answered a (Err e) = Err e

module _ (old new : View) (Idle : Type 0) (before mid after : MetaState) (x : MetaItem) (frame : List ℕ) (is : frame ≡ framed (meta_item_bytes x))
    (journal : mid.journal ≡ before.journal) (done : meta_in mid ≡ does (meta_in before) x) (kept : meta_in after ≡ meta_in mid) where
  -- the commit is that of the item
  of_item : (r : Result (Unit {0}) CommitFault) → Committed old new mid.journal after.journal (body_of frame) r
      → Committed old new before.journal after.journal (meta_item_bytes x) r
  of_item r c =
      subst (λ (b : List ℕ). Committed old new before.journal after.journal b r) (ap body_of is ∙ body_framed (meta_item_bytes x))
      (subst (λ (k : JournalState). Committed old new k after.journal (body_of frame) r) journal c)

  -- an item is stored whose frame was committed
  pub stored_by : {A : Type 0} (a : A) (r : Result (Unit {0}) MetaFault) → CommitsBody old new mid.journal after.journal (body_of frame) r
      → Stores old new Idle before after x a (answered a r)
  stored_by a (Ok u) c = record { answer_is = refl; meta = kept ∙ done; committed = of_item (Ok tt) c }
  stored_by a (Err fault.Device) c = of_item (Err commit.Device) c
  stored_by a (Err fault.Failed) wrong = absurd wrong
  stored_by a (Err fault.Full) wrong = absurd wrong
  stored_by a (Err fault.NoMemory) wrong = absurd wrong
  stored_by a (Err (fault.Damaged at)) wrong = absurd wrong
  stored_by a (Err (fault.TooLarge size)) wrong = absurd wrong

-- there is room for the frame of an item
pub frame_fits : (x : MetaItem) (frame : List ℕ) (room : ℕ) → frame ≡ framed (meta_item_bytes x) → meta_item_length x ≤ room
    → (13 < length frame) × (length frame - 13 ≤ room)
frame_fits x frame room is fits =
    let long : length frame ≡ length (meta_item_bytes x) + 13 = ap length is ∙ length-framed (meta_item_bytes x) in
    (omega (arith, long, item_is_some x), omega (arith, long, fits))

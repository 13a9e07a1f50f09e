-- A commit: the frame behind the shut gate, and then the gate.
use Rattle.std.proofs.Common.{◌≡◌, inl, ℕ, zero, suc, ◌+◌, ◌<◌, List, [], ◌∷◌, ◌++◌, length, take, Some, Bool}
use Rattle.std.proofs.Common.{true, false, Result, Ok, Err, sym, ◌∙◌, ap, subst, refl, arith, append_assoc}
use Rattle.dl_depot.specs.declared.device_fault.DeviceFault.{DeviceFault}
use Rattle.dl_depot.specs.declared.device_call.DeviceCall.{DeviceCall}
use Rattle.dl_depot.specs.declared.device_call.DeviceCall.TheVariants.{Write, Sync}
use Rattle.dl_depot.specs.declared.fuse.Fuse.{Fuse}
use Rattle.dl_depot.specs.View.{View, Keeps}
use Rattle.dl_depot.proofs.Moments.{keeps_trans, goes_on}
use Rattle.dl_journal.specs.declared.batch.Batch.{Batch}
use Rattle.dl_journal.specs.declared.commit_fault.CommitFault.{CommitFault}
use Rattle.dl_journal.specs.declared.commit_fault.CommitFault.TheVariants.{Device}
use Rattle.dl_journal.specs.Limits.{around_body}
use Rattle.dl_journal.specs.Batches.{BeforeOrAfter}
use Rattle.dl_journal.specs.State.{JournalState}
use Rattle.dl_journal.specs.Calls.{Stores, store_calls}
use Rattle.dl_journal.specs.Settled.{IsSettled}
use Rattle.dl_journal.specs.Commits.{commit_calls, Committed, batch_of, state_after}
use Rattle.dl_journal.proofs.Room.{HasRoom}
use Rattle.dl_journal.proofs.Staging.{frame_bytes, length-frame_bytes, row-push, some_inj, first_images, first_shows, staged_bytes}
use Rattle.dl_journal.proofs.Staging.{staged_shown, staged_last, second_images, second_shows, opened_bytes, opened_is, opened_holds}
use Rattle.dl_journal.proofs.Standing.{on_told}
use Rattle.dl_journal.proofs.Through.{rose_on, differ}

-- the writing calls of the frame and of the gate are those of a commit
frame_calls : (j : JournalState) (body : List ℕ) (calls : List DeviceCall)
    → Some (calls ++ store_calls (j.gate + 1) (frame_bytes j body)) ≡ Some (calls ++ take 2 (commit_calls j body))
frame_calls j body calls = ap (λ (n : ℕ). Some (calls ++ Write (j.gate + 1) n ∷ Sync ∷ [])) (length-frame_bytes j body)

-- the calls of a first store, and the first n of a second one that opens the gate, are the first of a commit's calls
gate_calls : (j : JournalState) (body : List ℕ) (n : ℕ) (calls : List DeviceCall)
    → Some ((calls ++ store_calls (j.gate + 1) (frame_bytes j body)) ++ take n (store_calls j.gate (1 ∷ [])))
    ≡ Some (calls ++ take (suc (suc n)) (commit_calls j body))
gate_calls j body n calls =
    ap (λ (l : List DeviceCall). Some l) (append_assoc calls (store_calls (j.gate + 1) (frame_bytes j body)) (take n (store_calls j.gate (1 ∷ []))))
    ∙ ap (λ (k : ℕ). Some (calls ++ Write (j.gate + 1) k ∷ Sync ∷ take n (store_calls j.gate (1 ∷ [])))) (length-frame_bytes j body)

-- some first ones of those of the frame
frame_front : (b : View) (j : JournalState) (body : List ℕ) (n : ℕ) (calls : List DeviceCall)
    → b.calls j.file ≡ Some (calls ++ take n (store_calls (j.gate + 1) (frame_bytes j body)))
    → (k : ℕ) × (b.calls j.file ≡ Some (calls ++ take k (commit_calls j body)))
frame_front b j body zero calls are = (0, are)
frame_front b j body (suc zero) calls are = (1, are ∙ ap (λ (n : ℕ). Some (calls ++ Write (j.gate + 1) n ∷ [])) (length-frame_bytes j body))
frame_front b j body (suc (suc n)) calls are = (
  2,
  are ∙ ap (λ (l : List DeviceCall). Some (calls ++ Write (j.gate + 1) (length (frame_bytes j body)) ∷ Sync ∷ l)) (take_none n)
      ∙ frame_calls j body calls,
)
  where
    take_none : (n : ℕ) → take n (let none : List DeviceCall = [] in none) ≡ []
    take_none zero = refl
    take_none (suc n) = refl

-- those up to the one that a fuse stopped
frame_stop : (j : JournalState) (body : List ℕ) (left : ℕ) (calls : List DeviceCall) → left < 2
    → Some (calls ++ take (left + 1) (store_calls (j.gate + 1) (frame_bytes j body))) ≡ Some (calls ++ take (left + 1) (commit_calls j body))
frame_stop j body zero calls less = ap (λ (n : ℕ). Some (calls ++ Write (j.gate + 1) n ∷ [])) (length-frame_bytes j body)
frame_stop j body (suc zero) calls less = frame_calls j body calls
frame_stop j body (suc (suc left)) calls less = absurd (omega (arith, less))

-- the frame failed
pub commit_first : (a b : View) (j : JournalState) (body : List ℕ) (e : DeviceFault) → j.failed ≡ false → HasRoom j (length body)
    → Stores a b j.file (j.gate + 1) (frame_bytes j body) (Err e) → Committed a b j (record j { failed = true }) body (Err Device)
commit_first a b j body e works room w = record {
  keeps = w.keeps;
  any_moment = λ bytes batches s t c from to image. inl (first_images a b j body bytes batches room s (Err e) w t c from to image);
  ok = λ bytes batches s. tt;
  in_row = λ batches row. tt;
  stands = λ stands works_on. absurd (cc works_on);
  file = refl;
  state = refl;
  failed = (λ is. absurd (cc is), λ was. differ j.failed works was);
  counts = w.counts.failed;
  calls = record {
    told = λ calls are. tt;
    fronts = λ calls are. let made = w.calls.fronts calls are in frame_front b j body made.0 calls made.1;
    unset = w.calls.unset;
  };
  spends = λ f bytes batches set s.
      let caught = w.spends f bytes bytes set s.on_disk.shown s.on_disk.last in
      record {
        now = caught.now;
        fuse = caught.fuse;
        at_stop = λ alive stopped.
            let stop = caught.at_stop alive stopped in
            record {
              behind = omega (arith, stop.behind);
              told = λ calls are. stop.told calls are ∙ frame_stop j body f.left calls stop.behind;
              holds = first_shows a b j body bytes batches room s b f.outcome f.left stop.behind stop.holds;
            };
      };
}

-- the gate failed behind it
pub commit_second : (a m b : View) (j : JournalState) (body : List ℕ) (v : Unit {0}) (e : DeviceFault) → j.failed ≡ false → HasRoom j (length body)
    → Stores a m j.file (j.gate + 1) (frame_bytes j body) (Ok v) → Stores m b j.file j.gate (1 ∷ []) (Err e)
    → Committed a b j (record j { failed = true }) body (Err Device)
commit_second a m b j body v e works room w x = record {
  keeps = keeps_trans j.file a m b w.keeps x.keeps;
  any_moment = λ bytes batches s. goes_on j.file a m b (BeforeOrAfter batches (batch_of j body))
      (λ t c from to image. inl (first_images a m j body bytes batches room s (Ok v) w t c from to image)) x.keeps
      (second_images a m j body bytes batches room s v w b (Err e) x);
  ok = λ bytes batches s. tt;
  in_row = λ batches row. tt;
  stands = λ stands works_on. absurd (cc works_on);
  file = refl;
  state = refl;
  failed = (λ is. absurd (cc is), λ was. differ j.failed works was);
  counts = rose_on _ _ _ w.counts.passed x.counts.failed;
  calls = record {
    told = λ calls are. tt;
    fronts = λ calls are. let made = x.calls.fronts _ (w.calls.told calls are) in (suc (suc made.0), made.1 ∙ gate_calls j body made.0 calls);
    unset = λ none. x.calls.unset (w.calls.unset none);
  };
  spends = λ f bytes batches set s.
      let passed = w.spends f bytes bytes set s.on_disk.shown s.on_disk.last in
      let f_next : Fuse = record f { left = passed.rest } in
      let staged = staged_bytes a m j body bytes batches room s in
      let caught = x.spends f_next staged staged passed.fuse (staged_shown a m j body bytes batches room s v w)
      (staged_last a m j body bytes batches room s v w b (Err e) x) in
      record {
        now = caught.now;
        fuse = caught.fuse;
        at_stop = λ alive stopped.
            let stop = caught.at_stop alive stopped in
            let two_more : f.left ≡ suc (suc passed.rest) = omega (arith, passed.fewer) in
            let one_more : suc (suc (passed.rest + 1)) ≡ f.left + 1 = omega (arith, two_more) in
            record {
              behind = omega (arith, stop.behind, two_more);
              told =
                  λ calls are. stop.told _ (w.calls.told calls are) ∙ gate_calls j body (passed.rest + 1) calls
                  ∙ ap (λ (n : ℕ). Some (calls ++ take n (commit_calls j body))) one_more;
              holds = second_shows a m j body bytes batches room s v w b (Err e) x f.outcome f.left passed.rest two_more stop.holds;
            };
      };
}

-- both are done
pub commit_done : (a m b : View) (j : JournalState) (body : List ℕ) (v u : Unit {0}) → j.failed ≡ false → HasRoom j (length body)
    → Stores a m j.file (j.gate + 1) (frame_bytes j body) (Ok v) → Stores m b j.file j.gate (1 ∷ []) (Ok u) → Committed a b j (state_after j body) body (Ok tt)
commit_done a m b j body v u works room w x = record {
  keeps = keeps;
  any_moment = λ bytes batches s. goes_on j.file a m b (BeforeOrAfter batches (batch_of j body))
      (λ t c from to image. inl (first_images a m j body bytes batches room s (Ok v) w t c from to image)) x.keeps
      (second_images a m j body bytes batches room s v w b (Ok u) x);
  ok = settled;
  in_row = λ batches row. row-push j body batches room row;
  stands =
      λ stands works_on. on_told a b j (state_after j body) keeps refl (stands works)
      (λ bytes batches s. (batches ++ batch_of j body ∷ [], settled bytes batches s));
  file = refl;
  state = refl;
  failed = (λ is. absurd (cc is), λ was. differ j.failed works was);
  counts = x.counts.passed ∙ w.counts.passed;
  calls = record {
    told = λ calls are. x.calls.told _ (w.calls.told calls are) ∙ gate_calls j body 2 calls;
    fronts = λ calls are. (4, x.calls.told _ (w.calls.told calls are) ∙ gate_calls j body 2 calls);
    unset = λ none. x.calls.unset (w.calls.unset none);
  };
  spends = λ f bytes batches set s.
      let passed = w.spends f bytes bytes set s.on_disk.shown s.on_disk.last in
      let f_next : Fuse = record f { left = passed.rest } in
      let staged = staged_bytes a m j body bytes batches room s in
      let spent = x.spends f_next staged staged passed.fuse (staged_shown a m j body bytes batches room s v w)
      (staged_last a m j body bytes batches room s v w b (Ok u) x) in
      record { alive = passed.alive; rest = spent.rest; fewer = omega (arith, passed.fewer, spent.fewer); fuse = spent.fuse };
}
  where
    keeps : Keeps j.file a b
    keeps = keeps_trans j.file a m b w.keeps x.keeps

    settled : (bytes : List ℕ) (batches : List Batch) → IsSettled a j bytes batches
        → (now : List ℕ) × IsSettled b (state_after j body) now (batches ++ batch_of j body ∷ [])
    settled bytes batches s =
        let now = opened_bytes a m j body bytes batches room s v w b (Ok u) x in
        let shown : b.shown j.file ≡ Some now =
        x.shown _ (staged_shown a m j body bytes batches room s v w) ∙ ap (λ (l : List ℕ). Some l) (opened_is a m j body bytes batches room s v w b (Ok u) x) in
        let holds = opened_holds a m j body bytes batches room s v w b (Ok u) x in (
          now,
          record {
            on_disk = record { shown = shown; only = λ c image. some_inj _ _ (sym (x.only c image) ∙ shown); last = x.last ∙ shown };
            fits = holds.fits;
            in_row = row-push j body batches room s.in_row;
            spells = holds.in_force.spells;
          },
        )

-- the state that the code makes
pub state_is : (j : JournalState) (body : List ℕ) (n : ℕ) → n ≡ length body + around_body → j.failed ≡ false
    → state_after j body ≡ record j { gate = j.gate + n; next = j.next + 1 }
state_is j body n size works =
    ap (λ (k : ℕ). let x : JournalState = record { file = j.file; gate = j.gate + k; next = j.next + 1; failed = false } in x) (sym size)
    ∙ ap (λ (b : Bool). let x : JournalState = record { file = j.file; gate = j.gate + n; next = j.next + 1; failed = b } in x) (sym works)

-- a journal's state under another name
pub on_state : (a b : View) (i j k l : JournalState) (body : List ℕ) (result : Result (Unit {0}) CommitFault) → i ≡ j → k ≡ l
    → Committed a b i k body result → Committed a b j l body result
on_state a b i j k l body result before after c =
    subst (λ (x : JournalState). Committed a b x l body result) before (subst (λ (x : JournalState). Committed a b i x body result) after c)

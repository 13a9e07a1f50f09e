-- A writing call on one of the files of a depot in memory: its rules, and that the log tells what the files hold.
use Rattle.std.proofs.Common.{◌≡◌, ◌≢◌, inl, inr, ℕ, ◌≤◌, ◌<◌, List, [], ◌∷◌, ◌++◌, reverse, length, set, get_or, Some, Bool}
use Rattle.std.proofs.Common.{true, false, cond, ◌&&◌, Result, Ok, Err, sym, subst, refl, ◌∙◌, ap, arith, length-append}
use Rattle.std.specs.Bool.{⊤}
use Rattle.std.proofs.lemmas.Bool.Decides.{nat_tests}
use Rattle.std.proofs.lemmas.Bool.{cases_eq}
use Rattle.std.proofs.lemmas.List.{length-set, reverse-append, get_or-set_same, get_or-set_other, get_or_default}
use Rattle.dl_depot.specs.declared.device_call.DeviceCall.{DeviceCall}
use Rattle.dl_depot.specs.declared.device_call.DeviceCall.TheVariants.{Write, Cut, Sync}
use Rattle.dl_depot.specs.declared.device_fault.DeviceFault.{DeviceFault}
use Rattle.dl_depot.specs.declared.logged_call.End.{End}
use Rattle.dl_depot.specs.declared.logged_call.End.TheVariants.{Passed}
use Rattle.dl_depot.specs.declared.logged_call.LoggedCall.{LoggedCall}
use Rattle.dl_depot.specs.declared.logged_call.Work.{Work}
use Rattle.dl_depot.specs.declared.logged_call.Work.TheVariants
use Rattle.dl_depot.specs.Files.{file_count}
use Rattle.dl_depot.specs.Device.{Writes, Wrote, WasCut, Synced}
use Rattle.dl_depot.specs.Held.{Held, empty_held, end_of, shown_by, synced_by}
use Rattle.dl_depot.specs.Log.{call_of, bytes_of, state_after, state_of, Left, is_inside, is_log, IsLog, held_at, view_of, IsKept, IsJoined, Works}
use Rattle.dl_depot.specs.Reads.{log_is}
use Rattle.dl_depot.proofs.Fuses.{write_keeps, cut_keeps, stop_keeps}
use Rattle.dl_depot.proofs.Steps.{this_file, other_file, fails, passed, stopped, now_this}

-- a writing call meets the rules of every depot
works_is : (log log_after : List LoggedCall) (held now : ℕ → Held) (file : ℕ) → ((f : ℕ) → f ≢ file → now f ≡ held f) → IsLog (reverse log)
    → (call : DeviceCall) (bytes : List ℕ) (result : Result (Unit {0}) DeviceFault)
    → Works file call bytes log log_after (held file) (now file) result → Writes (view_of log held) (view_of log_after now) file call bytes result
works_is log log_after held now file others is call bytes (Ok tt) s =
    subst (λ (l : List LoggedCall). Writes (view_of log held) (view_of l now) file call bytes (Ok tt)) (sym s.joined.pushed)
    (passed log held now file others s.joined.logged s.joined.its_file is call bytes s.joined.its_call s.alive s.passes s.here)
works_is log log_after held now file others is call bytes (Err e) (inl r) =
    subst (λ (l : List LoggedCall). Writes (view_of log held) (view_of l now) file call bytes (Err e)) (sym r.same)
    (fails log held now file others r.here call bytes e)
works_is log log_after held now file others is call bytes (Err e) (inr s) =
    subst (λ (l : List LoggedCall). Writes (view_of log held) (view_of l now) file call bytes (Err e)) (sym s.joined.pushed)
    (stopped log held now file others s.joined.logged s.joined.its_file is call bytes e s.joined.its_call s.alive s.stops s.here)

-- what every call but a sync that passed keeps
last_is : (log log_after : List LoggedCall) (file : ℕ) (h k : Held) (call : DeviceCall) (bytes : List ℕ) (result : Result (Unit {0}) DeviceFault)
    → ((end : End) (was last : List ℕ) → synced_by call end was last ≡ last)
    → Works file call bytes log log_after h k result → k.synced ≡ h.synced
last_is log log_after file h k call bytes (Ok tt) same s = ap (λ (x : Held). x.synced) s.here ∙ same Passed h.shown h.synced
last_is log log_after file h k call bytes (Err e) same (inl r) = ap (λ (x : Held). x.synced) r.here
last_is log log_after file h k call bytes (Err e) same (inr s) = ap (λ (x : Held). x.synced) s.here ∙ same (end_of h.fuse) h.shown h.synced

-- after a sync that passed a stop leaves what was shown
left_sync : (call : DeviceCall) (end : End) (shown c : List ℕ) (Old : List ℕ → Type 0) → call ≡ Sync → end ≡ Passed → Left call end shown Old c → c ≡ shown
left_sync call end shown c Old is_sync is_passed left =
    let synced : Left Sync end shown Old c = subst (λ (k : DeviceCall). Left k end shown Old c) is_sync left in
    let passes : Left Sync Passed shown Old c = subst (λ (x : End). Left Sync x shown Old c) is_passed synced in
    passes

-- a sync meets the rules of every depot
synced_is : (log log_after : List LoggedCall) (held now : ℕ → Held) (file : ℕ) → ((f : ℕ) → f ≢ file → now f ≡ held f) → IsLog (reverse log)
    → (state_of file (reverse log)).0 ≡ (held file).shown → (result : Result (Unit {0}) DeviceFault)
    → Works file Sync [] log log_after (held file) (now file) result → Synced (view_of log held) (view_of log_after now) file result
synced_is log log_after held now file others is state (Ok tt) s =
    let e = s.joined.logged in
    let shows : (now file).shown ≡ (held file).shown = ap (λ (h : Held). h.shown) s.here in
    let syncs : (now file).synced ≡ (held file).shown = ap (λ (h : Held). h.synced) s.here in
    let Only : List LoggedCall → Type 0 = λ l. (c : List ℕ) → (view_of l now).image file (view_of l now).moment c → (view_of l now).shown file ≡ Some c in
    record {
      writes = works_is log log_after held now file others is Sync [] (Ok tt) s;
      only = subst Only (sym s.joined.pushed) (λ c image.
          ap (λ (l : List ℕ). Some l) (shows ∙ sym state ∙ sym
          (left_sync (call_of e.work) e.end (state_of file (reverse log)).0 c _ s.joined.its_call s.joined.its_end
          (now_this log held now file others e s.joined.its_file (length (log ++ e ∷ [])) c (omega (arith, length-append log (e ∷ []))) image))));
      last = ap (λ (l : List ℕ). Some l) (syncs ∙ sym shows);
      kept = tt;
    }
synced_is log log_after held now file others is state (Err e) (inl r) = record {
  writes = works_is log log_after held now file others is Sync [] (Err e) (inl r);
  only = tt;
  last = tt;
  kept = ap (λ (h : Held). Some h.synced) r.here;
}
synced_is log log_after held now file others is state (Err e) (inr s) = record {
  writes = works_is log log_after held now file others is Sync [] (Err e) (inr s);
  only = tt;
  last = tt;
  kept =
      ap (λ (h : Held). Some h.synced) s.here ∙ ap (λ (l : List ℕ). Some l)
      (stop_keeps Sync (end_of (held file).fuse) (held file).shown (held file).synced s.stops);
}

-- the call begins inside the file
abbrev pub FitsCall : DeviceCall → List ℕ → Type 0
FitsCall (Write at n) shown = at ≤ length shown
FitsCall (Cut size) shown = ⊤
FitsCall Sync shown = ⊤

-- a call that fits what the file shows reaches only inside it
fits_call : (w : Work) (shown : List ℕ) → FitsCall (call_of w) shown → is_inside w shown ≡ true
fits_call (TheVariants.Write at bytes) shown is = grind (arith, nat_tests)
fits_call (TheVariants.Cut size) shown is = refl
fits_call TheVariants.Sync shown is = refl

-- two facts that hold, hold together
both_true : (a b : Bool) → a ≡ true → b ≡ true → (a && b) ≡ true
both_true true b a_is b_is = b_is
both_true false b a_is b_is = absurd (cc a_is)

-- on one file of many
module _ (log log_after : List LoggedCall) (files : List Held) (i file : ℕ) (h k : Held) (kept : IsKept log files) (i_is : i ≡ file)
    (most : i < file_count) (there : h ≡ get_or files i h) where
  abbrev held : ℕ → Held
  held f = held_at files f

  abbrev now : ℕ → Held
  now f = held_at (set files i k) f

  inside : i < length files
  inside = let n = kept.count in omega (arith, n, most)

  was_is : held file ≡ h
  was_is = ap (λ (n : ℕ). get_or files n empty_held) (sym i_is) ∙ get_or_default files i empty_held h inside ∙ sym there

  now_is : now file ≡ k
  now_is = ap (λ (n : ℕ). get_or (set files i k) n empty_held) (sym i_is) ∙ get_or-set_same files i k empty_held inside

  others : (f : ℕ) → f ≢ file → now f ≡ held f
  others f other = get_or-set_other files i f k empty_held (λ same. other (same ∙ i_is))

  on_file : (call : DeviceCall) (bytes : List ℕ) (result : Result (Unit {0}) DeviceFault) → Works file call bytes log log_after h k result
      → Works file call bytes log log_after (held file) (now file) result
  on_file call bytes result works =
      subst (λ (x : Held). Works file call bytes log log_after x (now file) result) (sym was_is)
      (subst (λ (x : Held). Works file call bytes log log_after h x result) (sym now_is) works)

  is_kept : IsLog (reverse log)
  is_kept = log_is (reverse log) kept.log_fits

  pub wrote : (at : ℕ) (bytes : List ℕ) (result : Result (Unit {0}) DeviceFault)
      → Works file (Write at (length bytes)) bytes log log_after h k result
      → Wrote (view_of log (λ f. held_at files f)) (view_of log_after (λ f. held_at (set files i k) f)) file at bytes result
  wrote at bytes result works = record {
    writes = works_is log log_after held now file others is_kept (Write at (length bytes)) bytes result (on_file (Write at (length bytes)) bytes result works);
    last =
        ap (λ (l : List ℕ). Some l) (last_is log log_after file (held file) (now file) (Write at (length bytes)) bytes result
        (write_keeps at (length bytes)) (on_file (Write at (length bytes)) bytes result works));
  }

  pub was_cut : (size : ℕ) (result : Result (Unit {0}) DeviceFault) → Works file (Cut size) [] log log_after h k result
      → WasCut (view_of log (λ f. held_at files f)) (view_of log_after (λ f. held_at (set files i k) f)) file size result
  was_cut size result works = record {
    writes = works_is log log_after held now file others is_kept (Cut size) [] result (on_file (Cut size) [] result works);
    last =
        ap (λ (l : List ℕ). Some l) (last_is log log_after file (held file) (now file) (Cut size) [] result (cut_keeps size)
        (on_file (Cut size) [] result works));
  }

  pub synced : (result : Result (Unit {0}) DeviceFault) → Works file Sync [] log log_after h k result
      → Synced (view_of log (λ f. held_at files f)) (view_of log_after (λ f. held_at (set files i k) f)) file result
  synced result works = synced_is log log_after held now file others is_kept (kept.shown file) result (on_file Sync [] result works)

  -- the log tells what the files hold: nothing has changed but what it doesn't tell
  kept_same : log_after ≡ log → k.shown ≡ h.shown → k.synced ≡ h.synced → IsKept log_after (set files i k)
  kept_same same shown synced = subst (λ (l : List LoggedCall). IsKept l (set files i k)) (sym same) (record {
    log_fits = kept.log_fits;
    count = length-set files i k ∙ kept.count;
    shown = λ f. elim (cases_eq f file) [
      | inl here ↦ kept.shown f ∙ subst (λ (n : ℕ). (held n).shown ≡ (now n).shown) (sym here) (ap (λ (x : Held). x.shown) was_is ∙ sym shown
          ∙ sym (ap (λ (x : Held). x.shown) now_is))
      | inr other ↦ kept.shown f ∙ sym (ap (λ (x : Held). x.shown) (others f other))
    ];
    synced = λ f. elim (cases_eq f file) [
      | inl here ↦ kept.synced f ∙ subst (λ (n : ℕ). (held n).synced ≡ (now n).synced) (sym here) (ap (λ (x : Held). x.synced) was_is ∙ sym synced
          ∙ sym (ap (λ (x : Held). x.synced) now_is))
      | inr other ↦ kept.synced f ∙ sym (ap (λ (x : Held). x.synced) (others f other))
    ];
  })

  -- a call that joined the log
  module _ (call : DeviceCall) (bytes : List ℕ) (end : End) (e : LoggedCall) (its_file : e.file ≡ file) (its_call : call_of e.work ≡ call)
      (its_bytes : bytes_of e.work ≡ bytes) (its_end : e.end ≡ end) where
    abbrev past : List LoggedCall
    past = reverse log

    newest : reverse (log ++ e ∷ []) ≡ e ∷ past
    newest = reverse-append log (e ∷ [])

    state_other : (f : ℕ) → f ≢ file → state_of f (reverse (log ++ e ∷ [])) ≡ state_of f past
    state_other f other =
        ap (λ (l : List LoggedCall). state_of f l) newest ∙ ap (λ (b : Bool). cond b (state_after e (state_of f past)) (state_of f past))
        (other_file e.file f (λ same. other (same ∙ its_file)))

    state_this : state_of file (reverse (log ++ e ∷ [])) ≡ state_after e (state_of file past)
    state_this =
        ap (λ (l : List LoggedCall). state_of file l) newest
        ∙ ap (λ (b : Bool). cond b (state_after e (state_of file past)) (state_of file past)) (this_file e.file file its_file)

    was_shown : (state_of file past).0 ≡ h.shown
    was_shown = kept.shown file ∙ ap (λ (x : Held). x.shown) was_is

    was_synced : (state_of file past).1 ≡ h.synced
    was_synced = kept.synced file ∙ ap (λ (x : Held). x.synced) was_is

    shows : (state_after e (state_of file past)).0 ≡ shown_by call bytes end h.shown h.synced
    shows =
        ap (λ (x : DeviceCall). shown_by x (bytes_of e.work) e.end (state_of file past).0 (state_of file past).1) its_call
        ∙ ap (λ (x : List ℕ). shown_by call x e.end (state_of file past).0 (state_of file past).1) its_bytes
        ∙ ap (λ (x : End). shown_by call bytes x (state_of file past).0 (state_of file past).1) its_end
        ∙ ap (λ (x : List ℕ). shown_by call bytes end x (state_of file past).1) was_shown
        ∙ ap (λ (x : List ℕ). shown_by call bytes end h.shown x) was_synced

    syncs : (state_after e (state_of file past)).1 ≡ synced_by call end h.shown h.synced
    syncs =
        ap (λ (x : DeviceCall). synced_by x e.end (state_of file past).0 (state_of file past).1) its_call
        ∙ ap (λ (x : End). synced_by call x (state_of file past).0 (state_of file past).1) its_end
        ∙ ap (λ (x : List ℕ). synced_by call end x (state_of file past).1) was_shown
        ∙ ap (λ (x : List ℕ). synced_by call end h.shown x) was_synced

    kept_push : FitsCall call h.shown → k.shown ≡ shown_by call bytes end h.shown h.synced → k.synced ≡ synced_by call end h.shown h.synced
        → IsKept (log ++ e ∷ []) (set files i k)
    kept_push fit shown synced = record {
      log_fits = ap (λ (l : List LoggedCall). is_log l) newest ∙ both_true _ _ (fits_call e.work (state_of e.file past).0 fit_logged) kept.log_fits;
      count = length-set files i k ∙ kept.count;
      shown = λ f. elim (cases_eq f file) [
        | inl here ↦ subst (λ (n : ℕ). (state_of n (reverse (log ++ e ∷ []))).0 ≡ (now n).shown) (sym here) (ap (λ (s : List ℕ × List ℕ). s.0)
            state_this ∙ shows ∙ sym shown ∙ sym (ap (λ (x : Held). x.shown) now_is))
        | inr other ↦ ap (λ (s : List ℕ × List ℕ). s.0) (state_other f other) ∙ kept.shown f ∙ sym (ap (λ (x : Held). x.shown) (others f other))
      ];
      synced = λ f. elim (cases_eq f file) [
        | inl here ↦ subst (λ (n : ℕ). (state_of n (reverse (log ++ e ∷ []))).1 ≡ (now n).synced) (sym here) (ap (λ (s : List ℕ × List ℕ). s.1)
            state_this ∙ syncs ∙ sym synced ∙ sym (ap (λ (x : Held). x.synced) now_is))
        | inr other ↦ ap (λ (s : List ℕ × List ℕ). s.1) (state_other f other) ∙ kept.synced f ∙ sym (ap (λ (x : Held). x.synced) (others f other))
      ];
    }
      where
        fit_logged : FitsCall (call_of e.work) (state_of e.file past).0
        fit_logged =
            subst (λ (n : ℕ). FitsCall (call_of e.work) (state_of n past).0) (sym its_file)
            (subst (λ (l : List ℕ). FitsCall (call_of e.work) l) (sym was_shown) (subst (λ (x : DeviceCall). FitsCall x h.shown) (sym its_call) fit))

  joined : (call : DeviceCall) (bytes : List ℕ) (end : End) → FitsCall call h.shown → IsJoined file call bytes end log log_after
      → k.shown ≡ shown_by call bytes end h.shown h.synced → k.synced ≡ synced_by call end h.shown h.synced
      → IsKept log_after (set files i k)
  joined call bytes end fit j shown synced =
      subst (λ (l : List LoggedCall). IsKept l (set files i k)) (sym j.pushed)
      (kept_push call bytes end j.logged j.its_file j.its_call j.its_bytes j.its_end fit shown synced)

  -- the log still tells what the files hold
  pub still_kept : (call : DeviceCall) (bytes : List ℕ) (result : Result (Unit {0}) DeviceFault) → FitsCall call h.shown
      → Works file call bytes log log_after h k result → IsKept log_after (set files i k)
  still_kept call bytes (Ok tt) fit s = joined call bytes Passed fit s.joined (ap (λ (x : Held). x.shown) s.here) (ap (λ (x : Held). x.synced) s.here)
  still_kept call bytes (Err e) fit (inl r) = kept_same r.same (ap (λ (x : Held). x.shown) r.here) (ap (λ (x : Held). x.synced) r.here)
  still_kept call bytes (Err e) fit (inr s) =
      joined call bytes (end_of h.fuse) fit s.joined (ap (λ (x : Held). x.shown) s.here) (ap (λ (x : Held). x.synced) s.here)

  -- where the call begins inside the file
  pub fits_there : (at : ℕ) → ((bytes : List ℕ) → Some (held_at files file).shown ≡ Some bytes → at ≤ length bytes) → at ≤ length h.shown
  fits_there at most_shown = let here = most_shown (held file).shown refl in let same = ap (λ (x : Held). length x.shown) was_is in omega (arith, here, same)

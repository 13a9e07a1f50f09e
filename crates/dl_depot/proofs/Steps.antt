-- A call of a depot in memory: what it makes of the meanings.
use Rattle.std.proofs.Common.{◌≡◌, ◌≢◌, ◌↔◌, inl, inr, ℕ, ◌≤◌, ◌<◌, List, [], ◌∷◌, ◌++◌, reverse, take, length, Option}
use Rattle.std.proofs.Common.{Some, Bool, true, false, ◌==◌, Ok, Err, sym, subst, refl, ◌∙◌, ap, arith, length-append}
use Rattle.std.proofs.lemmas.Bool.Decides.{nat_tests}
use Rattle.std.proofs.lemmas.List.{take-append-le, take_all, reverse-append}
use Rattle.dl_depot.specs.declared.device_call.DeviceCall.{DeviceCall}
use Rattle.dl_depot.specs.declared.device_call.DeviceCall.TheVariants.{Write, Cut, Sync}
use Rattle.dl_depot.specs.declared.device_fault.DeviceFault.{DeviceFault}
use Rattle.dl_depot.specs.declared.logged_call.End.{End}
use Rattle.dl_depot.specs.declared.logged_call.End.TheVariants.{Passed, StoppedBefore, StoppedAfter}
use Rattle.dl_depot.specs.declared.logged_call.LoggedCall.{LoggedCall}
use Rattle.dl_depot.specs.declared.fuse.Fuse.{Fuse}
use Rattle.dl_depot.specs.View.{View, Keeps}
use Rattle.dl_depot.specs.Device.{Step, Writes, Stops, effect_of, left_by}
use Rattle.dl_depot.specs.Held.{Held, is_refused, after_call, after_fault, end_of, set_fuse_after, after_work, shown_by}
use Rattle.dl_depot.specs.Log.{call_of, state_of, Choose, IsStepped, Left, ImageOf, IsLog, view_of}
use Rattle.dl_depot.specs.Reads.{step_same, state_left}
use Rattle.dl_depot.proofs.Moments.{ordered, keeps_refl}
use Rattle.dl_depot.proofs.Fuses.{alive_is, lets_pass, stops_next, stop_shows}

-- what holds just when a second does, and the second just when a third, holds just when the third does
both : {A B C : Type 0} → A ↔ B → B ↔ C → A ↔ C
both p q = (λ a. q.0 (p.0 a), λ c. p.1 (q.1 c))

-- what holds just when a second does: the second holds just when it does
turn : {A B : Type 0} → A ↔ B → B ↔ A
turn p = (p.1, p.0)

-- what is there in two equal options is one thing
some_is : {X : Type 0} (x y : X) → Some x ≡ Some y → x ≡ y
some_is x y e = cc

-- what may be left is left by a step
step_left : (call : DeviceCall) (end : End) (shown c : List ℕ) (Old : List ℕ → Type 0) → Old shown → Left call end shown Old c → IsStepped call Old c
step_left (Write at n) Passed shown c Old old left = left
step_left (Cut size) Passed shown c Old old left = left
step_left Sync Passed shown c Old old left = (shown, old, left)
step_left call StoppedAfter shown c Old old left = left
step_left call StoppedBefore shown c Old old left = left

-- the numbers of different files don't compare equal
pub other_file : (a b : ℕ) → b ≢ a → (a == b) ≡ false
other_file a b other = grind (arith, nat_tests)

-- a file's number compares equal to itself
pub this_file : (a b : ℕ) → a ≡ b → (a == b) ≡ true
this_file a b same = grind (arith, nat_tests)

-- a call that leaves the log
module _ (log : List LoggedCall) (held now : ℕ → Held) (file : ℕ) (others : (f : ℕ) → f ≢ file → now f ≡ held f) where
  stays : (held file).faults ≤ (now file).faults → Keeps file (view_of log held) (view_of log now)
  stays no_fewer = let k = keeps_refl file (view_of log held) in record {
    later = k.later;
    past = k.past;
    others = k.others;
    told = λ f. refl;
    shown = λ f other. ap (λ (h : Held). Some h.shown) (others f other);
    synced = λ f other. ap (λ (h : Held). Some h.synced) (others f other);
    calls = λ f other. ap (λ (h : Held). Some h.calls) (others f other);
    fuse = λ f other. ap (λ (h : Held). Some h.fuse) (others f other);
    faults = λ f other. ap (λ (h : Held). h.faults) (others f other);
    no_fewer = no_fewer;
  }

  image_still : (t : ℕ) (c : List ℕ) → length log ≤ t → t ≤ length log → (view_of log held).image file t c ↔ (view_of log held).image file (length log) c
  image_still t c from to =
      let at : t ≡ length log = omega (arith, from, to) in
      subst (λ (n : ℕ). (view_of log held).image file n c ↔ (view_of log held).image file (length log) c) (sym at) (λ i. i, λ i. i)

  -- a writing call failed before it did anything
  pub fails : now file ≡ after_fault (after_call (held file)) → (call : DeviceCall) (bytes : List ℕ) (e : DeviceFault)
      → Writes (view_of log held) (view_of log now) file call bytes (Err e)
  fails here call bytes e = record {
    keeps = stays (let same = ap (λ (h : Held). h.faults) here in omega (arith, same));
    images = λ t c from to image. (c, (image_still t c from to).0 image, step_same call c);
    shown = λ was is. tt;
    counts = let same = ap (λ (h : Held). h.faults) here in record { passed = tt; failed = omega (arith, same) };
    told = λ calls are. tt;
    maybe_told = λ calls are. inl (ap (λ (h : Held). Some h.calls) here ∙ are);
    unset = λ none. ap (λ (h : Held). Some h.fuse) here ∙ none;
    burns = λ f set. inl (ap (λ (h : Held). Some h.fuse) here ∙ set);
  }

-- a call that joins the log
module _ (log : List LoggedCall) (held now : ℕ → Held) (file : ℕ) (others : (f : ℕ) → f ≢ file → now f ≡ held f) (e : LoggedCall) (its : e.file ≡ file) where
  abbrev past : List LoggedCall
  past = reverse log

  abbrev old : View
  old = view_of log held

  abbrev new : View
  new = view_of (log ++ e ∷ []) now

  newest : reverse (log ++ e ∷ []) ≡ e ∷ past
  newest = reverse-append log (e ∷ [])

  -- the calls up to a moment that has been
  up_to : (t : ℕ) → t ≤ length log → reverse (take t (log ++ e ∷ [])) ≡ reverse (take t log)
  up_to t le = ap (λ (l : List LoggedCall). reverse l) (take-append-le t log (e ∷ []) le)

  -- and up to now
  up_to_now : (t : ℕ) → length log < t → reverse (take t (log ++ e ∷ [])) ≡ e ∷ past
  up_to_now t less = ap (λ (l : List LoggedCall). reverse l) (take_all t (log ++ e ∷ []) (omega (arith, less, length-append log (e ∷ [])))) ∙ newest

  was_now : reverse (take (length log) log) ≡ past
  was_now = ap (λ (l : List LoggedCall). reverse l) (take_all (length log) log (omega arith))

  still : (f t : ℕ) (c : List ℕ) → t ≤ length log → new.image f t c ↔ old.image f t c
  still f t c le = let same = up_to t le in (subst (λ (l : List LoggedCall). ImageOf f l c) same, subst (λ (l : List LoggedCall). ImageOf f l c) (sym same))

  now_other : (f t : ℕ) (c : List ℕ) → f ≢ file → length log < t → new.image f t c ↔ ImageOf f past c
  now_other f t c other late =
      let same = up_to_now t late in
      let test : (e.file == f) ≡ false = other_file e.file f (λ same_file. other (same_file ∙ its)) in
      let Both : Bool → Type 0 = λ b. Choose b (Left (call_of e.work) e.end (state_of f past).0 (λ x. ImageOf f past x) c) (ImageOf f past c) in (
        λ image. subst Both test (subst (λ (l : List LoggedCall). ImageOf f l c) same image),
        λ image. subst (λ (l : List LoggedCall). ImageOf f l c) (sym same) (subst Both (sym test) image),
      )

  pub now_this : (t : ℕ) (c : List ℕ) → length log < t → new.image file t c → Left (call_of e.work) e.end (state_of file past).0 (λ x. ImageOf file past x) c
  now_this t c late image =
      let Both : Bool → Type 0 = λ b. Choose b (Left (call_of e.work) e.end (state_of file past).0 (λ x. ImageOf file past x) c) (ImageOf file past c) in
      subst Both (this_file e.file file its) (subst (λ (l : List LoggedCall). ImageOf file l c) (up_to_now t late) image)

  start : (f t : ℕ) (c : List ℕ) → t ≡ length log → old.image f t c ↔ ImageOf f past c
  start f t c is =
      let same : reverse (take t log) ≡ past = ap (λ (n : ℕ). reverse (take n log)) is ∙ was_now in
      (subst (λ (l : List LoggedCall). ImageOf f l c) same, subst (λ (l : List LoggedCall). ImageOf f l c) (sym same))

  pub keeps : (held file).faults ≤ (now file).faults → Keeps file old new
  keeps no_fewer = record {
    later = omega (arith, length-append log (e ∷ []));
    past = λ f t c le. still f t c le;
    others = λ f t c other from to. elim (ordered t (length log)) [
      | inl early ↦ both (still f t c early) (both (start f t c (omega (arith, early, from))) (turn (start f (length log) c refl)))
      | inr late ↦ both (now_other f t c other late) (turn (start f (length log) c refl))
    ];
    told = λ f. refl;
    shown = λ f other. ap (λ (h : Held). Some h.shown) (others f other);
    synced = λ f other. ap (λ (h : Held). Some h.synced) (others f other);
    calls = λ f other. ap (λ (h : Held). Some h.calls) (others f other);
    fuse = λ f other. ap (λ (h : Held). Some h.fuse) (others f other);
    faults = λ f other. ap (λ (h : Held). h.faults) (others f other);
    no_fewer = no_fewer;
  }

  pub images : IsLog past → (t : ℕ) (c : List ℕ) → old.moment ≤ t → t ≤ new.moment → new.image file t c
      → (d : List ℕ) × old.image file old.moment d × Step (call_of e.work) d c
  images is t c from to image = elim (ordered t (length log)) [
    | inl early ↦ (
      c,
      (turn (start file (length log) c refl)).0 ((start file t c (omega (arith, early, from))).0 ((still file t c early).0 image)),
      step_same (call_of e.work) c,
    )
    | inr late ↦
        let left = step_left (call_of e.work) e.end (state_of file past).0 c (λ x. ImageOf file past x) (state_left file past is).0 (now_this t c late image) in
        (left.0, (start file (length log) left.0 refl).1 left.1, left.2)
  ]

  -- it succeeded
  pub passed : IsLog past → (call : DeviceCall) (bytes : List ℕ) → call_of e.work ≡ call → is_refused (held file) ≡ false
      → end_of (held file).fuse ≡ Passed → now file ≡ after_work call bytes Passed (after_call (held file))
      → Writes old new file call bytes (Ok tt)
  passed is call bytes is_call alive passes here = record {
    keeps = keeps (let same = ap (λ (h : Held). h.faults) here in omega (arith, same));
    images = λ t c from to image. let left = images is t c from to image in (left.0, left.1, subst (λ (k : DeviceCall). Step k left.0 c) is_call left.2);
    shown = λ was shown. ap (λ (h : Held). Some h.shown) here ∙ ap (λ (l : List ℕ). Some (effect_of call bytes l)) (some_is _ _ shown);
    counts = record { passed = ap (λ (h : Held). h.faults) here; failed = tt };
    told = λ calls are. told calls are;
    maybe_told = λ calls are. inr (told calls are);
    unset = λ none. ap (λ (h : Held). Some h.fuse) here ∙ ap (λ (o : Option Fuse). Some (set_fuse_after o)) (some_is _ _ none);
    burns = λ f set.
        let is_set : (held file).fuse ≡ Some f = some_is _ _ set in
        let lets = lets_pass f (ap (λ (o : Option Fuse). end_of o) (sym is_set) ∙ passes) in
        record {
          whole = alive_is (held file) f is_set alive;
          rest = lets.rest;
          one_less = lets.one_less;
          fuse = ap (λ (h : Held). Some h.fuse) here ∙ ap (λ (o : Option Fuse). Some (set_fuse_after o)) is_set ∙ ap (λ (g : Fuse). Some (Some g)) lets.burns;
        };
  }
    where
      told : (calls : List DeviceCall) → old.calls file ≡ Some calls → new.calls file ≡ Some (calls ++ call ∷ [])
      told calls are = ap (λ (h : Held). Some h.calls) here ∙ ap (λ (l : List DeviceCall). Some (l ++ call ∷ [])) (some_is _ _ are)

  -- a fuse stopped it
  pub stopped : IsLog past → (call : DeviceCall) (bytes : List ℕ) (fault : DeviceFault) → call_of e.work ≡ call → is_refused (held file) ≡ false
      → end_of (held file).fuse ≢ Passed
      → now file ≡ after_fault (after_work call bytes (end_of (held file).fuse) (after_call (held file))) → Writes old new file call bytes (Err fault)
  stopped is call bytes fault is_call alive stops here = record {
    keeps = keeps (let same = ap (λ (h : Held). h.faults) here in omega (arith, same));
    images = λ t c from to image. let left = images is t c from to image in (left.0, left.1, subst (λ (k : DeviceCall). Step k left.0 c) is_call left.2);
    shown = λ was shown. tt;
    counts = let same = ap (λ (h : Held). h.faults) here in record { passed = tt; failed = omega (arith, same) };
    told = λ calls are. tt;
    maybe_told = λ calls are. inr (told calls are);
    unset = λ none. absurd (stops (ap (λ (o : Option Fuse). end_of o) (some_is _ _ none)));
    burns = λ f set. inr (stop f (some_is _ _ set));
  }
    where
      told : (calls : List DeviceCall) → old.calls file ≡ Some calls → new.calls file ≡ Some (calls ++ call ∷ [])
      told calls are = ap (λ (h : Held). Some h.calls) here ∙ ap (λ (l : List DeviceCall). Some (l ++ call ∷ [])) (some_is _ _ are)

      stop : (f : Fuse) → (held file).fuse ≡ Some f → Stops old new file call bytes f
      stop f set =
          let next = stops_next f (λ passes. stops (ap (λ (o : Option Fuse). end_of o) set ∙ passes)) in
          let end_is = ap (λ (o : Option Fuse). end_of o) set ∙ next.end_is in
          record {
            whole = alive_is (held file) f set alive;
            due = next.due;
            fuse = ap (λ (h : Held). Some h.fuse) here ∙ ap (λ (o : Option Fuse). Some (set_fuse_after o)) set ∙ ap (λ (g : Fuse). Some (Some g)) next.burns;
            shown = λ was last shows synced.
                ap (λ (h : Held). Some h.shown) here
                ∙ ap (λ (end : End). Some (shown_by call bytes end (held file).shown (held file).synced)) end_is
                ∙ ap (λ (l : List ℕ). Some l) (stop_shows f.outcome call bytes (held file).shown (held file).synced)
                ∙ ap (λ (l : List ℕ). Some (left_by f.outcome (effect_of call bytes l) (held file).synced)) (some_is _ _ shows)
                ∙ ap (λ (l : List ℕ). Some (left_by f.outcome (effect_of call bytes was) l)) (some_is _ _ synced);
            told = told;
          }

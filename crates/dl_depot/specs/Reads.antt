-- A file in memory as it reads is one of its images, and so are the bytes of its last sync.
use Rattle.std.specs.Prelude.{◌≡◌, ◌≤◌, ◌+◌, ◌-◌, ◌++◌, [], ◌∷◌, reverse, take, drop, ℕ, List, Some, Bool, true, false, length, ◌==◌, ◌&&◌, cond, refl}
use Rattle.std.proofs.Common.{suc, zero, sym, ◌∙◌, ap, subst, arith, append_assoc, length-append, length-take, length-drop}
use Rattle.std.proofs.lemmas.Bool.Decides.{nat_tests}
use Rattle.std.proofs.lemmas.List.{take_at, drop_at, take_all}
use Rattle.dl_depot.specs.declared.device_call.DeviceCall.{DeviceCall}
use Rattle.dl_depot.specs.declared.device_call.DeviceCall.TheVariants.{Write, Cut, Sync}
use Rattle.dl_depot.specs.declared.logged_call.Work.{Work}
use Rattle.dl_depot.specs.declared.logged_call.Work.TheVariants
use Rattle.dl_depot.specs.declared.logged_call.End.{End}
use Rattle.dl_depot.specs.declared.logged_call.End.TheVariants.{Passed, StoppedBefore, StoppedAfter}
use Rattle.dl_depot.specs.declared.logged_call.LoggedCall.{LoggedCall}
use Rattle.dl_depot.specs.Device.{IsTorn, IsShortened, with_bytes, Step}
use Rattle.dl_depot.specs.Held.{Held, shown_by, synced_by}
use Rattle.dl_depot.specs.Log.{call_of, bytes_of, state_after, state_of, Choose, Left, ImageOf, IsInside, IsLog, is_inside, is_log, held_at, view_of, IsKept}

-- both tests hold where their conjunction does
pub and_parts : (a b : Bool) → (a && b) ≡ true → (a ≡ true) × (b ≡ true)
and_parts true true is = (refl, refl)
and_parts true false is = absurd (cc is)
and_parts false b is = absurd (cc is)

-- the test says that a write begins inside the file
inside_is : (w : Work) (shown : List ℕ) → is_inside w shown ≡ true → IsInside w shown
inside_is (TheVariants.Write at bytes) shown is = grind (arith, nat_tests)
inside_is (TheVariants.Cut size) shown is = tt
inside_is TheVariants.Sync shown is = tt

-- and of a log that each write does
pub log_is : (log : List LoggedCall) → is_log log ≡ true → IsLog log
log_is [] is = tt
log_is (e ∷ past) is =
    let two = and_parts (is_inside e.work (state_of e.file past).0) (is_log past) is in
    (inside_is e.work (state_of e.file past).0 two.0, log_is past two.1)

-- a stop may leave what it left before
pub step_same : (call : DeviceCall) (c : List ℕ) → Step call c c
step_same (Write at n) c = record { before = refl; after = refl; no_shorter = omega arith; no_longer = omega arith }
step_same (Cut size) c = record { no_shorter = omega arith; front = take_all (length c) c (omega arith) }
step_same Sync c = refl

-- a stop may leave all that a write wrote
pub write_is_torn : (at : ℕ) (bytes old : List ℕ) → at ≤ length old → IsTorn at (length bytes) old (with_bytes at bytes old)
write_is_torn at bytes old le = record {
  before = take_at (take at old) _ at front;
  after =
      ap (λ (l : List ℕ). drop (at + length bytes) l) (sym (append_assoc (take at old) bytes (drop (at + length bytes) old)))
      ∙ drop_at (take at old ++ bytes) (drop (at + length bytes) old) (at + length bytes) (omega (arith, front, length-append (take at old) bytes));
  no_shorter = omega (arith, whole);
  no_longer = omega (arith, whole);
}
  where
    front : length (take at old) ≡ at
    front = omega (arith, length-take at old, le)

    whole : length (with_bytes at bytes old) ≡ at + (length bytes + (length old - (at + length bytes)))
    whole =
        omega (
          arith,
          front,
          length-append (take at old) (bytes ++ drop (at + length bytes) old),
          length-append bytes (drop (at + length bytes) old),
          length-drop (at + length bytes) old,
        )

-- a stop may leave all that a cut cut
pub cut_is_shortened : (n : ℕ) (old : List ℕ) → IsShortened n old (take n old)
cut_is_shortened n old = record { no_shorter = omega (arith, length-take n old); front = cut n old }
  where
    cut : (n : ℕ) (old : List ℕ) → take (length (take n old)) old ≡ take n old
    cut zero old = refl
    cut (suc n) [] = refl
    cut (suc n) (x ∷ old) = ap (λ (l : List ℕ). x ∷ l) (cut n old)

-- a call may leave what it shows, and what was synced last
pub left_state : (w : Work) (end : End) (s : List ℕ × List ℕ) (Old : List ℕ → Type 0) → Old s.0 → Old s.1 → IsInside w s.0
    → Left (call_of w) end s.0 Old (shown_by (call_of w) (bytes_of w) end s.0 s.1) × Left (call_of w) end s.0 Old (synced_by (call_of w) end s.0 s.1)
left_state (TheVariants.Write at bytes) Passed s Old shown synced fits =
    ((s.0, shown, write_is_torn at bytes.items s.0 fits), (s.1, synced, step_same (Write at (length bytes.items)) s.1))
left_state (TheVariants.Write at bytes) StoppedAfter s Old shown synced fits =
    ((s.0, shown, write_is_torn at bytes.items s.0 fits), (s.1, synced, step_same (Write at (length bytes.items)) s.1))
left_state (TheVariants.Write at bytes) StoppedBefore s Old shown synced fits =
    ((s.1, synced, step_same (Write at (length bytes.items)) s.1), (s.1, synced, step_same (Write at (length bytes.items)) s.1))
left_state (TheVariants.Cut size) Passed s Old shown synced fits = ((s.0, shown, cut_is_shortened size s.0), (s.1, synced, step_same (Cut size) s.1))
left_state (TheVariants.Cut size) StoppedAfter s Old shown synced fits = ((s.0, shown, cut_is_shortened size s.0), (s.1, synced, step_same (Cut size) s.1))
left_state (TheVariants.Cut size) StoppedBefore s Old shown synced fits = ((s.1, synced, step_same (Cut size) s.1), (s.1, synced, step_same (Cut size) s.1))
left_state TheVariants.Sync Passed s Old shown synced fits = (refl, refl)
left_state TheVariants.Sync StoppedAfter s Old shown synced fits = ((s.0, shown, refl), (s.1, synced, refl))
left_state TheVariants.Sync StoppedBefore s Old shown synced fits = ((s.1, synced, refl), (s.1, synced, refl))

-- files of one number are one
pub same_file : (a b : ℕ) → (a == b) ≡ true → a ≡ b
same_file a b test = grind (arith, nat_tests)

-- what a log shows of a file, and what it synced last, are images
pub state_left : (f : ℕ) (log : List LoggedCall) → IsLog log → ImageOf f log (state_of f log).0 × ImageOf f log (state_of f log).1
state_left f [] is = (refl, refl)
state_left f (e ∷ past) is = go (e.file == f) refl (state_left f past is.1)
  where
    go : (b : Bool) → (e.file == f) ≡ b → ImageOf f past (state_of f past).0 × ImageOf f past (state_of f past).1
        → Choose b (Left (call_of e.work) e.end (state_of f past).0 (λ c. ImageOf f past c)
        (cond b (state_after e (state_of f past)) (state_of f past)).0) (ImageOf f past (cond b (state_after e (state_of f past)) (state_of f past)).0)
        × Choose b (Left (call_of e.work) e.end (state_of f past).0 (λ c. ImageOf f past c)
        (cond b (state_after e (state_of f past)) (state_of f past)).1) (ImageOf f past (cond b (state_after e (state_of f past)) (state_of f past)).1)
    go true same before =
        left_state e.work e.end (state_of f past) (λ c. ImageOf f past c) before.0 before.1
        (subst (λ (n : ℕ). IsInside e.work (state_of n past).0) (same_file e.file f same) is.0)
    go false same before = before

-- the law of the trait
pub reads_image : (log : List LoggedCall) (files : List Held) → IsKept log files → (f : ℕ) (bytes : List ℕ)
    → (view_of log (λ g. held_at files g)).shown f ≡ Some bytes → (view_of log (λ g. held_at files g)).image f (view_of log (λ g. held_at files g)).moment bytes
reads_image log files kept f bytes shown =
    let same : (held_at files f).shown ≡ bytes = cc in
    subst (λ (l : List LoggedCall). ImageOf f l bytes) (sym (ap (λ (l : List LoggedCall). reverse l) (take_all (length log) log (omega arith))))
    (subst (λ (c : List ℕ). ImageOf f (reverse log) c) (kept.shown f ∙ same) (state_left f (reverse log) (log_is (reverse log) kept.log_fits)).0)

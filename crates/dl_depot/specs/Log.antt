-- A depot in memory keeps each writing call with its bytes; what a stop at a past moment left is read from them.
use Rattle.std.specs.Prelude.{◌≡◌, ◌≢◌, ◌⊎◌, ◌≤◌, ◌++◌, [], ◌∷◌, reverse, take, ℕ, List, Some, Bool, true}
use Rattle.std.specs.Prelude.{false, length, Result, Ok, Err, ◌==◌, nat_le, ◌&&◌, cond, slice_index_or, ⊤}
use Rattle.std.specs.declared.alloc.AllocError.{AllocError}
use Rattle.dl_depot.specs.declared.device_call.DeviceCall.{DeviceCall}
use Rattle.dl_depot.specs.declared.device_call.DeviceCall.TheVariants.{Write, Cut, Sync}
use Rattle.dl_depot.specs.declared.device_fault.DeviceFault.{DeviceFault}
use Rattle.dl_depot.specs.declared.logged_call.Work.{Work}
use Rattle.dl_depot.specs.declared.logged_call.Work.TheVariants
use Rattle.dl_depot.specs.declared.logged_call.End.{End}
use Rattle.dl_depot.specs.declared.logged_call.End.TheVariants.{Passed, StoppedBefore, StoppedAfter}
use Rattle.dl_depot.specs.declared.logged_call.LoggedCall.{LoggedCall}
use Rattle.dl_depot.specs.Files.{file_count}
use Rattle.dl_depot.specs.View.{View}
use Rattle.dl_depot.specs.Device.{Step}
use Rattle.dl_depot.specs.Held.{Held, empty_held, is_refused, after_call, after_fault, end_of, shown_by, synced_by, after_work}

-- the call that work was done by
abbrev pub call_of : Work → DeviceCall
call_of (TheVariants.Write at bytes) = Write at (length bytes.items)
call_of (TheVariants.Cut size) = Cut size
call_of TheVariants.Sync = Sync

-- the bytes that it wrote
abbrev pub bytes_of : Work → List ℕ
bytes_of (TheVariants.Write at bytes) = bytes.items
bytes_of (TheVariants.Cut size) = []
bytes_of TheVariants.Sync = []

-- the bytes shown and last synced after one call
abbrev pub state_after : LoggedCall → List ℕ × List ℕ → List ℕ × List ℕ
state_after e s = (shown_by (call_of e.work) (bytes_of e.work) e.end s.0 s.1, synced_by (call_of e.work) e.end s.0 s.1)

-- those of a file after these calls, the newest first
abbrev pub state_of : ℕ → List LoggedCall → List ℕ × List ℕ
state_of f [] = ([], [])
state_of f (e ∷ past) = cond (e.file == f) (state_after e (state_of f past)) (state_of f past)

-- the one or the other
abbrev pub Choose : Bool → Type 0 → Type 0 → Type 0
Choose true A B = A
Choose false A B = B

-- left by a step from what has Old
abbrev pub IsStepped : DeviceCall → (List ℕ → Type 0) → List ℕ → Type 0
IsStepped call Old c = (d : List ℕ) × Old d × Step call d c

-- what a stop may leave after a call that passed, where it may have left what has Old
abbrev pub LeftAfter : DeviceCall → List ℕ → (List ℕ → Type 0) → List ℕ → Type 0
LeftAfter (Write at n) shown Old c = IsStepped (Write at n) Old c
LeftAfter (Cut size) shown Old c = IsStepped (Cut size) Old c
LeftAfter Sync shown Old c = c ≡ shown

-- the same after a call with this end
abbrev pub Left : DeviceCall → End → List ℕ → (List ℕ → Type 0) → List ℕ → Type 0
Left call Passed shown Old c = LeftAfter call shown Old c
Left call StoppedAfter shown Old c = IsStepped call Old c
Left call StoppedBefore shown Old c = IsStepped call Old c

-- what a stop may leave of a file after these calls, the newest first
abbrev pub ImageOf : ℕ → List LoggedCall → List ℕ → Type 0
ImageOf f [] c = c ≡ []
ImageOf f (e ∷ past) c = Choose (e.file == f) (Left (call_of e.work) e.end (state_of f past).0 (ImageOf f past) c) (ImageOf f past c)

-- a write begins inside the file
abbrev pub IsInside : Work → List ℕ → Type 0
IsInside (TheVariants.Write at bytes) shown = at ≤ length shown
IsInside (TheVariants.Cut size) shown = ⊤
IsInside TheVariants.Sync shown = ⊤

-- each write does
abbrev pub IsLog : List LoggedCall → Type 0
IsLog [] = ⊤
IsLog (e ∷ past) = IsInside e.work (state_of e.file past).0 × IsLog past

-- the same as a test
abbrev pub is_inside : Work → List ℕ → Bool
is_inside (TheVariants.Write at bytes) shown = nat_le at (length shown)
is_inside (TheVariants.Cut size) shown = true
is_inside TheVariants.Sync shown = true

-- and for each
abbrev pub is_log : List LoggedCall → Bool
is_log [] = true
is_log (e ∷ past) = is_inside e.work (state_of e.file past).0 && is_log past

-- what is held of a file, where a file past the last is empty
abbrev pub held_at : List Held → ℕ → Held
held_at files f = slice_index_or files f empty_held

-- the meanings of a depot with this log, the newest call last, that holds this of each file
abbrev pub view_of : List LoggedCall → (ℕ → Held) → View
view_of log held = record {
  shown = λ f. Some (held f).shown;
  synced = λ f. Some (held f).synced;
  moment = length log;
  image = λ f t c. ImageOf f (reverse (take t log)) c;
  calls = λ f. Some (held f).calls;
  fuse = λ f. Some (held f).fuse;
  faults = λ f. (held f).faults;
}

-- all files, each with the bytes that the log tells
pub record IsKept (log : List LoggedCall) (files : List Held) : Type 0 where
  pub log_fits : is_log (reverse log) ≡ true
  pub count : length files ≡ file_count
  pub shown : (f : ℕ) → (state_of f (reverse log)).0 ≡ (held_at files f).shown
  pub synced : (f : ℕ) → (state_of f (reverse log)).1 ≡ (held_at files f).synced

-- a call has joined the log
pub record IsJoined (file : ℕ) (call : DeviceCall) (bytes : List ℕ) (end : End) (log log_after : List LoggedCall) : Type 0 where
  pub logged : LoggedCall
  pub its_file : logged.file ≡ file
  pub its_call : call_of logged.work ≡ call
  pub its_bytes : bytes_of logged.work ≡ bytes
  pub its_end : logged.end ≡ end
  pub pushed : log_after ≡ log ++ logged ∷ []

-- a writing call that nothing else fails: it joins the log and changes the file, or memory ran out and nothing is changed
abbrev pub Tries : ℕ → DeviceCall → List ℕ → List LoggedCall → List LoggedCall → Held → Held → Result End AllocError → Type 0
Tries file call bytes log log_after h k (Ok end) = (end ≡ end_of h.fuse) × IsJoined file call bytes end log log_after × (k ≡ after_work call bytes end h)
Tries file call bytes log log_after h k (Err e) = (log_after ≡ log) × (k ≡ h)

-- a writing call was made, and its fuse let it pass
pub record Succeeded (file : ℕ) (call : DeviceCall) (bytes : List ℕ) (log log_after : List LoggedCall) (h k : Held) : Type 0 where
  pub alive : is_refused h ≡ false
  pub passes : end_of h.fuse ≡ Passed
  pub joined : IsJoined file call bytes Passed log log_after
  pub here : k ≡ after_work call bytes Passed (after_call h)

-- a writing call was refused, or found no memory
pub record Refused (log log_after : List LoggedCall) (h k : Held) : Type 0 where
  pub same : log_after ≡ log
  pub here : k ≡ after_fault (after_call h)

-- a fuse stopped a writing call
pub record Stopped (file : ℕ) (call : DeviceCall) (bytes : List ℕ) (log log_after : List LoggedCall) (h k : Held) : Type 0 where
  pub alive : is_refused h ≡ false
  pub stops : end_of h.fuse ≢ Passed
  pub joined : IsJoined file call bytes (end_of h.fuse) log log_after
  pub here : k ≡ after_fault (after_work call bytes (end_of h.fuse) (after_call h))

-- what a writing call does to the log and its file
abbrev pub Works : ℕ → DeviceCall → List ℕ → List LoggedCall → List LoggedCall → Held → Held → Result (Unit {0}) DeviceFault → Type 0
Works file call bytes log log_after h k (Ok u) = Succeeded file call bytes log log_after h k
Works file call bytes log log_after h k (Err e) = Refused log log_after h k ⊎ Stopped file call bytes log log_after h k

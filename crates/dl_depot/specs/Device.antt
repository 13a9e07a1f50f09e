-- What each call of a depot does to its file, and what a stop may do between two syncs.
use Rattle.std.specs.Prelude.{◌≡◌, ◌⊎◌, ◌↔◌, ◌≤◌, ◌+◌, ◌-◌, ◌^◌, ◌++◌, [], ◌∷◌, min, max, take, drop, ℕ}
use Rattle.std.specs.Prelude.{List, Some, None, true, false, length, Result, Ok, Err, OnOk, OnErr, IfOk}
use Rattle.dl_depot.specs.declared.device_call.DeviceCall.{DeviceCall}
use Rattle.dl_depot.specs.declared.device_call.DeviceCall.TheVariants.{Write, Cut, Sync}
use Rattle.dl_depot.specs.declared.device_fault.DeviceFault.{DeviceFault}
use Rattle.dl_depot.specs.declared.fuse.Fuse.{Fuse}
use Rattle.dl_depot.specs.declared.fuse.Outcome.{Outcome}
use Rattle.dl_depot.specs.declared.fuse.Outcome.TheVariants.{Before, After}
use Rattle.dl_depot.specs.View.{View, Keeps}

-- a count of faults is a u64: one that stands at the greatest stays there
abbrev pub last_count : ℕ
last_count = 2 ^ 64 - 1

-- a count rose, or stands at its last value
abbrev pub Rose : ℕ → ℕ → Type 0
Rose before now = min (before + 1) last_count ≤ now

-- a call that fails raises the count of faults, and one that succeeds leaves it
pub record CountsFault {X : Type 0} (before now : ℕ) (result : Result X DeviceFault) : Type 0 where
  pub passed : OnOk result (now ≡ before)
  pub failed : OnErr result (Rose before now)

-- after a write of n bytes that a stop cuts short: any bytes in the range and past the old end, the same elsewhere
pub record IsTorn (at n : ℕ) (old new : List ℕ) : Type 0 where
  pub before : take at new ≡ take at old
  pub after : drop (at + n) new ≡ drop (at + n) old
  pub no_shorter : length old ≤ length new
  pub no_longer : length new ≤ max (length old) (at + n)

-- after a cut that a stop cuts short: some length between
pub record IsShortened (n : ℕ) (old new : List ℕ) : Type 0 where
  pub no_shorter : min n (length old) ≤ length new
  pub front : take (length new) old ≡ new

-- old with these bytes at this place
abbrev pub with_bytes : ℕ → List ℕ → List ℕ → List ℕ
with_bytes at bytes old = take at old ++ (bytes ++ drop (at + length bytes) old)

-- what each call does to the bytes shown
abbrev pub effect_of : DeviceCall → List ℕ → List ℕ → List ℕ
effect_of (Write at n) bytes old = with_bytes at bytes old
effect_of (Cut size) bytes old = take size old
effect_of Sync bytes old = old

-- what a stop in each call may make of an image
abbrev pub Step : DeviceCall → List ℕ → List ℕ → Type 0
Step (Write at n) old new = IsTorn at n old new
Step (Cut size) old new = IsShortened size old new
Step Sync old new = new ≡ old

-- a call that changes no byte and no image
pub record Looks (old new : View) (file : ℕ) : Type 0 where
  pub keeps : Keeps file old new
  pub images : (t : ℕ) (c : List ℕ) → old.moment ≤ t → t ≤ new.moment → new.image file t c ↔ old.image file old.moment c
  pub same_shown : new.shown file ≡ old.shown file
  pub same_synced : new.synced file ≡ old.synced file
  pub same_calls : new.calls file ≡ old.calls file
  pub same_fuse : new.fuse file ≡ old.fuse file

-- a call that succeeds was made under no fuse that has stopped a call
abbrev pub IsAlive : {X : Type 0} → View → ℕ → Result X DeviceFault → Type 0
IsAlive old file result = (f : Fuse) → old.fuse file ≡ Some (Some f) → OnOk result (f.stopped ≡ false)

-- what `size` answers
pub record Sized (old new : View) (file : ℕ) (result : Result ℕ DeviceFault) : Type 0 where
  pub looks : Looks old new file
  pub size : (bytes : List ℕ) → old.shown file ≡ Some bytes → IfOk result (λ n. n ≡ length bytes)
  pub counts : CountsFault (old.faults file) (new.faults file) result
  pub alive : IsAlive old file result

-- `count` bytes from `at` on stand at the start of the buffer
pub record Gives (at count : ℕ) (bytes into : List ℕ) : Type 0 where
  pub whole : count ≡ min (length into) (length bytes - at)
  pub same : take count into ≡ take count (drop at bytes)

-- what `read` answers
pub record Read (old new : View) (file at : ℕ) (into : List ℕ) (result : Result ℕ DeviceFault) : Type 0 where
  pub looks : Looks old new file
  pub at_most : IfOk result (λ n. n ≤ length into)
  pub bytes : (bytes : List ℕ) → old.shown file ≡ Some bytes → IfOk result (λ n. Gives at n bytes into)
  pub counts : CountsFault (old.faults file) (new.faults file) result
  pub alive : IsAlive old file result

-- a stop with this outcome leaves all that was written, or the bytes of the last sync
abbrev pub left_by : Outcome → List ℕ → List ℕ → List ℕ
left_by After written last = written
left_by Before written last = last

-- the fuse let a call pass
pub record Passes (new : View) (file : ℕ) (f : Fuse) : Type 0 where
  pub whole : f.stopped ≡ false
  pub rest : ℕ
  pub one_less : f.left ≡ rest + 1
  pub fuse : new.fuse file ≡ Some (Some (record f { left = rest }))

-- the fuse stopped the call
pub record Stops (old new : View) (file : ℕ) (call : DeviceCall) (bytes : List ℕ) (f : Fuse) : Type 0 where
  pub whole : f.stopped ≡ false
  pub due : f.left ≡ 0
  pub fuse : new.fuse file ≡ Some (Some (record f { stopped = true }))
  pub shown : (was last : List ℕ) → old.shown file ≡ Some was → old.synced file ≡ Some last
      → new.shown file ≡ Some (left_by f.outcome (effect_of call bytes was) last)
  pub told : (calls : List DeviceCall) → old.calls file ≡ Some calls → new.calls file ≡ Some (calls ++ call ∷ [])

-- a fuse lets a call pass, stops it, or the call fails before the fuse comes to it
abbrev pub Burns : View → View → ℕ → DeviceCall → List ℕ → Fuse → Result (Unit {0}) DeviceFault → Type 0
Burns old new file call bytes f (Ok u) = Passes new file f
Burns old new file call bytes f (Err e) = (new.fuse file ≡ Some (Some f)) ⊎ Stops old new file call bytes f

-- A writing call. Where it fails, a file as it reads is still one of its images.
pub record Writes (old new : View) (file : ℕ) (call : DeviceCall) (bytes : List ℕ) (result : Result (Unit {0}) DeviceFault) : Type 0 where
  pub keeps : Keeps file old new
  pub images : (t : ℕ) (c : List ℕ) → old.moment ≤ t → t ≤ new.moment → new.image file t c → (d : List ℕ) × old.image file old.moment d × Step call d c
  pub shown : (was : List ℕ) → old.shown file ≡ Some was → OnOk result (new.shown file ≡ Some (effect_of call bytes was))
  pub counts : CountsFault (old.faults file) (new.faults file) result
  pub told : (calls : List DeviceCall) → old.calls file ≡ Some calls → OnOk result (new.calls file ≡ Some (calls ++ call ∷ []))
  -- a call that fails was made or not
  pub maybe_told : (calls : List DeviceCall) → old.calls file ≡ Some calls → (new.calls file ≡ Some calls) ⊎ (new.calls file ≡ Some (calls ++ call ∷ []))
  pub unset : old.fuse file ≡ Some None → new.fuse file ≡ Some None
  pub burns : (f : Fuse) → old.fuse file ≡ Some (Some f) → Burns old new file call bytes f result

-- what `write_at` does
pub record Wrote (old new : View) (file at : ℕ) (bytes : List ℕ) (result : Result (Unit {0}) DeviceFault) : Type 0 where
  pub writes : Writes old new file (Write at (length bytes)) bytes result
  pub last : new.synced file ≡ old.synced file

-- what `cut` does
pub record WasCut (old new : View) (file size : ℕ) (result : Result (Unit {0}) DeviceFault) : Type 0 where
  pub writes : Writes old new file (Cut size) [] result
  pub last : new.synced file ≡ old.synced file

-- what `sync` does: after it a stop leaves what reads give
pub record Synced (old new : View) (file : ℕ) (result : Result (Unit {0}) DeviceFault) : Type 0 where
  pub writes : Writes old new file Sync [] result
  pub only : OnOk result ((c : List ℕ) → new.image file new.moment c → new.shown file ≡ Some c)
  pub last : OnOk result (new.synced file ≡ new.shown file)
  pub kept : OnErr result (new.synced file ≡ old.synced file)

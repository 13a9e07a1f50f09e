-- What a depot in memory holds of one file, and what each call makes of it.
use Rattle.std.specs.Prelude.{◌≡◌, ◌≤◌, ◌+◌, ◌-◌, ◌++◌, [], ◌∷◌, ◌==◌, ◌||◌, min, max, take, ℕ, List, Option}
use Rattle.std.specs.Prelude.{Some, None, Bool, true, false, cond, length, Result, Ok, Err, MatchResult}
use Rattle.std.specs.declared.alloc.AllocError.{AllocError}
use Rattle.dl_depot.specs.declared.device_call.DeviceCall.{DeviceCall}
use Rattle.dl_depot.specs.declared.device_call.DeviceCall.TheVariants.{Write, Cut, Sync}
use Rattle.dl_depot.specs.declared.device_fault.DeviceFault.{DeviceFault}
use Rattle.dl_depot.specs.declared.logged_call.End.{End}
use Rattle.dl_depot.specs.declared.logged_call.End.TheVariants.{Passed, StoppedBefore, StoppedAfter}
use Rattle.dl_depot.specs.declared.fuse.Fuse.{Fuse}
use Rattle.dl_depot.specs.declared.fuse.Outcome.{Outcome}
use Rattle.dl_depot.specs.declared.fuse.Outcome.TheVariants.{Before, After}
use Rattle.dl_depot.specs.Device.{last_count, effect_of}

-- what is held of one file
pub record Held : Type 0 where
  -- the bytes that reads give, and those of the last sync
  pub shown : List ℕ
  pub synced : List ℕ
  -- the writing calls, the fuse that is set
  pub calls : List DeviceCall
  pub fuse : Option Fuse
  -- the number of the call that is to fail, counted from 1 from now on; 0: none
  pub due : ℕ
  pub faults : ℕ

-- an empty file with no fault
abbrev pub empty_held : Held
empty_held = record { shown = []; synced = []; calls = []; fuse = None; due = 0; faults = 0 }

-- so many first bytes of both are the same
pub record Agree (same : ℕ) (shown synced : List ℕ) : Type 0 where
  pub in_shown : same ≤ length shown
  pub in_synced : same ≤ length synced
  pub front : take same shown ≡ take same synced

-- the fuse has stopped a call
abbrev pub has_stopped : Option Fuse → Bool
has_stopped None = false
has_stopped (Some f) = f.stopped

-- the next call fails before it does anything: its number is due, or a fuse has stopped a call
abbrev pub is_refused : Held → Bool
is_refused h = (h.due == 1) || has_stopped h.fuse

-- a call has been counted
abbrev pub after_call : Held → Held
after_call h = record h { due = h.due - 1 }

-- one more, up to the last
abbrev pub count_after : ℕ → ℕ
count_after n = max n (min (n + 1) last_count)

-- a fault has been counted
abbrev pub after_fault : Held → Held
after_fault h = record h { faults = count_after h.faults }

-- how a call ends that this outcome stops
abbrev pub stop_of : Outcome → End
stop_of Before = StoppedBefore
stop_of After = StoppedAfter

-- how the next writing call ends under this fuse
abbrev pub end_by : Fuse → End
end_by f = cond (f.left == 0) (stop_of f.outcome) Passed

-- how the next writing call ends, with a fuse or without
abbrev pub end_of : Option Fuse → End
end_of None = Passed
end_of (Some f) = end_by f

-- a fuse after a writing call that it let pass or stopped
abbrev pub fuse_after : Fuse → Fuse
fuse_after f = cond (f.left == 0) (record f { stopped = true }) (record f { left = f.left - 1 })

-- the same, with a fuse or without
abbrev pub set_fuse_after : Option Fuse → Option Fuse
set_fuse_after None = None
set_fuse_after (Some f) = Some (fuse_after f)

-- the bytes shown after a writing call with this end, where reads gave `was` and `last` was synced last
abbrev pub shown_by : DeviceCall → List ℕ → End → List ℕ → List ℕ → List ℕ
shown_by call bytes Passed was last = effect_of call bytes was
shown_by call bytes StoppedAfter was last = effect_of call bytes was
shown_by call bytes StoppedBefore was last = last

-- the bytes of the last sync after a call that passed
abbrev pub synced_after : DeviceCall → List ℕ → List ℕ → List ℕ
synced_after (Write at n) was last = last
synced_after (Cut size) was last = last
synced_after Sync was last = was

-- the bytes of the last sync after a call with this end
abbrev pub synced_by : DeviceCall → End → List ℕ → List ℕ → List ℕ
synced_by call Passed was last = synced_after call was last
synced_by call StoppedAfter was last = last
synced_by call StoppedBefore was last = last

-- what is held after a writing call that was made, with this end
abbrev pub after_work : DeviceCall → List ℕ → End → Held → Held
after_work call bytes end h = record h {
  shown = shown_by call bytes end h.shown h.synced;
  synced = synced_by call end h.shown h.synced;
  calls = h.calls ++ call ∷ [];
  fuse = set_fuse_after h.fuse;
}

-- a file becomes what a call makes of it, or memory ran out and it is as before
abbrev pub Becomes : Held → Held → Held → Result (Unit {0}) AllocError → Type 0
Becomes wanted old new result = MatchResult result (λ _. new ≡ wanted) (λ _. new ≡ old)

-- a call that passed succeeds; one that was stopped or found no memory fails, and the fault is counted
abbrev pub Settles : Held → Held → Result End AllocError → Result (Unit {0}) DeviceFault → Type 0
Settles h k (Ok Passed) result = (k ≡ h) × (result ≡ Ok tt)
Settles h k (Ok StoppedAfter) result = (k ≡ after_fault h) × (result ≡ Err (record {}))
Settles h k (Ok StoppedBefore) result = (k ≡ after_fault h) × (result ≡ Err (record {}))
Settles h k (Err e) result = (k ≡ after_fault h) × (result ≡ Err (record {}))

-- The device calls that work on a journal's file makes, and what a fuse does with them.
use Rattle.std.specs.Prelude.{◌≡◌, ◌≤◌, ◌<◌, ◌+◌, ℕ, List, [], ◌∷◌, ◌++◌, length, take, Some, None, true, false, Result, Ok, Err, OnOk}
use Rattle.dl_depot.specs.View.{View, Keeps, LeavesOnly}
use Rattle.dl_depot.specs.Device.{CountsFault, IsTorn, with_bytes, left_by}
use Rattle.dl_depot.specs.declared.device_call.DeviceCall.{DeviceCall}
use Rattle.dl_depot.specs.declared.device_call.DeviceCall.TheVariants.{Write, Sync}
use Rattle.dl_depot.specs.declared.device_fault.DeviceFault.{DeviceFault}
use Rattle.dl_depot.specs.declared.fuse.Fuse.{Fuse}
use Rattle.dl_depot.specs.declared.fuse.Outcome.{Outcome}
use Rattle.dl_journal.specs.Limits.{journal_limit}

-- the file's writing calls since then are the first `n` of this work
abbrev pub Adds : View → View → ℕ → List DeviceCall → ℕ → Type 0
Adds old new file work n = (calls : List DeviceCall) → old.calls file ≡ Some calls → new.calls file ≡ Some (calls ++ take n work)

-- Of this work's writing calls all were made where it succeeded, and else some first ones. No fuse is set by it.
pub record MakesCalls {X E : Type 0} (old new : View) (file : ℕ) (work : List DeviceCall) (result : Result X E) : Type 0 where
  pub told : (calls : List DeviceCall) → old.calls file ≡ Some calls → OnOk result (new.calls file ≡ Some (calls ++ work))
  pub fronts : (calls : List DeviceCall) → old.calls file ≡ Some calls → (n : ℕ) × (new.calls file ≡ Some (calls ++ take n work))
  pub unset : old.fuse file ≡ Some None → new.fuse file ≡ Some None

-- a fuse let all of this work's writing calls pass
pub record Spent (new : View) (file : ℕ) (work : List DeviceCall) (f : Fuse) : Type 0 where
  pub alive : f.stopped ≡ false
  pub rest : ℕ
  pub fewer : f.left ≡ rest + length work
  pub fuse : new.fuse file ≡ Some (Some (record f { left = rest }))

-- A fuse stopped this work: it had let `f.left` of the writing calls pass. Those were made and the one that it stopped, no
-- other, and P holds.
pub record StopsWork (old new : View) (file : ℕ) (work : List DeviceCall) (P : Outcome → ℕ → Type 0) (f : Fuse) : Type 0 where
  pub behind : f.left < length work
  pub told : Adds old new file work (f.left + 1)
  pub holds : P f.outcome f.left

-- this work failed under a fuse that is still set
pub record Caught (old new : View) (file : ℕ) (work : List DeviceCall) (P : Outcome → ℕ → Type 0) (f : Fuse) : Type 0 where
  pub now : Fuse
  pub fuse : new.fuse file ≡ Some (Some now)
  pub at_stop : f.stopped ≡ false → now.stopped ≡ true → StopsWork old new file work P f

-- what work does with a fuse
abbrev pub Spends : {E : Type 0} → View → View → ℕ → List DeviceCall → (Outcome → ℕ → Type 0) → Fuse → Result (Unit {0}) E → Type 0
Spends old new file work P f (Ok u) = Spent new file work f
Spends old new file work P f (Err e) = Caught old new file work P f

-- a file within the limit stays within it: each image at each moment, if each image at the start is
abbrev pub StaysInLimit : ℕ → View → View → Type 0
StaysInLimit file old new = ((c : List ℕ) → old.image file old.moment c → length c ≤ journal_limit) → LeavesOnly file old new (λ c. length c ≤ journal_limit)

-- the writing calls of a write and a sync
abbrev pub store_calls : ℕ → List ℕ → List DeviceCall
store_calls at bytes = Write at (length bytes) ∷ Sync ∷ []

-- a write, then a sync
pub record Stores (old new : View) (file at : ℕ) (bytes : List ℕ) (result : Result (Unit {0}) DeviceFault) : Type 0 where
  pub keeps : Keeps file old new
  pub images : (t : ℕ) (c : List ℕ) → old.moment ≤ t → t ≤ new.moment → new.image file t c
      → (d : List ℕ) × old.image file old.moment d × IsTorn at (length bytes) d c
  pub only : OnOk result ((c : List ℕ) → new.image file new.moment c → new.shown file ≡ Some c)
  pub shown : (was : List ℕ) → old.shown file ≡ Some was → OnOk result (new.shown file ≡ Some (with_bytes at bytes was))
  pub last : OnOk result (new.synced file ≡ new.shown file)
  pub counts : CountsFault (old.faults file) (new.faults file) result
  pub calls : MakesCalls old new file (store_calls at bytes) result
  pub spends : (f : Fuse) (was last : List ℕ) → old.fuse file ≡ Some (Some f) → old.shown file ≡ Some was → old.synced file ≡ Some last
      → Spends old new file (store_calls at bytes) (λ outcome left. new.shown file ≡ Some (left_by outcome (with_bytes at bytes was) last)) f result

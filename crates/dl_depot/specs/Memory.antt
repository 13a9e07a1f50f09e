-- What a depot in memory means, and what its own calls add to the rules of every depot.
use Rattle.std.specs.Prelude.{◌≡◌, ◌≢◌, ◌⊎◌, ◌↔◌, ℕ, List, true, false, Result, Ok, Err, IsErr, MatchResult}
use Rattle.dl_depot.specs.declared.device_call.DeviceCall.{DeviceCall}
use Rattle.dl_depot.specs.declared.device_fault.DeviceFault.{DeviceFault}
use Rattle.dl_depot.specs.declared.logged_call.End.TheVariants.{Passed}
use Rattle.dl_depot.specs.declared.memory.MemDepot.{MemDepot}
use Rattle.dl_depot.specs.View.{View}
use Rattle.dl_depot.specs.Held.{Held, empty_held, is_refused, after_call, after_fault, end_of, after_work}
use Rattle.dl_depot.specs.Log.{held_at, view_of}

-- what it holds of each file
abbrev pub held_by : MemDepot → ℕ → Held
held_by d f = held_at d.files.items f

-- all its meanings
abbrev pub view_by : MemDepot → View
view_by d = view_of d.log.items (λ f. held_at d.files.items f)

-- a depot that was just made: no call yet, and every file is empty
pub record IsNew (d : MemDepot) : Type 0 where
  pub moment : (view_by d).moment ≡ 0
  pub held : (f : ℕ) → held_by d f ≡ empty_held

-- a reading call fails exactly where it is refused; it counts itself, and its fault
pub record Looked {X : Type 0} (old new : ℕ → Held) (file : ℕ) (result : Result X DeviceFault) : Type 0 where
  pub fails : IsErr result ↔ (is_refused (old file) ≡ true)
  pub here : MatchResult result (λ _. new file ≡ after_call (old file)) (λ _. new file ≡ after_fault (after_call (old file)))
  pub others : (f : ℕ) → f ≢ file → new f ≡ old f

-- A writing call succeeds where it is not refused and its fuse lets it pass, unless memory runs out. Where it is refused
-- or finds no memory, only its fault is counted. Where its fuse stops it, it was made.
abbrev pub Did : DeviceCall → List ℕ → Held → Held → Result (Unit {0}) DeviceFault → Type 0
Did call bytes h k (Ok u) = (is_refused h ≡ false) × (end_of h.fuse ≡ Passed) × (k ≡ after_work call bytes Passed (after_call h))
Did call bytes h k (Err e) =
    (k ≡ after_fault (after_call h)) ⊎ ((is_refused h ≡ false) × (end_of h.fuse ≢ Passed)
    × (k ≡ after_fault (after_work call bytes (end_of h.fuse) (after_call h))))

-- the same, with the other files
pub record Wrought (old new : ℕ → Held) (file : ℕ) (call : DeviceCall) (bytes : List ℕ) (result : Result (Unit {0}) DeviceFault) : Type 0 where
  pub here : Did call bytes (old file) (new file) result
  pub others : (f : ℕ) → f ≢ file → new f ≡ old f

-- one file holds something else, and nothing else has changed
pub record Sets (old new : MemDepot) (file : ℕ) (held : Held) : Type 0 where
  pub log : new.log ≡ old.log
  pub here : held_by new file ≡ held
  pub others : (f : ℕ) → f ≢ file → held_by new f ≡ held_by old f

-- Setting a fuse on a file, and taking it away.
use Rattle.std.specs.Prelude.{◌≡◌, ◌≢◌, ◌↔◌, ◌≤◌, ℕ, List, Some, None, Bool, false}
use Rattle.dl_depot.specs.declared.fuse.Fuse.{Fuse}
use Rattle.dl_depot.specs.declared.fuse.Outcome.{Outcome}
use Rattle.dl_depot.specs.View.{View}

-- nothing but the fuse of one file may have changed
pub record Still (file : ℕ) (old new : View) : Type 0 where
  pub moment : new.moment ≡ old.moment
  pub images : (f t : ℕ) (c : List ℕ) → t ≤ old.moment → new.image f t c ↔ old.image f t c
  pub shown : (f : ℕ) → new.shown f ≡ old.shown f
  pub synced : (f : ℕ) → new.synced f ≡ old.synced f
  pub calls : (f : ℕ) → new.calls f ≡ old.calls f
  pub faults : (f : ℕ) → new.faults f ≡ old.faults f
  pub fuse : (f : ℕ) → f ≢ file → new.fuse f ≡ old.fuse f

-- a fuse is set that has stopped no call yet
pub record FuseSet (old new : View) (file calls : ℕ) (outcome : Outcome) : Type 0 where
  pub still : Still file old new
  pub set_ : new.fuse file ≡ Some (Some (record { left = calls; outcome = outcome; stopped = false }))

-- the fuse is taken away; the answer says whether it had stopped a call
pub record Revived (old new : View) (file : ℕ) (result : Bool) : Type 0 where
  pub still : Still file old new
  pub taken : new.fuse file ≡ Some None
  pub stopped : (f : Fuse) → old.fuse file ≡ Some (Some f) → result ≡ f.stopped
  pub unset : old.fuse file ≡ Some None → result ≡ false

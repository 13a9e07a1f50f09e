-- A task for a stream's lock stands for a view: the stream, and all that it heard.
use Rattle.std.specs.Prelude.{◌≡◌, ℕ, List}
use Rattle.dl_rules_stream.specs.Locks.{LockStage, MakingMember, ListingMembers, LeavingLock, LockDone, lock_first, lock_hears}
use Rattle.dl_requests.specs.Tasks.{View, Order, stage_by}
use Rattle.dl_lock.specs.declared.stage.Stage.{Stage}
use Rattle.dl_lock.specs.declared.stage.Stage.TheVariants.{Making, Listing, Leaving, Over}
use Rattle.dl_lock.specs.Facts.{LockFacts}

-- the order that takes a stream's lock
abbrev pub lock_order : Order (List ℕ) LockStage (List ℕ)
lock_order = record { first = lock_first; hears = lock_hears }

-- the stage of the order that a kept stage stands for
abbrev pub lock_stage_of : Stage → LockStage
lock_stage_of Making = MakingMember
lock_stage_of (Listing member) = ListingMembers member
lock_stage_of (Leaving member least) = LeavingLock member least
lock_stage_of Over = LockDone

-- a task stands at a stage of its order
pub record StandsAt (s : List ℕ) (stage : LockStage) (f : LockFacts) : Type 0 where
  pub stream : f.stream ≡ s
  pub at : lock_stage_of f.stage ≡ stage

-- a task stands for a view: each thing that it keeps is what the view says
abbrev pub StandsFor : View (List ℕ) → LockFacts → Type 0
StandsFor v f = StandsAt v.given (stage_by lock_order v) f

-- a task at another kept stage
abbrev pub with_stage : LockFacts → Stage → LockFacts
with_stage f stage = record { stream = f.stream; stage = stage }

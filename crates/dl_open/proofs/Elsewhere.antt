-- Where an order doesn't wait for a part, that part doesn't go on.
use Rattle.std.proofs.Common.{◌≡◌, ◌≢◌, ℕ, List, refl}
use Rattle.dl_alloc.specs.declared.stage.Stage as alloc_stage
use Rattle.dl_alloc.specs.Facts.{AllocationFacts}
use Rattle.dl_lock.specs.declared.stage.Stage as lock_stage
use Rattle.dl_lock.specs.Facts.{LockFacts}
use Rattle.dl_segrecover.specs.declared.stage.Stage as segment_stage
use Rattle.dl_segrecover.specs.Facts.{SegmentFacts}
use Rattle.dl_open.specs.declared.next_segment.NextSegment.{NextSegment}
use Rattle.dl_open.specs.declared.open_stage.OpenStage.{OpenStage}
use Rattle.dl_open.specs.declared.open_stage.OpenStage.TheVariants as opened
use Rattle.dl_open.specs.declared.recover_stage.RecoverStage.{RecoverStage}
use Rattle.dl_open.specs.declared.recover_stage.RecoverStage.TheVariants as recover
use Rattle.dl_open.specs.Opening as opens
use Rattle.dl_open.specs.Recovering as recovers

-- no lock
pub no_lock : (stage : OpenStage) (next : lock_stage.Stage) → ((l : LockFacts) → stage ≢ opened.Locking l) → stage ≡ opens.with_lock stage next
no_lock (opened.Locking l) next none = absurd (none l refl)
no_lock (opened.Looking m) next none = refl
no_lock (opened.Recovering m k recovery) next none = refl
no_lock (opened.Allocating m n a) next none = refl
no_lock (opened.Starting m start) next none = refl
no_lock opened.Over next none = refl

-- no recovery of a segment
pub no_recovery : (stage : OpenStage) (next : segment_stage.Stage)
    → ((m : List ℕ) (k : ℕ) (recovery : SegmentFacts) → stage ≢ opened.Recovering m k recovery) → stage ≡ opens.with_recovery stage next
no_recovery (opened.Locking l) next none = refl
no_recovery (opened.Looking m) next none = refl
no_recovery (opened.Recovering m k recovery) next none = absurd (none m k recovery refl)
no_recovery (opened.Allocating m n a) next none = refl
no_recovery (opened.Starting m start) next none = refl
no_recovery opened.Over next none = refl

-- no allocation
pub no_allocation : (stage : OpenStage) (next : alloc_stage.Stage)
    → ((m : List ℕ) (n : NextSegment) (a : AllocationFacts) → stage ≢ opened.Allocating m n a) → stage ≡ opens.with_allocation stage next
no_allocation (opened.Locking l) next none = refl
no_allocation (opened.Looking m) next none = refl
no_allocation (opened.Recovering m k recovery) next none = refl
no_allocation (opened.Allocating m n a) next none = absurd (none m n a refl)
no_allocation (opened.Starting m start) next none = refl
no_allocation opened.Over next none = refl

-- no recovery of a segment, in the recovery of a stream
pub no_segment : (stage : RecoverStage) (next : segment_stage.Stage) → ((k : ℕ) (recovery : SegmentFacts) → stage ≢ recover.Recovering k recovery)
    → stage ≡ recovers.with_recovery stage next
no_segment recover.Looking next none = refl
no_segment (recover.Recovering k recovery) next none = absurd (none k recovery refl)
no_segment recover.Over next none = refl

-- What the rule says of a request that failed.
use Rattle.std.proofs.Common.{◌≡◌, ◌≢◌, ℕ, false, List, Option, refl}
use Rattle.dl_types.specs.declared.why.Why.{Why}
use Rattle.dl_types.specs.declared.why.Why.TheVariants.{NoNode, NodeExists, BadVersion, NotEmpty, EphemeralParent, Spent}
use Rattle.dl_types.specs.declared.meta_answer.MetaAnswer.TheVariants as answer
use Rattle.dl_rules_stream.specs.Orders.{Refused, no_way_on}
use Rattle.dl_rules_stream.specs.SegmentRecoveries.{SegmentArgs, GettingSegment, SegmentDone, gets, is_completed, segment_answers}

-- where the segment's node can't be read, and is there, there is no way on
pub failed_getting : (x : SegmentArgs) (place : ℕ) (w : Why) → w ≢ NoNode
    → segment_answers x GettingSegment (answer.Failed place w) ≡ (SegmentDone, Refused (no_way_on (gets x) place w))
unfolding segment_answers
failed_getting x place NoNode other = absurd (other refl)
failed_getting x place NodeExists other = refl
failed_getting x place (BadVersion now) other = refl
failed_getting x place (NotEmpty count) other = refl
failed_getting x place EphemeralParent other = refl
failed_getting x place Spent other = refl

-- a completion that fails otherwise than by a missing node wasn't done by another
pub not_missing : (member : Option (List ℕ)) (place : ℕ) (w : Why) → w ≢ NoNode → is_completed member place w ≡ false
not_missing member place NoNode other = absurd (other refl)
not_missing member place NodeExists other = refl
not_missing member place (BadVersion now) other = refl
not_missing member place (NotEmpty count) other = refl
not_missing member place EphemeralParent other = refl
not_missing member place Spent other = refl

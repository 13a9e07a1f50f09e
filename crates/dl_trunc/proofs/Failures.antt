-- What the rules say of a request that failed, and of a count.
use Rattle.std.proofs.Common.{◌≡◌, ◌≢◌, ℕ, suc, ◌+◌, List, refl, add-one}
use Rattle.dl_types.specs.declared.why.Why.{Why}
use Rattle.dl_types.specs.declared.why.Why.TheVariants.{NoNode, NodeExists, BadVersion, NotEmpty, EphemeralParent, Spent}
use Rattle.dl_types.specs.declared.meta_answer.MetaAnswer.TheVariants as answer
use Rattle.dl_formats.specs.declared.segment_name.SegmentName.{SegmentName}
use Rattle.dl_rules_stream.specs.Requests.{LookCut, GetSegment}
use Rattle.dl_rules_stream.specs.Orders.{Refused, no_way_on}
use Rattle.dl_rules_stream.specs.Truncates.{TruncateArgs, LookingAtCut, TruncateDone, truncate_answers}
use Rattle.dl_rules_stream.specs.Purges.{GettingSegment, Dropping, PurgeDone, drops, goes_on, purge_answers}
use Rattle.dl_requests.specs.Turns.{answer_of}

-- where a stream can't be looked at that is there, there is no way on
pub failed_look : (x : TruncateArgs) (place : ℕ) (w : Why) → w ≢ NoNode
    → truncate_answers x LookingAtCut (answer.Failed place w) ≡ (TruncateDone, Refused (no_way_on (LookCut x.stream) place w))
unfolding truncate_answers
failed_look x place NoNode other = absurd (other refl)
failed_look x place NodeExists other = refl
failed_look x place (BadVersion now) other = refl
failed_look x place (NotEmpty count) other = refl
failed_look x place EphemeralParent other = refl
failed_look x place Spent other = refl

-- where a segment can't be read that is there, there is no way on
pub failed_get : (s : List ℕ) (segment : SegmentName) (rest : List SegmentName) (count place : ℕ) (w : Why) → w ≢ NoNode
    → purge_answers s (GettingSegment segment rest count) (answer.Failed place w) ≡ (PurgeDone, Refused (no_way_on (GetSegment s segment) place w))
unfolding purge_answers
failed_get s segment rest count place NoNode other = absurd (other refl)
failed_get s segment rest count place NodeExists other = refl
failed_get s segment rest count place (BadVersion now) other = refl
failed_get s segment rest count place (NotEmpty children) other = refl
failed_get s segment rest count place EphemeralParent other = refl
failed_get s segment rest count place Spent other = refl

-- where a segment can't be deleted that is there, there is no way on
pub failed_drop : (s : List ℕ) (segment : SegmentName) (ledger : ℕ) (rest : List SegmentName) (count place : ℕ) (w : Why) → w ≢ NoNode
    → purge_answers s (Dropping segment ledger rest count) (answer.Failed place w)
    ≡ (PurgeDone, Refused (no_way_on (drops s segment ledger) place w))
unfolding purge_answers
failed_drop s segment ledger rest count place NoNode other = absurd (other refl)
failed_drop s segment ledger rest count place NodeExists other = refl
failed_drop s segment ledger rest count place (BadVersion now) other = refl
failed_drop s segment ledger rest count place (NotEmpty children) other = refl
failed_drop s segment ledger rest count place EphemeralParent other = refl
failed_drop s segment ledger rest count place Spent other = refl

-- one deletion more, as code counts it
pub counted : (s : List ℕ) (left : List SegmentName) (count : ℕ) → answer_of (goes_on s left (count + 1)) ≡ answer_of (goes_on s left (suc count))
counted s left count = rw add-one refl

-- What the rule says of a request that failed.
use Rattle.std.proofs.Common.{◌≡◌, ◌≢◌, ℕ, List, refl}
use Rattle.dl_types.specs.declared.why.Why.{Why}
use Rattle.dl_types.specs.declared.why.Why.TheVariants.{NoNode, NodeExists, BadVersion, NotEmpty, EphemeralParent, Spent}
use Rattle.dl_types.specs.declared.meta_answer.MetaAnswer.TheVariants as answer
use Rattle.dl_rules_stream.specs.Requests.{MakeMember}
use Rattle.dl_rules_stream.specs.Orders.{Refused, no_way_on}
use Rattle.dl_rules_stream.specs.Locks.{MakingMember, LockDone, lock_answers}

-- where a member can't be made, and the stream is there, there is no way on
pub failed_making : (s : List ℕ) (place : ℕ) (w : Why) → w ≢ NoNode
    → lock_answers s MakingMember (answer.Failed place w) ≡ (LockDone, Refused (no_way_on (MakeMember s) place w))
unfolding lock_answers
failed_making s place NoNode other = absurd (other refl)
failed_making s place NodeExists other = refl
failed_making s place (BadVersion now) other = refl
failed_making s place (NotEmpty count) other = refl
failed_making s place EphemeralParent other = refl
failed_making s place Spent other = refl

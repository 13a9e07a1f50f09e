-- What the rule of the end of a writer says of a completion that failed.
use Rattle.std.proofs.Common.{◌≡◌, ◌≢◌, ℕ, zero, suc, true, false, refl}
use Rattle.dl_types.specs.declared.why.Why.{Why}
use Rattle.dl_types.specs.declared.why.Why.TheVariants.{NoNode, NodeExists, BadVersion, NotEmpty, EphemeralParent, Spent}
use Rattle.dl_types.specs.declared.meta_answer.MetaAnswer.TheVariants as answer
use Rattle.dl_rules_stream.specs.Requests.{CompleteSegment}
use Rattle.dl_rules_stream.specs.Orders.{Refused, no_way_on}
use Rattle.dl_rules_stream.specs.Closes as closing
use Rattle.dl_close.specs.Closing.{is_completed}

-- a completion that fails otherwise than by a missing node wasn't done by another
pub not_completed : (place : ℕ) (w : Why) → w ≢ NoNode → is_completed place w ≡ false
not_completed zero w other = refl
not_completed (suc zero) NoNode other = absurd (other refl)
not_completed (suc zero) NodeExists other = refl
not_completed (suc zero) (BadVersion now) other = refl
not_completed (suc zero) (NotEmpty count) other = refl
not_completed (suc zero) EphemeralParent other = refl
not_completed (suc zero) Spent other = refl
not_completed (suc (suc place)) w other = refl

-- nor one that fails elsewhere than at the deletion
pub completed_at : (place : ℕ) (w : Why) → place ≢ 1 → is_completed place w ≡ false
completed_at zero w other = refl
completed_at (suc zero) w other = absurd (other refl)
completed_at (suc (suc place)) w other = refl

-- where another has completed the segment, the owner leaves the lock
pub close_completed : (x : closing.CloseArgs) (place : ℕ) (w : Why) → is_completed place w ≡ true
    → closing.close_answers x closing.Completing (answer.Failed place w) ≡ closing.leaves x
unfolding closing.close_answers
close_completed x zero w is = absurd cc
close_completed x (suc zero) NoNode is = refl
close_completed x (suc zero) NodeExists is = absurd cc
close_completed x (suc zero) (BadVersion now) is = absurd cc
close_completed x (suc zero) (NotEmpty count) is = absurd cc
close_completed x (suc zero) EphemeralParent is = absurd cc
close_completed x (suc zero) Spent is = absurd cc
close_completed x (suc (suc place)) w is = absurd cc

-- where the completion fails otherwise, there is no way on
pub close_failed : (x : closing.CloseArgs) (place : ℕ) (w : Why) → is_completed place w ≡ false
    → closing.close_answers x closing.Completing (answer.Failed place w)
    ≡ (closing.CloseDone, Refused (no_way_on (CompleteSegment x.completion) place w))
unfolding closing.close_answers
close_failed x zero w is = refl
close_failed x (suc zero) NoNode is = absurd cc
close_failed x (suc zero) NodeExists is = refl
close_failed x (suc zero) (BadVersion now) is = refl
close_failed x (suc zero) (NotEmpty count) is = refl
close_failed x (suc zero) EphemeralParent is = refl
close_failed x (suc zero) Spent is = refl
close_failed x (suc (suc place)) w is = refl

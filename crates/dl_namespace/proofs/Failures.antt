-- What the rules say of a request that failed.
use Rattle.std.proofs.Common.{◌≡◌, ◌≢◌, ℕ, zero, suc, List, refl}
use Rattle.dl_types.specs.declared.why.Why.{Why}
use Rattle.dl_types.specs.declared.why.Why.TheVariants.{NoNode, NodeExists, BadVersion, NotEmpty, EphemeralParent, Spent}
use Rattle.dl_types.specs.declared.meta_answer.MetaAnswer.TheVariants as answer
use Rattle.dl_rules_stream.specs.Requests.{MakeStream, MakeAgain, RemoveStream}
use Rattle.dl_rules_stream.specs.Orders.{Refused, no_way_on}
use Rattle.dl_rules_stream.specs.Makes.{Making, MakingAgain, MakeDone, make_answers}
use Rattle.dl_rules_stream.specs.Removes.{Removing, RemoveDone, remove_answers}

-- where the nodes can't be made, and the first of them isn't there, there is no way on
pub failed_making : (s : List ℕ) (place : ℕ) (w : Why) → (place ≡ 0 → w ≢ NodeExists)
    → make_answers s Making (answer.Failed place w) ≡ (MakeDone, Refused (no_way_on (MakeStream s) place w))
unfolding make_answers
failed_making s zero NoNode other = refl
failed_making s zero NodeExists other = absurd (other refl refl)
failed_making s zero (BadVersion now) other = refl
failed_making s zero (NotEmpty count) other = refl
failed_making s zero EphemeralParent other = refl
failed_making s zero Spent other = refl
failed_making s (suc place) w other = refl

-- where the lock and the segments can't be made, and the lock isn't there, there is no way on
pub failed_again : (s : List ℕ) (place : ℕ) (w : Why) → (place ≡ 0 → w ≢ NodeExists)
    → make_answers s MakingAgain (answer.Failed place w) ≡ (MakeDone, Refused (no_way_on (MakeAgain s) place w))
unfolding make_answers
failed_again s zero NoNode other = refl
failed_again s zero NodeExists other = absurd (other refl refl)
failed_again s zero (BadVersion now) other = refl
failed_again s zero (NotEmpty count) other = refl
failed_again s zero EphemeralParent other = refl
failed_again s zero Spent other = refl
failed_again s (suc place) w other = refl

-- where a stream can't be removed that is there and has no children, there is no way on
pub failed_removing : (s : List ℕ) (place : ℕ) (w : Why) → w ≢ NoNode → ((n : ℕ) → w ≢ NotEmpty n)
    → remove_answers s Removing (answer.Failed place w) ≡ (RemoveDone, Refused (no_way_on (RemoveStream s) place w))
unfolding remove_answers
failed_removing s place NoNode other filled = absurd (other refl)
failed_removing s place NodeExists other filled = refl
failed_removing s place (BadVersion now) other filled = refl
failed_removing s place (NotEmpty count) other filled = absurd (filled count refl)
failed_removing s place EphemeralParent other filled = refl
failed_removing s place Spent other filled = refl

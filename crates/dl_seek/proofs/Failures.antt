-- What the rule of the beginning of a reader says of a request that failed.
use Rattle.std.proofs.Common.{◌≡◌, ℕ, zero, suc, true, false, List, refl}
use Rattle.dl_types.specs.declared.refusal.Refusal.TheVariants as refused
use Rattle.dl_types.specs.declared.why.Why.{Why}
use Rattle.dl_types.specs.declared.why.Why.TheVariants.{NoNode, NodeExists, BadVersion, NotEmpty, EphemeralParent, Spent}
use Rattle.dl_types.specs.declared.meta_answer.MetaAnswer.TheVariants as answer
use Rattle.dl_rules_stream.specs.Requests.{ListCut}
use Rattle.dl_rules_stream.specs.Orders.{Refused, no_way_on}
use Rattle.dl_rules_stream.specs.Seeks.{Seeking, SeekDone, seek_answers}
use Rattle.dl_requests.specs.Failures.{is_missing}

-- the point can't be read of a stream that isn't there
pub seek_missing : (s : List ℕ) (place : ℕ) (w : Why) → is_missing place w ≡ true
    → seek_answers s Seeking (answer.Failed place w) ≡ (SeekDone, Refused refused.NoStream)
unfolding seek_answers
seek_missing s zero NoNode is = refl
seek_missing s zero NodeExists is = absurd cc
seek_missing s zero (BadVersion now) is = absurd cc
seek_missing s zero (NotEmpty count) is = absurd cc
seek_missing s zero EphemeralParent is = absurd cc
seek_missing s zero Spent is = absurd cc
seek_missing s (suc place) w is = absurd cc

-- where the point can't be read of one that is there, there is no way on
pub seek_failed : (s : List ℕ) (place : ℕ) (w : Why) → is_missing place w ≡ false
    → seek_answers s Seeking (answer.Failed place w) ≡ (SeekDone, Refused (no_way_on (ListCut s) place w))
unfolding seek_answers
seek_failed s zero NoNode is = absurd cc
seek_failed s zero NodeExists is = refl
seek_failed s zero (BadVersion now) is = refl
seek_failed s zero (NotEmpty count) is = refl
seek_failed s zero EphemeralParent is = refl
seek_failed s zero Spent is = refl
seek_failed s (suc place) w is = refl

-- What the rule of a look says of one that failed.
use Rattle.std.proofs.Common.{◌≡◌, ℕ, zero, suc, true, false, List, refl}
use Rattle.dl_types.specs.declared.refusal.Refusal.TheVariants as refused
use Rattle.dl_types.specs.declared.why.Why.{Why}
use Rattle.dl_types.specs.declared.why.Why.TheVariants.{NoNode, NodeExists, BadVersion, NotEmpty, EphemeralParent, Spent}
use Rattle.dl_types.specs.declared.meta_answer.MetaAnswer.TheVariants as answer
use Rattle.dl_rules_stream.specs.Requests.{Look}
use Rattle.dl_rules_stream.specs.Orders.{Refused, no_way_on}
use Rattle.dl_rules_stream.specs.Looks.{Looking, LookDone, look_answers}
use Rattle.dl_requests.specs.Failures.{is_missing}

-- a stream that isn't there can't be looked at
pub look_missing : (s : List ℕ) (place : ℕ) (w : Why) → is_missing place w ≡ true
    → look_answers s Looking (answer.Failed place w) ≡ (LookDone, Refused refused.NoStream)
unfolding look_answers
look_missing s zero NoNode is = refl
look_missing s zero NodeExists is = absurd cc
look_missing s zero (BadVersion now) is = absurd cc
look_missing s zero (NotEmpty count) is = absurd cc
look_missing s zero EphemeralParent is = absurd cc
look_missing s zero Spent is = absurd cc
look_missing s (suc place) w is = absurd cc

-- where a stream can't be looked at that is there, there is no way on
pub look_failed : (s : List ℕ) (place : ℕ) (w : Why) → is_missing place w ≡ false
    → look_answers s Looking (answer.Failed place w) ≡ (LookDone, Refused (no_way_on (Look s) place w))
unfolding look_answers
look_failed s zero NoNode is = absurd cc
look_failed s zero NodeExists is = refl
look_failed s zero (BadVersion now) is = refl
look_failed s zero (NotEmpty count) is = refl
look_failed s zero EphemeralParent is = refl
look_failed s zero Spent is = refl
look_failed s (suc place) w is = refl

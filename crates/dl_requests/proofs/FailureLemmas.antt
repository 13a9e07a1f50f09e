-- What the failure of a request says.
use Rattle.std.proofs.Common.{◌≡◌, ◌≢◌, ℕ, zero, suc, false, refl}
use Rattle.dl_types.specs.declared.why.Why.{Why}
use Rattle.dl_types.specs.declared.why.Why.TheVariants.{NoNode, NodeExists, BadVersion, NotEmpty, EphemeralParent, Spent}
use Rattle.dl_requests.specs.Failures.{is_missing}

-- a failure otherwise than by a missing node says nothing of one
pub not_missing : (place : ℕ) (w : Why) → w ≢ NoNode → is_missing place w ≡ false
not_missing zero NoNode other = absurd (other refl)
not_missing zero NodeExists other = refl
not_missing zero (BadVersion now) other = refl
not_missing zero (NotEmpty count) other = refl
not_missing zero EphemeralParent other = refl
not_missing zero Spent other = refl
not_missing (suc place) w other = refl

-- nor does a failure of a later operation
pub missing_behind : (place : ℕ) (w : Why) → place ≢ 0 → is_missing place w ≡ false
missing_behind zero w other = absurd (other refl)
missing_behind (suc place) w other = refl

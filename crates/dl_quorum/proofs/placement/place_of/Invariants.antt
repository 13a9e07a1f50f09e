use Rattle.std.proofs.Common.{ℕ, ◌<◌}
use Rattle.dl_quorum.specs.Places.{IsPlaceOf}
use Rattle.dl_quorum.proofs.placement.place_of.Given as goal

abbrev pub invariant-loop-place : goal.invariant-loop-place
invariant-loop-place l = (before : ℕ) → before < l.place → IsPlaceOf l.members l.bookie before → ⊥

use Rattle.dl_quorum.specs.Sizes.{sizes_of}
use Rattle.std.proofs.Common.{◌≡◌, ℕ, ◌==◌}
use Rattle.std.specs.List.{list_any}
use Rattle.dl_quorum.specs.Places.{holds}
use Rattle.dl_quorum.proofs.RingLemmas.{first_places}
use Rattle.dl_quorum.proofs.placement.write_set.Given as goal

abbrev pub invariant-loop-i : goal.invariant-loop-i
invariant-loop-i l = (place : ℕ) → holds l.set place ≡ list_any (λ member. member == place) (first_places (sizes_of l.q) l.entry l.i)

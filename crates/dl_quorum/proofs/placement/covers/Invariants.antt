use Rattle.dl_quorum.specs.Sizes.{sizes_of}
use Rattle.std.proofs.Common.{◌≡◌, true}
use Rattle.std.specs.List.{list_all}
use Rattle.dl_types.specs.Upto.{upto}
use Rattle.dl_quorum.specs.WriteSets.{denies}
use Rattle.dl_quorum.specs.Places.{holds}
use Rattle.dl_quorum.proofs.placement.covers.Given as goal

abbrev pub invariant-loop-entry : goal.invariant-loop-entry
invariant-loop-entry l = list_all (λ e. denies (sizes_of l.q) e (holds l.set)) (upto l.entry) ≡ true

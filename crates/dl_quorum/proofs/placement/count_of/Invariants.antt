use Rattle.dl_quorum.specs.Sizes.{sizes_of}
use Rattle.std.proofs.Common.{◌≡◌, ◌≤◌, count_by}
use Rattle.dl_quorum.specs.Places.{holds}
use Rattle.dl_quorum.proofs.RingLemmas.{first_places}
use Rattle.dl_quorum.proofs.placement.count_of.Given as goal

abbrev pub invariant-loop-i : goal.invariant-loop-i
invariant-loop-i l = record { counted : l.count ≡ count_by (holds l.set) (first_places (sizes_of l.q) l.entry l.i); few : l.count ≤ l.i }

use Rattle.std.proofs.Common.{◌≡◌, ◌≤◌, length}
use Rattle.dl_fields.specs.Paths.{part_flaw}
use Rattle.dl_fields.proofs.path.part_flaw.Given as goal

abbrev pub invariant-loop-rest : goal.invariant-loop-rest
invariant-loop-rest l = record { same : part_flaw l.size l.rest ≡ part_flaw 0 l.part; fits : length l.rest ≤ length l.part }

abbrev pub decreases-loop-rest : goal.decreases-loop-rest
decreases-loop-rest l = length l.rest

use Rattle.std.proofs.Common.{◌≡◌, ◌≤◌, length}
use Rattle.dl_fields.specs.Paths.{flaw_behind}
use Rattle.dl_fields.proofs.path.flaw_behind_slash.Given as goal

abbrev pub invariant-loop-rest : goal.invariant-loop-rest
invariant-loop-rest l = record { same : flaw_behind l.size l.rest ≡ flaw_behind 0 l.parts; fits : length l.rest ≤ length l.parts }

abbrev pub decreases-loop-rest : goal.decreases-loop-rest
decreases-loop-rest l = length l.rest

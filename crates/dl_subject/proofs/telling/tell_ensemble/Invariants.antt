use Rattle.std.proofs.Common.{◌≡◌}
use Rattle.dl_quorum.specs.Pieces.{ring_members}
use Rattle.dl_rules_ledger.specs.Subjects.{tell_each}
use Rattle.dl_subject.proofs.telling.tell_ensemble.Given as goal

abbrev pub invariant-loop-place : goal.invariant-loop-place
invariant-loop-place l = l.told.items ≡ tell_each (ring_members l.ensemble.first l.ensemble.bookies l.place) l.msg

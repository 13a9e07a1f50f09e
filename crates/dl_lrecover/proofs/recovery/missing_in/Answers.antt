use Rattle.std.proofs.Common.{subst}
use Rattle.dl_lrecover.specs.declared.phase.Phase.{Phase}
use Rattle.dl_lrecover.specs.Finding.{PhaseStands}
use Rattle.dl_rules_stream.specs.LedgerRecoveries as rule
use Rattle.dl_lrecover.proofs.Moves.{lacks_cover}
use Rattle.dl_lrecover.proofs.recovery.missing_in.Goals as goal

pub returns-in-Fencing : goal.returns-in-Fencing
returns-in-Fencing c x m p h =
    lacks_cover x m p c.in-Fencing.answered c.in-Fencing.greatest (subst (λ (k : Phase). PhaseStands (rule.subject_of x m) p k) c.in-Fencing.is h)

-- What a recovery keeps.
use Rattle.dl_rules_stream.specs.LedgerRecoveries.{RecoveryArgs}
use Rattle.dl_lrecover.specs.declared.stage.Stage.{Stage}

-- What is recovered, and what the recovery waits for.
pub record RecoveryFacts : Type 0 where
  pub args : RecoveryArgs
  pub stage : Stage

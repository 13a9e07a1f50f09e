-- What the allocation of a ledger keeps.
use Rattle.dl_rules_stream.specs.Allocations.{AllocationArgs}
use Rattle.dl_alloc.specs.declared.stage.Stage.{Stage}

-- What it was given, and which request it waits for.
pub record AllocationFacts : Type 0 where
  pub given : AllocationArgs
  pub stage : Stage

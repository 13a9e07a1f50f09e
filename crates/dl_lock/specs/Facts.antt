-- What a task for a stream's lock keeps.
use Rattle.std.specs.Prelude.{ℕ, List}
use Rattle.dl_lock.specs.declared.stage.Stage.{Stage}

-- The stream, and which request the task waits for.
pub record LockFacts : Type 0 where
  pub stream : List ℕ
  pub stage : Stage

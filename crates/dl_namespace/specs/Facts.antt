-- What the tasks that make and remove a stream keep.
use Rattle.std.specs.Prelude.{ℕ, List}
use Rattle.dl_namespace.specs.declared.make_stage.MakeStage.{MakeStage}
use Rattle.dl_namespace.specs.declared.remove_stage.RemoveStage.{RemoveStage}

-- The stream, and which request the task that makes it waits for.
pub record MakeFacts : Type 0 where
  pub stream : List ℕ
  pub stage : MakeStage

-- The stream, and whether the task that removes it waits for its request.
pub record RemoveFacts : Type 0 where
  pub stream : List ℕ
  pub stage : RemoveStage

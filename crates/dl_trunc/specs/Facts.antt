-- What the tasks that cut off the front of a stream keep.
use Rattle.std.specs.Prelude.{ℕ, List}
use Rattle.dl_formats.specs.declared.segment_name.SegmentName.{SegmentName}
use Rattle.dl_rules_stream.specs.Truncates.{TruncateArgs}
use Rattle.dl_trunc.specs.declared.purge_stage.PurgeStage.{PurgeStage}
use Rattle.dl_trunc.specs.declared.truncate_stage.TruncateStage.{TruncateStage}

-- What the task that moves the point was given, and which request it waits for.
pub record TruncateFacts : Type 0 where
  pub given : TruncateArgs
  pub stage : TruncateStage

-- The stream, the segments that are left, the count of those that the task has deleted, and which request it waits for.
pub record PurgeFacts : Type 0 where
  pub stream : List ℕ
  pub left : List SegmentName
  pub count : ℕ
  pub stage : PurgeStage

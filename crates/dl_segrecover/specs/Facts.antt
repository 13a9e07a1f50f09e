-- What the recovery of a segment keeps.
use Rattle.dl_rules_stream.specs.SegmentRecoveries.{SegmentArgs}
use Rattle.dl_segrecover.specs.declared.stage.Stage.{Stage}

-- What it was given, and what it waits for.
pub record SegmentFacts : Type 0 where
  pub given : SegmentArgs
  pub stage : Stage

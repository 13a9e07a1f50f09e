-- What a reader of a stream keeps.
use Rattle.dl_rules_stream.specs.Seeks.{Position}
use Rattle.dl_rules_stream.specs.LogReaders.{ReaderArgs}
use Rattle.dl_reader.specs.declared.stage.Stage.{Stage}
use Rattle.dl_reader.specs.Readings.{ReadingFacts}

-- What it was started with, where the next read begins, the read under way, and what that waits for.
pub record ReaderFacts : Type 0 where
  pub args : ReaderArgs
  pub position : Position
  pub reading : ReadingFacts
  pub stage : Stage

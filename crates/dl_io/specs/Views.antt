-- What is meant by a source and by a sink, at one moment.
use Rattle.std.specs.Prelude.{ℕ, List, Option}

-- a source: the bytes that are left, where they are told, and how many calls failed
pub record SourceView : Type 0 where
  pub left : Option (List ℕ)
  pub faults : ℕ

-- a sink: the bytes that were given and how many of them are finished, where they are told, and how many calls failed
pub record SinkView : Type 0 where
  pub held : Option (List ℕ)
  pub finished : Option ℕ
  pub faults : ℕ

-- What contracts see of a source and of a sink over memory, and what a call does to it.
use Rattle.std.specs.Prelude.{ℕ, List, [], ◌++◌, length, drop, Some}
use Rattle.dl_io.specs.Causes.{next_count}
use Rattle.dl_io.specs.Views.{SourceView, SinkView}

-- what a source has left, the numbers of the calls that fail, how many calls there were, and how many failed
pub record SourceState : Type 0 where
  pub left : List ℕ
  pub failing : List ℕ
  pub calls : ℕ
  pub faults : ℕ

-- what a sink holds, how much of it is finished, the numbers of the calls that fail, how many calls there were, and
-- how many failed
pub record SinkState : Type 0 where
  pub held : List ℕ
  pub finished : ℕ
  pub failing : List ℕ
  pub calls : ℕ
  pub faults : ℕ

-- all that is told of it
abbrev pub source_view : SourceState → SourceView
source_view s = record { left = Some s.left; faults = s.faults }

-- all that is told of it
abbrev pub sink_view : SinkState → SinkView
sink_view s = record { held = Some s.held; finished = Some s.finished; faults = s.faults }

-- a source of these fields
abbrev pub source_state : List ℕ → List ℕ → ℕ → ℕ → SourceState
source_state left failing calls faults = record { left = left; failing = failing; calls = calls; faults = faults }

-- a source of these bytes before its first call
abbrev pub new_source : List ℕ → List ℕ → SourceState
new_source bytes failing = source_state bytes failing 0 0

-- after a call that took this many bytes
abbrev pub after_take : SourceState → ℕ → SourceState
after_take s n = record s { left = drop n s.left; calls = next_count s.calls }

-- after a call that failed
abbrev pub after_failed_take : SourceState → SourceState
after_failed_take s = record s { calls = next_count s.calls; faults = next_count s.faults }

-- a sink of these fields
abbrev pub sink_state : List ℕ → ℕ → List ℕ → ℕ → ℕ → SinkState
sink_state held finished failing calls faults = record { held = held; finished = finished; failing = failing; calls = calls; faults = faults }

-- an empty sink before its first call
abbrev pub new_sink : List ℕ → SinkState
new_sink failing = sink_state [] 0 failing 0 0

-- after a call that was given this piece
abbrev pub after_give : SinkState → List ℕ → SinkState
after_give s piece = record s { held = s.held ++ piece; calls = next_count s.calls }

-- after a call that finished all that is held
abbrev pub after_finish : SinkState → SinkState
after_finish s = record s { finished = length s.held; calls = next_count s.calls }

-- after a call that failed
abbrev pub after_failure : SinkState → SinkState
after_failure s = record s { calls = next_count s.calls; faults = next_count s.faults }

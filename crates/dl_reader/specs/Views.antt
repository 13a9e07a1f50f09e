-- A reader of a stream stands for a view: what it was started with, and the calls since.
use Rattle.std.specs.Prelude.{◌≡◌, ℕ, List, [], ◌∷◌}
use Rattle.dl_types.specs.declared.dlsn.Dlsn.{Dlsn}
use Rattle.dl_types.specs.declared.read_row.ReadRow.{ReadRow}
use Rattle.dl_types.specs.declared.start.Start.{Start}
use Rattle.dl_msg.specs.declared.turn.Turn.{Turn}
use Rattle.dl_msg.specs.declared.turn.Turn.TheVariants as turn
use Rattle.dl_formats.specs.declared.conf.Conf.{Conf}
use Rattle.dl_rules_stream.specs.LogReaders as rule
use Rattle.dl_requests.specs.Turns.{turn_of}
use Rattle.dl_reader.specs.declared.stage.Stage.TheVariants as kept
use Rattle.dl_reader.specs.declared.step.Step.{Step}
use Rattle.dl_reader.specs.declared.step.Step.TheVariants as step
use Rattle.dl_reader.specs.Facts.{ReaderFacts}
use Rattle.dl_reader.specs.Readings.{with_gone, with_rows}
use Rattle.dl_reader.specs.Standing.{StageStands}
use Rattle.dl_reader.specs.Steps.{left_then}

-- The stream with the configuration, where the reader began, and the calls since, the newest first.
pub record ReaderView : Type 0 where
  pub args : rule.ReaderArgs
  pub first : rule.ReaderNow
  pub calls : List rule.LogReaderCall

-- the stream and the configuration
abbrev pub args_of : List ℕ → Conf → rule.ReaderArgs
args_of stream conf = record { stream = stream; conf = conf }

-- a reader that was given no call yet, in a stream with this point
abbrev pub new_view : rule.ReaderArgs → Dlsn → Start → ReaderView
new_view x point from = record { args = x; first = rule.reader_started point from; calls = [] }

-- a view with one call more
abbrev pub with_call : ReaderView → rule.LogReaderCall → ReaderView
with_call v call = record v { calls = call ∷ v.calls }

-- the reader of a view
abbrev pub now_in : ReaderView → rule.ReaderNow
now_in v = rule.reader_of v.args v.first v.calls

-- a reader stands at a state of the rule's reader: each thing that it keeps is what the state says
pub record StandsAt (x : rule.ReaderArgs) (n : rule.ReaderNow) (f : ReaderFacts) : Type 0 where
  pub args : f.args ≡ x
  pub position : f.position ≡ n.position
  pub stage : StageStands f.reading.read f.reading.left n.stage f.stage

-- a reader stands for a view
abbrev pub StandsFor : ReaderView → ReaderFacts → Type 0
StandsFor v f = StandsAt v.args (now_in v) f

-- a reader goes on as the rule does: it answers with this turn, and stands then at the state behind the move
pub record GoesBy (x : rule.ReaderArgs) (n : rule.ReaderNow) (move : rule.ReadMove) (t : Turn (List ReadRow)) (f : ReaderFacts) : Type 0 where
  pub turn : t ≡ turn_of move.1
  pub stands : StandsAt x (rule.after_read n move) f

-- a reader answers a call by what its view says, and stands then for the view with the call
pub record IsAnswer (v : ReaderView) (call : rule.LogReaderCall) (t : Turn (List ReadRow)) (f : ReaderFacts) : Type 0 where
  pub turn : t ≡ turn_of (rule.reader_move v.args (now_in v) call).1
  pub stands : StandsFor (with_call v call) f

-- ---- steps

-- what a reader keeps once it has gathered rows more
abbrev pub with_gathered : ReaderFacts → List ReadRow → ReaderFacts
with_gathered f rows = record f { reading = record f.reading { read = with_rows f.reading.read rows } }

-- what a reader keeps after a step, and its turn
abbrev pub after_step : ReaderFacts → Step → ReaderFacts × Turn (List ReadRow)
after_step f (step.Goes stage turn way) = (record f { reading = record f.reading { left = left_then f.reading.left way }; stage = stage }, turn)
after_step f (step.Begins gone request) =
    (record f { reading = record f.reading { read = with_gone f.reading.read [] gone }; stage = kept.ListingCut }, turn.Ask request)
after_step f step.Ends = (
  record f {
    position = rule.behind f.position f.reading.read.rows;
    reading = record f.reading { read = with_gone f.reading.read [] f.reading.read.gone };
    stage = kept.NoRead;
  },
  turn.Done f.reading.read.rows,
)

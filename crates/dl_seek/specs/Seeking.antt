-- The beginning of a reader stands for a view: what it was given, and all that it heard.
use Rattle.std.specs.Prelude.{◌≡◌, List, ℕ}
use Rattle.dl_types.specs.declared.dlsn.Dlsn.{Dlsn}
use Rattle.dl_types.specs.declared.start.Start.{Start}
use Rattle.dl_formats.specs.declared.conf.Conf.{Conf}
use Rattle.dl_rules_stream.specs.Orders.{Next}
use Rattle.dl_rules_stream.specs.Seeks as rule
use Rattle.dl_reader.specs.Facts.{ReaderFacts}
use Rattle.dl_reader.specs.Views as reader
use Rattle.dl_requests.specs.Tasks.{View, Order, stage_by}
use Rattle.dl_requests.specs.Turns.{IsTurn, stage_behind, turn_in}
use Rattle.dl_requests.specs.declared.moves.Move.{Move}
use Rattle.dl_seek.specs.declared.seek_given.SeekGiven.{SeekGiven}
use Rattle.dl_seek.specs.declared.seek_stage.SeekStage.{SeekStage}
use Rattle.dl_seek.specs.declared.seek_stage.SeekStage.TheVariants.{Seeking, Over}

-- The stream, where its reader begins, and the configuration.
pub record SeekArgs : Type 0 where
  pub stream : List ℕ
  pub from : Start
  pub conf : Conf

-- What the beginning of a reader was given, and which request it waits for.
pub record SeekFacts : Type 0 where
  pub given : SeekArgs
  pub stage : SeekStage

-- the arguments, one by one
abbrev pub given_of : List ℕ → Start → Conf → SeekArgs
given_of stream from conf = record { stream = stream; from = from; conf = conf }

-- the arguments, by what is kept of them
abbrev pub args_of : SeekGiven → SeekArgs
args_of g = given_of g.stream g.from g.conf

-- the order that reads where a reader begins
abbrev pub seek_order : Order SeekArgs rule.SeekStage Dlsn
seek_order = record { first = λ x. rule.seek_first x.stream; hears = λ x. rule.seek_hears x.stream }

-- a reader that begins, where this is the stream's point
abbrev pub reader_view : SeekArgs → Dlsn → reader.ReaderView
reader_view x point = reader.new_view (reader.args_of x.stream x.conf) point x.from

-- the reader with which an order is done, where its rule is done with this point
abbrev pub IsReader : SeekArgs → Dlsn → ReaderFacts → Type 0
IsReader x point f = reader.StandsFor (reader_view x point) f

-- the stage of the order that a kept stage stands for
abbrev pub seek_stage_of : SeekStage → rule.SeekStage
seek_stage_of Seeking = rule.Seeking
seek_stage_of Over = rule.SeekDone

-- an order stands at a stage of its rule
pub record SeeksAt (x : SeekArgs) (stage : rule.SeekStage) (f : SeekFacts) : Type 0 where
  pub given : f.given ≡ x
  pub at : seek_stage_of f.stage ≡ stage

-- an order stands for a view: each thing that it keeps is what the view says
abbrev pub SeeksFor : View SeekArgs → SeekFacts → Type 0
SeeksFor v f = SeeksAt v.given (stage_by seek_order v) f

-- a move from a kept stage goes where the order goes
pub record IsMove (x : SeekArgs) (from : SeekStage) (to : rule.SeekStage × Next Dlsn) (move : Move SeekStage ReaderFacts) : Type 0 where
  pub stage : seek_stage_of (stage_behind from move) ≡ to.0
  pub turn : IsTurn (IsReader x) to.1 (turn_in move)

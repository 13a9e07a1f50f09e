-- What a client takes, and what it does with it.
use Rattle.std.specs.Prelude.{ℕ, List, [], ◌∷◌, ◌++◌, Option, None}
use Rattle.dl_types.specs.declared.row.Row.{Row}
use Rattle.dl_msg.specs.declared.letter.Letter.{Letter}
use Rattle.dl_formats.specs.declared.conf.Conf.{Conf}
use Rattle.dl_schedule.specs.declared.step.Step.{Step}
use Rattle.dl_transcript.specs.declared.event.Event.{Event}

-- a line of the schedule with its number, or a letter
pub data Input : Type 0 where
  Line : (number : ℕ) (step : Step) → Input
  Came : (letter : Letter) → Input

-- What a client process is started with: its number, its session, the configuration, and how many records earlier processes
-- of this number have had taken.
pub record ClientArgs : Type 0 where
  pub number : ℕ
  pub session : ℕ
  pub conf : Conf
  pub calls : ℕ

-- An entry that was sent of a segment's ledger, with its rows; a control entry has none.
pub record SentEntry : Type 0 where
  pub stream : List ℕ
  pub segment : ℕ
  pub ledger : ℕ
  pub entry : ℕ
  pub rows : List Row

-- How many entries of its ledger a client's writer has confirmed.
pub record Confirmation : Type 0 where
  pub ledger : ℕ
  pub count : ℕ

-- What a client does as it takes something: the letters that it sends and the events that it shows, each in order; the entry
-- that it sent, where it sent one; what its writer, where it has one, has confirmed then; and how many records were taken.
pub record Acts : Type 0 where
  pub letters : List Letter
  pub events : List Event
  pub sent : Option SentEntry
  pub confirmed : Option Confirmation
  pub taken : ℕ

-- it does nothing
abbrev pub no_acts : Acts
no_acts = record { letters = []; events = []; sent = None; confirmed = None; taken = 0 }

-- letters more
abbrev pub with_letters : List Letter → Acts → Acts
with_letters letters acts = record acts { letters = acts.letters ++ letters }

-- an event more
abbrev pub with_event : Event → Acts → Acts
with_event e acts = record acts { events = acts.events ++ e ∷ [] }

-- it shows one event
abbrev pub shows : Event → Acts
shows e = with_event e no_acts

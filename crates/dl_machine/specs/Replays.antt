-- A replay: the bytes of a schedule, and the bytes of its transcript up to the stop.
use Rattle.std.specs.Prelude.{ℕ, suc, ◌+◌, nat_lt, List, [], ◌∷◌, ◌++◌, length, Option, Some, None, Result, Ok, Err}
use Rattle.dl_types.specs.declared.limit.LimitName.TheVariants as limit
use Rattle.dl_text.specs.TextLines.{lines_of}
use Rattle.dl_schedule.specs.declared.step.Step.{Step}
use Rattle.dl_schedule.specs.StepReading.{parsed_line}
use Rattle.dl_transcript.specs.Lines.{at_line, print_transcript}
use Rattle.dl_machine.specs.States.{State, blank}
use Rattle.dl_machine.specs.Atoms.{Atom}
use Rattle.dl_machine.specs.Limits.{Traffic, no_traffic, with_traffic, letters_since, Past, past_where, first_past, past_in, most_lines, most_schedule}
use Rattle.dl_machine.specs.Limits.{most_transcript}
use Rattle.dl_machine.specs.Fates.{well}
use Rattle.dl_machine.specs.Runs.{line_atoms, after, events}

-- how a replay ends: all lines were run; a line is outside the grammar at a column; a limit would be passed
pub data Ended : Type 0 where
  Done : Ended
  BadLine : (line column : ℕ) → Ended
  AtLimit : (past : Past) → Ended

-- What a replay prints, the state that its lines leave, and how it ends.
pub record Replay : Type 0 where
  pub text : List ℕ
  pub state : State
  pub ended : Ended

-- What is known before a line: the state, the messages sent, and how many lines, bytes of them and bytes of the transcript came
-- before.
pub record Going : Type 0 where
  pub state : State
  pub traffic : Traffic
  pub lines : ℕ
  pub bytes : ℕ
  pub printed : ℕ

-- before the first line
abbrev pub first_going : Going
first_going = record { state = blank; traffic = no_traffic; lines = 0; bytes = 0; printed = 0 }

-- What a line that was read does: its state and its text, and the limit that it would pass.
pub record LineRun : Type 0 where
  pub state : State
  pub text : List ℕ
  pub past : Option Past

-- the replay stops before a line, or at the end
abbrev pub stops : Going → Ended → Replay
stops g ended = record { text = []; state = g.state; ended = ended }

-- a text, and then what a replay prints
abbrev pub printing : List ℕ → Replay → Replay
printing text rest = record rest { text = text ++ rest.text }

-- the limit of the schedule that a line would pass: first that on lines, and then that on bytes
abbrev pub past_schedule : Going → List ℕ → Option Past
past_schedule g line = first_past
    (past_where (nat_lt most_lines (suc g.lines)) limit.Lines most_lines)
    (past_where (nat_lt most_schedule (g.bytes + length line)) limit.Schedule most_schedule)

-- the limit on the transcript, where a text would pass it
abbrev pub past_text : Going → List ℕ → Option Past
past_text g text = past_where (nat_lt most_transcript (g.printed + length text)) limit.Transcript most_transcript

-- the run of these atomic steps that print this text; the transcript is tested last
abbrev pub run_of : Going → List Atom → List ℕ → LineRun
run_of g atoms text = record {
  state = after g.state atoms;
  text = text;
  past = first_past (past_in g.traffic g.state atoms) (past_text g text);
}

-- the run of these atomic steps
abbrev pub run_atoms : Going → List Atom → LineRun
run_atoms g atoms = run_of g atoms (print_transcript (at_line (suc g.lines) (events g.state atoms)))

-- behind a line of so many bytes that was run
abbrev pub going_behind : Going → ℕ → LineRun → Going
going_behind g size r = record {
  state = r.state;
  traffic = with_traffic g.traffic (letters_since g.state r.state);
  lines = suc g.lines;
  bytes = g.bytes + size;
  printed = g.printed + length r.text;
}

-- a line stops the replay where it would pass a limit
abbrev pub after_line : Going → ℕ → LineRun → Option Past → (Going → Replay) → Replay
after_line g size r (Some past) rest = stops g (AtLimit past)
after_line g size r None rest = printing r.text (rest (going_behind g size r))

-- a step is run
abbrev pub run_step : Going → ℕ → Step → (Going → Replay) → Replay
run_step g size x rest = let r = run_atoms g (line_atoms well g.state (suc g.lines) x) in after_line g size r r.past rest

-- a line that was read is run; one that was not is the stop
abbrev pub run_line : Going → ℕ → Result Step ℕ → (Going → Replay) → Replay
run_line g size (Err column) rest = stops g (BadLine (suc g.lines) column)
run_line g size (Ok x) rest = run_step g size x rest

-- a line stops the replay where it is past a limit of the schedule, then where it is outside the grammar, then where its step
-- would pass a limit
abbrev pub take_line : Going → List ℕ → Option Past → (Going → Replay) → Replay
take_line g line (Some past) rest = stops g (AtLimit past)
take_line g line None rest = run_line g (length line) (parsed_line line) rest

-- the replay of lines
unfoldable pub replay_from : Going → List (List ℕ) → Replay
replay_from g [] = stops g Done
replay_from g (line ∷ lines) = take_line g line (past_schedule g line) (λ next. replay_from next lines)

-- the replay of a schedule
unfoldable pub replay : List ℕ → Replay
replay input = replay_from first_going (lines_of input)

-- the bytes of the transcript of the bytes of a schedule
abbrev pub replay_text : List ℕ → List ℕ
replay_text input = (replay input).text

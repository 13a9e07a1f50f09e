-- A whole run: the steps that a text says up to its stop, and what the machine shows for them.
use Rattle.std.specs.Prelude.{ℕ, ◌+◌, List, [], ◌∷◌, ◌++◌, length, Result, Ok, Err, nat_le, nat_lt, if◌then◌else◌}
use Rattle.dl_types.specs.declared.limit.LimitName.TheVariants.{Lines, Schedule as Bytes}
use Rattle.dl_schedule.specs.declared.step.Step.{Step}
use Rattle.dl_schedule.specs.Faults.{parsed_early}
use Rattle.dl_transcript.specs.declared.event.Event.{Event}
use Rattle.dl_transcript.specs.Lines.{at_line, print_transcript}
use Rattle.dlog.specs.declared.ended.Ended.{Ended}
use Rattle.dlog.specs.declared.ended.Ended.TheVariants.{Done, BadLine, Limit}
use Rattle.dl_text.specs.TextLines.{lines_of}
use Rattle.dlog.specs.Machine.{State, start, one}

-- the most lines of a schedule
abbrev pub line_limit : ℕ
line_limit = 1000000

-- the most bytes of a schedule
abbrev pub schedule_limit : ℕ
schedule_limit = 16777216

-- the steps of the lines before the stop, and the stop
pub record Schedule : Type 0 where
  pub steps : List Step
  pub ended : Ended

-- no steps, and this stop
abbrev pub no_steps : Ended → Schedule
no_steps ended = record { steps = []; ended = ended }

-- a line that was read goes before what follows; one that was not is the stop
abbrev pub with_line : ℕ → Result Step ℕ → Schedule → Schedule
with_line line (Ok step) rest = record { steps = step ∷ rest.steps; ended = rest.ended }
with_line line (Err column) rest = no_steps (BadLine line column)

-- Behind so many lines and bytes: a line stops the run where it is past the limit on lines, then where it ends past the
-- limit on bytes, then where it is outside the grammar.
unfoldable pub schedule_from : ℕ → ℕ → List (List ℕ) → Schedule
schedule_from n bytes [] = no_steps Done
schedule_from n bytes (line ∷ lines) =
    if nat_le line_limit n then no_steps (Limit Lines line_limit)
    else if nat_lt schedule_limit (bytes + length line) then no_steps (Limit Bytes schedule_limit)
    else with_line (n + 1) (parsed_early (n + 1) line) (schedule_from (n + 1) (bytes + length line) lines)

-- the steps that a text says, up to its stop
abbrev pub schedule : List ℕ → Schedule
schedule input = schedule_from 0 0 (lines_of input)

-- what the machine shows for these steps behind so many lines, each event with the number of its line
unfoldable pub shown_from : State → ℕ → List Step → List (ℕ × Event)
shown_from s n [] = []
shown_from s n (step ∷ steps) = at_line (n + 1) (one s step).1 ++ shown_from (one s step).0 (n + 1) steps

-- what the machine shows for these steps from its start on
abbrev pub transcript : List Step → List (ℕ × Event)
transcript steps = shown_from start 0 steps

-- the transcript of the run over a text, up to its stop
abbrev pub run_transcript : List ℕ → List (ℕ × Event)
run_transcript input = transcript (schedule input).steps

-- what a run prints, and how it ends
pub record Outcome : Type 0 where
  pub text : List ℕ
  pub ended : Ended

-- the run over all lines of a text up to its stop
unfoldable pub run : List ℕ → Outcome
run input = record {
  text = print_transcript (run_transcript input);
  ended = (schedule input).ended;
}

-- The values of what a run shows are such as a line of a transcript takes.
use Rattle.std.specs.Prelude.{◌≡◌, ℕ, ◌≤◌, List, length}
use Rattle.std.specs.List.{AllByRecursion}
use Rattle.dl_schedule.specs.declared.step.Step.{Step}
use Rattle.dl_schedule.specs.StepLines.{IsStep}
use Rattle.dl_transcript.specs.declared.event.Event.{Event}
use Rattle.dl_transcript.specs.Lines.{print_transcript}
use Rattle.dl_transcript.specs.Ranges.{IsLine}
use Rattle.dl_rules_client.specs.EventRanges.{IsCountable}
use Rattle.dl_machine.specs.Limits.{most_lines, most_messages}
use Rattle.dl_machine.specs.States.{blank}
use Rattle.dl_machine.specs.Replays.{replay_text}
use Rattle.dl_machine.specs.Runs.{run, transcript}

-- A transcript of lines that a transcript can say, with this text.
pub record FittingText (text : List ℕ) : Type 0 where
  pub events : List (ℕ × Event)
  pub printed : text ≡ print_transcript events
  pub fit : AllByRecursion IsLine events

-- Of at most so many lines as a schedule may have, each of which the grammar takes, with payloads of a length of 64 bits, all events
-- fit, where no more messages are sent than a run may have; and whatever a schedule is, its replay prints events that fit.
pub record EventsFitTheirLines : Type 0 where
  pub runs : (steps : List Step) → AllByRecursion IsStep steps → AllByRecursion IsCountable steps → length steps ≤ most_lines
      → length (run blank 1 steps).state.letters ≤ most_messages
      → AllByRecursion IsLine (transcript steps)
  pub replays : (input : List ℕ) → FittingText (replay_text input)

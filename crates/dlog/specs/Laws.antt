-- The laws of a run: its reader is that of the grammar, and whatever a schedule says, the transcript is legal.
use Rattle.std.specs.Prelude.{◌≡◌, ℕ, ◌+◌, ◌≤◌, List, [], ◌∷◌, ◌++◌, length, Some, None, Ok, Err, true}
use Rattle.dl_text.specs.Columns.{StopsAt, ReadsWhole}
use Rattle.dl_schedule.specs.declared.step.Step.{Step}
use Rattle.dl_schedule.specs.Faults.{parsed_early}
use Rattle.dl_schedule.specs.EarlyLines.{IsEarly}
use Rattle.dl_schedule.specs.StepLines.{step_line}
use Rattle.dl_transcript.specs.Legal.{is_legal}
use Rattle.dlog.specs.declared.ended.Ended.{Ended}
use Rattle.dlog.specs.declared.ended.Ended.TheVariants.{Done, BadLine}
use Rattle.dlog.specs.Commands.{command_of}
use Rattle.dl_text.specs.TextLines.{lines_of}
use Rattle.dlog.specs.Run.{Schedule, no_steps, with_line, schedule, transcript, run_transcript}
use Rattle.dlog.specs.RunStates.{limit_of}

-- The line of this number is read exactly: the answer is a step that it may say, whose spelling it is, or the column where
-- it stops to be one; and a step whose spelling it is, is the answer.
pub record IsRead (n : ℕ) (line : List ℕ) : Type 0 where
  pub found : ReadsWhole (IsEarly n) step_line line (parsed_early n line)
  pub again : (s : Step) → IsEarly n s → line ≡ step_line s → parsed_early n line ≡ Ok s

-- each line is read exactly
abbrev pub LinesAreRead : Type 0
LinesAreRead = (n : ℕ) (line : List ℕ) → IsRead n line

-- What lines say behind so many lines and bytes: each is within the limits and spells a step that it may say, up to their
-- end, to a line that is past a limit, or to one that is within them and stops to be a line at a column.
pub data Say : ℕ → ℕ → List (List ℕ) → Schedule → Type 0 where
  no_line : {n bytes : ℕ} → Say n bytes [] (no_steps Done)
  past_limit : {n bytes : ℕ} {line : List ℕ} {lines : List (List ℕ)} {ended : Ended} → limit_of n (bytes + length line) ≡ Some ended
      → Say n bytes (line ∷ lines) (no_steps ended)
  bad_line : {n bytes : ℕ} {line : List ℕ} {lines : List (List ℕ)} {column : ℕ} → limit_of n (bytes + length line) ≡ None
      → StopsAt (IsEarly (n + 1)) step_line line column → Say n bytes (line ∷ lines) (no_steps (BadLine (n + 1) column))
  one_step : {n bytes : ℕ} {line : List ℕ} {lines : List (List ℕ)} {s : Step} {rest : Schedule} → limit_of n (bytes + length line) ≡ None
      → IsEarly (n + 1) s → line ≡ step_line s → Say (n + 1) (bytes + length line) lines rest → Say n bytes (line ∷ lines) (with_line (n + 1) (Ok s) rest)

-- the steps of a schedule are those that its lines say
abbrev pub SchedulesAreRead : Type 0
SchedulesAreRead = (input : List ℕ) → Say 0 0 (lines_of input) (schedule input)

-- these steps stand on the lines of an early schedule behind so many lines
abbrev pub AreEarly : ℕ → List Step → Type 0
AreEarly n [] = Unit {0}
AreEarly n (step ∷ steps) = IsEarly (n + 1) step × AreEarly (n + 1) steps

-- the machine's transcript of an early schedule is legal
abbrev pub EveryEarlyRunIsLegal : Type 0
EveryEarlyRunIsLegal = (steps : List Step) → AreEarly 0 steps → is_legal (transcript steps) ≡ true

-- and so is that of every text, up to its stop
abbrev pub EveryRunIsLegal : Type 0
EveryRunIsLegal = (input : List ℕ) → is_legal (run_transcript input) ≡ true

-- at an empty word or before it no command goes on
abbrev pub EmptyWordsAreUnknown : Type 0
EmptyWordsAreUnknown = (front words : List (List ℕ)) → (place : ℕ) × ((place ≤ length front + 1) × (command_of (front ++ [] ∷ words) ≡ Err place))

-- The laws of lines.
use Rattle.std.specs.Prelude.{◌≡◌, ℕ, List, Ok, Err}
use Rattle.dl_text.specs.Columns.{StopsAt}
use Rattle.dl_schedule.specs.declared.step.Step.{Step}
use Rattle.dl_schedule.specs.StepLines.{step_line, IsStep}
use Rattle.dl_schedule.specs.StepReading.{parsed_line}
use Rattle.dl_schedule.specs.EarlyLines.{IsEarly}
use Rattle.dl_schedule.specs.Faults.{parsed_early}

-- A line is read exactly: what is read is a step in its ranges, and spelt so; what is spelt so is read as that step; and a
-- line that is none stops at the column where none goes on.
pub record LinesAreExact : Type 0 where
  pub found : (line : List ℕ) (s : Step) → parsed_line line ≡ Ok s → IsStep s × (line ≡ step_line s)
  pub again : (s : Step) → IsStep s → parsed_line (step_line s) ≡ Ok s
  pub stops : (line : List ℕ) (column : ℕ) → parsed_line line ≡ Err column → StopsAt IsStep step_line line column

-- So is the line of each number of an early schedule, for the steps that it may say.
pub record EarlyLinesAreExact : Type 0 where
  pub found : (n : ℕ) (line : List ℕ) (s : Step) → parsed_early n line ≡ Ok s → IsEarly n s × (line ≡ step_line s)
  pub again : (n : ℕ) (s : Step) → IsEarly n s → parsed_early n (step_line s) ≡ Ok s
  pub stops : (n : ℕ) (line : List ℕ) (column : ℕ) → parsed_early n line ≡ Err column → StopsAt (IsEarly n) step_line line column

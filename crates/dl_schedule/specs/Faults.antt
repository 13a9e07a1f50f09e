-- What the reader of a line answers, and why it refuses one, for the steps that the line may say.
use Rattle.std.specs.Prelude.{◌≡◌, ℕ, List, Result, Ok, Err}
use Rattle.dl_text.specs.Columns.{StopsAt, column_of}
use Rattle.dl_schedule.specs.declared.step.Step.{Step}
use Rattle.dl_types.specs.declared.line_fault.LineFault.{LineFault}
use Rattle.dl_types.specs.declared.line_fault.LineFault.TheVariants.{NoMemory, BadLine}
use Rattle.dl_schedule.specs.StepLines.{step_line}
use Rattle.dl_schedule.specs.EarlyReading.{early_at}

-- the column is the place where the line stops to be that of such a step; want of memory says nothing of the line
abbrev pub IsBadAt : (Step → Type 0) → List ℕ → LineFault → Type 0
IsBadAt Said line NoMemory = Unit {0}
IsBadAt Said line (BadLine column) = StopsAt Said step_line line column

-- the answer is this step, unless memory ran out
abbrev pub ReadsAs : Step → Result Step LineFault → Type 0
ReadsAs s (Ok t) = t ≡ s
ReadsAs s (Err NoMemory) = Unit {0}
ReadsAs s (Err (BadLine column)) = ⊥

-- the step that the line of this number of an early schedule says, or the column where it stops
abbrev pub parsed_early : ℕ → List ℕ → Result Step ℕ
parsed_early n line = column_of line (early_at n line)

-- the answer is the step or the column of this reading, unless memory ran out
abbrev pub Parses : Result Step LineFault → Result Step ℕ → Type 0
Parses (Ok s) read = read ≡ Ok s
Parses (Err NoMemory) read = Unit {0}
Parses (Err (BadLine column)) read = read ≡ Err column

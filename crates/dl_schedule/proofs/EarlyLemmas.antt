-- A whole line of an early schedule: what it says, and where it stops to be one.
use Rattle.std.proofs.Common.{◌≡◌, ℕ, List, Ok, Err, sym}
use Rattle.dl_text.specs.Columns.{StopsAt}
use Rattle.dl_schedule.specs.declared.step.Step.{Step}
use Rattle.dl_schedule.specs.StepLines.{step_line}
use Rattle.dl_schedule.specs.EarlyLines.{IsEarly}
use Rattle.dl_schedule.specs.Faults.{parsed_early}
use Rattle.dl_schedule.proofs.EarlyExactness.{early_exact}
use Rattle.dl_schedule.proofs.WholeLines.{reading_found, reading_again, reading_stops}

-- A line that is parsed says a step of its number, and is its spelling.
pub parsed_found : (n : ℕ) (line : List ℕ) (s : Step) → parsed_early n line ≡ Ok s → IsEarly n s × (line ≡ step_line s)
parsed_found n = reading_found (early_exact n)

-- The spelling of a step of its number is parsed as that step.
pub parsed_again : (n : ℕ) (s : Step) → IsEarly n s → parsed_early n (step_line s) ≡ Ok s
parsed_again n = reading_again (early_exact n)

-- A line that is parsed is spelt again as itself.
pub spelt_again : (n : ℕ) (line : List ℕ) (s : Step) → parsed_early n line ≡ Ok s → step_line s ≡ line
spelt_again n line s e = sym (parsed_found n line s e).1

-- A line that is not parsed stops at the column.
pub parsed_stops : (n : ℕ) (line : List ℕ) (column : ℕ) → parsed_early n line ≡ Err column → StopsAt (IsEarly n) step_line line column
parsed_stops n = reading_stops (early_exact n)

-- What the reader of a transcript's line answers, and why it refuses one.
use Rattle.std.specs.Prelude.{◌≡◌, ℕ, List, Result, Ok, Err}
use Rattle.dl_types.specs.declared.line_fault.LineFault.{LineFault}
use Rattle.dl_types.specs.declared.line_fault.LineFault.TheVariants.{NoMemory, BadLine}
use Rattle.dl_text.specs.Columns.{StopsAt}
use Rattle.dl_transcript.specs.declared.event.Event.{Event}
use Rattle.dl_transcript.specs.Lines.{print_event}
use Rattle.dl_transcript.specs.Ranges.{IsLine}

-- the one spelling of a line: the number of a line of the schedule, and an event
abbrev pub event_line : ℕ × Event → List ℕ
event_line x = print_event x.0 x.1

-- the column is the place where the line stops to be one of a transcript; want of memory says nothing of the line
abbrev pub IsBadAt : List ℕ → LineFault → Type 0
IsBadAt line NoMemory = Unit {0}
IsBadAt line (BadLine column) = StopsAt IsLine event_line line column

-- the answer is this number and event, unless memory ran out
abbrev pub ReadsAs : ℕ × Event → Result (ℕ × Event) LineFault → Type 0
ReadsAs x (Ok read) = read ≡ x
ReadsAs x (Err NoMemory) = Unit {0}
ReadsAs x (Err (BadLine column)) = ⊥

-- the answer is the number and event, or the column, of this reading, unless memory ran out
abbrev pub Parses : Result (ℕ × Event) LineFault → Result (ℕ × Event) ℕ → Type 0
Parses (Ok x) read = read ≡ Ok x
Parses (Err NoMemory) read = Unit {0}
Parses (Err (BadLine column)) read = read ≡ Err column

-- The law of a transcript's lines.
use Rattle.std.specs.Prelude.{◌≡◌, ℕ, List, Ok, Err}
use Rattle.dl_text.specs.Columns.{StopsAt}
use Rattle.dl_transcript.specs.declared.event.Event.{Event}
use Rattle.dl_transcript.specs.Ranges.{IsLine}
use Rattle.dl_transcript.specs.Reading.{parsed_event}
use Rattle.dl_events.specs.Faults.{event_line}

-- A line is read exactly: what is read is a number and an event in their ranges, and spelt so; what is spelt so is read as
-- them; and a line that is none stops at the column where none goes on.
pub record EventsAreExact : Type 0 where
  pub found : (line : List ℕ) (x : ℕ × Event) → parsed_event line ≡ Ok x → IsLine x × (line ≡ event_line x)
  pub again : (x : ℕ × Event) → IsLine x → parsed_event (event_line x) ≡ Ok x
  pub stops : (line : List ℕ) (column : ℕ) → parsed_event line ≡ Err column → StopsAt IsLine event_line line column

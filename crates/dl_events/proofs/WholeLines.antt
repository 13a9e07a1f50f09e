-- Whole lines of a transcript: what the reading of one says of the event and of the column.
use Rattle.std.proofs.Common.{◌≡◌, ℕ, List, Ok, Err, sym, ap, subst, ◌∙◌}
use Rattle.dl_text.specs.Readers.{whole_at}
use Rattle.dl_text.specs.Columns.{StopsAt, column_of, ReadsWhole}
use Rattle.dl_text.proofs.LineLemmas.{whole_again, whole_reads}
use Rattle.dl_transcript.specs.declared.event.Event.{Event}
use Rattle.dl_transcript.specs.Ranges.{IsLine}
use Rattle.dl_transcript.specs.Reading.{line_at, parsed_event}
use Rattle.dl_events.specs.Faults.{event_line}
use Rattle.dl_events.proofs.EventExactness.{line_exact}

-- a line says one event
pub same_line : (line : List ℕ) (x y : ℕ × Event) → whole_at line_at line ≡ Ok y → IsLine x → line ≡ event_line x → y ≡ x
same_line line x y e valid spelt = let both : Ok y ≡ Ok x = sym e ∙ ap (whole_at line_at) spelt ∙ whole_again line_exact x valid in cc

-- a line that stops says none
pub no_line : (line : List ℕ) (x : ℕ × Event) (left : ℕ) → whole_at line_at line ≡ Err left → IsLine x → line ≡ event_line x → ⊥
no_line line x left e valid spelt = let both : Err left ≡ Ok x = sym e ∙ ap (whole_at line_at) spelt ∙ whole_again line_exact x valid in cc

-- what is read is valid and spelt so
pub reading_found : (line : List ℕ) (x : ℕ × Event) → parsed_event line ≡ Ok x → IsLine x × (line ≡ event_line x)
reading_found line x e = subst (ReadsWhole IsLine event_line line) e (whole_reads line_exact line)

-- what is spelt so is read
pub reading_again : (x : ℕ × Event) → IsLine x → parsed_event (event_line x) ≡ Ok x
reading_again x valid = ap (column_of (event_line x)) (whole_again line_exact x valid)

-- what isn't read stops at the column
pub reading_stops : (line : List ℕ) (column : ℕ) → parsed_event line ≡ Err column → StopsAt IsLine event_line line column
reading_stops line column e = subst (ReadsWhole IsLine event_line line) e (whole_reads line_exact line)

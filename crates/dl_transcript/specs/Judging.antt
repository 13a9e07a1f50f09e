-- What is said of a transcript's text, line by line.
use Rattle.std.specs.Prelude.{ℕ, ◌+◌, ◌&&◌, if◌then◌else◌, nat_le, List, [], ◌∷◌, Result, Ok, Err}
use Rattle.dl_text.specs.TextLines.{lines_of}
use Rattle.dl_transcript.specs.declared.event.Event.{Event}
use Rattle.dl_transcript.specs.Legal.{History, no_history, keeps, sees}
use Rattle.dl_transcript.specs.Reading.{parsed_event}

-- the transcript is legal; or its line of this place, counted from 1, is the first that breaks a rule; or it is the first
-- that is outside the grammar
pub data Judgement : Type 0 where
  Legal : Judgement
  Illegal : (place : ℕ) → Judgement
  BadLine : (place : ℕ) → Judgement

-- a line at this place, behind the line of this number and what was seen by then, and what is said of the rest
abbrev pub judged_line : ℕ → ℕ → History → Result (ℕ × Event) ℕ → (ℕ → History → Judgement) → Judgement
judged_line place line s (Err column) rest = BadLine place
judged_line place line s (Ok x) rest = if nat_le line x.0 && keeps s x.1 then rest x.0 (sees s x.1) else Illegal place

-- lines from this place on
unfoldable pub judged_from : ℕ → ℕ → History → List (List ℕ) → Judgement
judged_from place line s [] = Legal
judged_from place line s (text ∷ texts) = judged_line place line s (parsed_event text) (λ now seen. judged_from (place + 1) now seen texts)

-- a whole text
abbrev pub judgement_of : List ℕ → Judgement
judgement_of text = judged_from 1 0 no_history (lines_of text)

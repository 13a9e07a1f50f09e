-- What lines and words are read as.
use Rattle.std.proofs.Common.{◌≡◌, ◌↔◌, ℕ, ◌+◌, ◌≤◌, Bool, true, false, cond, List, [], ◌∷◌, ◌++◌, length}
use Rattle.std.proofs.Common.{Option, Some, None, Result, Ok, Err, refl, sym, subst, arith}
use Rattle.std.specs.Str.{IsUtf8, is_utf8}
use Rattle.std.proofs.lemmas.Str.{IsUtf8-from_is_utf8, is_utf8-from_IsUtf8}
use Rattle.std.proofs.lemmas.Bool.{cond-true}
use Rattle.dl_types.specs.declared.status.Status.{Status}
use Rattle.dl_types.specs.declared.status.Status.TheVariants.{Usage}
use Rattle.dl_text.specs.Columns.{ReadsWhole}
use Rattle.dl_schedule.specs.declared.step.Step.{Step}
use Rattle.dl_schedule.specs.EarlyLines.{IsEarly}
use Rattle.dl_schedule.specs.StepLines.{step_line}
use Rattle.dl_schedule.specs.Faults.{parsed_early}
use Rattle.dl_schedule.proofs.EarlyLemmas.{parsed_found, parsed_again, parsed_stops}
use Rattle.dlog.specs.declared.ended.Ended.{Ended}
use Rattle.dlog.specs.declared.command.Command.{Command}
use Rattle.dlog.specs.declared.command.Command.TheVariants.{Replay}
use Rattle.dlog.specs.Commands.{is_replay, alone, command_of, word_text}
use Rattle.dl_text.specs.TextLines.{lines_of}
use Rattle.dlog.specs.Run.{schedule_from, with_line}
use Rattle.dlog.specs.RunStates.{limit_of}
use Rattle.dlog.specs.Laws.{LinesAreRead, Say, SchedulesAreRead, EmptyWordsAreUnknown}
use Rattle.dlog.proofs.RunLemmas.{schedule_stop, schedule_goes}

-- what the reader answers for a line is so
reads_whole : (n : ℕ) (line : List ℕ) (read : Result Step ℕ) → parsed_early n line ≡ read → ReadsWhole (IsEarly n) step_line line read
reads_whole n line (Ok s) e = parsed_found n line s e
reads_whole n line (Err column) e = parsed_stops n line column e

-- each line is read exactly
pub lines_read : LinesAreRead
lines_read n line = record {
  found = reads_whole n line (parsed_early n line) refl;
  again = λ s early spelt. subst (λ text. parsed_early n text ≡ Ok s) (sym spelt) (parsed_again n s early);
}

-- a line within the limits says what the reader answers
says_line : (n bytes : ℕ) (line : List ℕ) (lines : List (List ℕ)) (read : Result Step ℕ) → parsed_early (n + 1) line ≡ read
    → limit_of n (bytes + length line) ≡ None
    → Say (n + 1) (bytes + length line) lines (schedule_from (n + 1) (bytes + length line) lines)
    → Say n bytes (line ∷ lines) (with_line (n + 1) read (schedule_from (n + 1) (bytes + length line) lines))
says_line n bytes line lines (Ok s) e free later = let is = parsed_found (n + 1) line s e in Say.one_step free is.0 is.1 later
says_line n bytes line lines (Err column) e free later = Say.bad_line free (parsed_stops (n + 1) line column e)

-- a line is past a limit, or says what the reader answers
says_within : (n bytes : ℕ) (line : List ℕ) (lines : List (List ℕ)) (limit : Option Ended) → limit_of n (bytes + length line) ≡ limit
    → Say (n + 1) (bytes + length line) lines (schedule_from (n + 1) (bytes + length line) lines)
    → Say n bytes (line ∷ lines) (schedule_from n bytes (line ∷ lines))
says_within n bytes line lines (Some ended) e later = subst (Say n bytes (line ∷ lines)) (sym (schedule_stop n bytes line lines ended e)) (Say.past_limit e)
says_within n bytes line lines None e later = subst (Say n bytes (line ∷ lines)) (sym (schedule_goes n bytes line lines e))
    (says_line n bytes line lines (parsed_early (n + 1) line) refl e later)

-- the steps of a schedule are those that its lines say
says : (lines : List (List ℕ)) (n bytes : ℕ) → Say n bytes lines (schedule_from n bytes lines)
unfolding schedule_from
says [] n bytes = Say.no_line
says (line ∷ lines) n bytes = says_within n bytes line lines (limit_of n (bytes + length line)) refl (says lines (n + 1) (bytes + length line))

-- the steps of a text are those that its lines say
pub schedules_read : SchedulesAreRead
schedules_read input = says (lines_of input) 0 0

-- a place at which no command goes on
abbrev Unknown : ℕ → Result Command ℕ → Type 0
Unknown most read = (place : ℕ) × ((place ≤ most) × (read ≡ Err place))

-- an empty word stands behind the first word
empty_behind : (front words : List (List ℕ)) (known : Bool)
    → Unknown (length front + 2) (cond {A = Result Command ℕ} known (alone Replay 2 (front ++ [] ∷ words)) (Err 1))
empty_behind front words false = (1, (omega arith, refl))
empty_behind [] words true = (2, (omega arith, refl))
empty_behind (word ∷ front) words true = (2, (omega arith, refl))

-- at an empty word or before it no command goes on
pub empty_unknown : EmptyWordsAreUnknown
empty_unknown [] words = (1, (omega arith, refl))
empty_unknown (word ∷ front) words =
    let u : Unknown (length front + 2) (command_of (word ∷ (front ++ [] ∷ words))) = empty_behind front words (is_replay word) in
    (u.0, (omega (arith, u.1.0), u.1.1))

-- bytes that are UTF-8 are their word
pub word_is : (bytes : List ℕ) → IsUtf8 bytes → word_text bytes ≡ bytes
word_is bytes h = cond-true (is_utf8 bytes) bytes [] (is_utf8-from_IsUtf8 bytes h)

-- and other bytes are the empty word
pub word_is_empty : (bytes : List ℕ) → (IsUtf8 bytes → ⊥) → word_text bytes ≡ []
word_is_empty bytes h = go (is_utf8 bytes) refl
  where
    go : (t : Bool) → is_utf8 bytes ≡ t → cond t bytes [] ≡ []
    go true e = absurd (h (IsUtf8-from_is_utf8 bytes e))
    go false e = refl

-- equal words ask for the same
pub usage_along : (s : Status) (given words : List (List ℕ)) → given ≡ words → ((place : ℕ) → (s ≡ Usage place) ↔ (command_of given ≡ Err place))
    → (place : ℕ) → (s ≡ Usage place) ↔ (command_of words ≡ Err place)
usage_along s given words e usage place = let P : List (List ℕ) → Type 0 = λ x. (s ≡ Usage place) ↔ (command_of x ≡ Err place) in subst P e (usage place)

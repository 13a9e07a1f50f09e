-- The line that a program notes when it ends badly.
use Rattle.std.specs.Prelude.{◌≡◌, ◌≤◌, ℕ, List, [], ◌++◌, codes}
use Rattle.std.specs.Io.KnownBytes.{Appends}
use Rattle.dl_types.specs.declared.limit.LimitName.{LimitName}
use Rattle.dl_types.specs.declared.refusal.Refusal.{Refusal}
use Rattle.dl_types.specs.declared.status.Status.{Status}
use Rattle.dl_types.specs.declared.status.Status.TheVariants as status
use Rattle.dl_types.specs.Statuses.{limit_text}
use Rattle.dl_text.specs.Ends.{space, line_feed}
use Rattle.dl_text.specs.Numbers.{number}
use Rattle.dl_text.specs.Refusals.{refusal_field}
use Rattle.dl_io.specs.Causes.{Rose}
use Rattle.dl_io.specs.Views.{SinkView}
use Rattle.dl_io.specs.Sinks.{KeepsAmount, FinishesAll, GivesFront}

-- a text, a number, and the byte that ends it
abbrev pub word_number : List ℕ → ℕ → ℕ → List ℕ
word_number text end n = text ++ number end n

-- two texts with a number behind each, to the end of the line
abbrev pub two_numbers : List ℕ → ℕ → List ℕ → ℕ → List ℕ
two_numbers first one second other = word_number first space one ++ word_number second line_feed other

-- what a note says of a limit that was passed
abbrev pub limit_past : LimitName → ℕ → List ℕ
limit_past name n = codes "limit: " ++ limit_text name ++ word_number (codes " ") line_feed n

-- what a note says of a refusal
abbrev pub refusal_note : Refusal → List ℕ
refusal_note r = codes "refused: " ++ refusal_field r

-- what a note says of a status, to the end of its line
abbrev pub note_text : Status → List ℕ
note_text status.Ok = []
note_text (status.Usage place) = word_number (codes "usage: word ") line_feed place
note_text (status.BadSchedule line column) = two_numbers (codes "bad schedule: line ") line (codes "column ") column
note_text status.ReadFault = codes "read fault\n"
note_text status.WriteFault = codes "write fault\n"
note_text (status.DeviceFault file) = word_number (codes "device fault: ") line_feed file
note_text status.NotInitialised = codes "not initialised\n"
note_text (status.Damaged file at) = two_numbers (codes "damaged: ") file (codes "at ") at
note_text status.NoStream = codes "no stream\n"
note_text status.StreamExists = codes "stream exists\n"
note_text (status.Refused refusal) = refusal_note refusal
note_text (status.Unavailable need have) = two_numbers (codes "unavailable: need ") need (codes "have ") have
note_text (status.Limit name n) = limit_past name n
note_text status.NoMemory = codes "no memory\n"
note_text status.AlreadyInitialised = codes "already initialised\n"
note_text (status.Lacking ledger entry) = two_numbers (codes "lacking: ledger ") ledger (codes "entry ") entry

-- the program's name, and what is said of a status
abbrev pub note_line : Status → List ℕ
note_line s = codes "dlog: " ++ note_text s

-- the note of a status; a good end has none
abbrev pub note : Status → List ℕ
note status.Ok = []
note s = note_line s

-- the whole text was given; or a front of it, and the count of faults rose
pub data Noted (old new : SinkView) (text : List ℕ) : Type 0 where
  whole : Appends old.held new.held text → Noted old new text
  broken : Rose old.faults new.faults → GivesFront old new text → Noted old new text

-- with the note all that is held was finished; or how much is finished stayed, and the count of faults rose, or there
-- was no note
pub data NoteFinished (old new : SinkView) (s : Status) : Type 0 where
  finished : FinishesAll old new → NoteFinished old new s
  failed : Rose old.faults new.faults → KeepsAmount old.finished new.finished → NoteFinished old new s
  silent : s ≡ status.Ok → KeepsAmount old.finished new.finished → NoteFinished old new s

-- a status was noted
pub record Notes (old new : SinkView) (s : Status) : Type 0 where
  pub noted : Noted old new (note s)
  pub finished : NoteFinished old new s
  pub later : old.faults ≤ new.faults

-- A line that was given and finished, or not, is a note.
use Rattle.std.proofs.Common.{◌≡◌, ℕ, List, refl}
use Rattle.std.specs.Prelude.{Result, Ok, Err}
use Rattle.dl_types.specs.declared.status.Status.{Status}
use Rattle.dl_types.specs.declared.status.Status.TheVariants as status
use Rattle.dl_io.specs.Sinks.{WritesOut}
use Rattle.dl_io.specs.Notes.{Noted, whole, broken, NoteFinished, finished, failed, Notes, note, note_line}
use Rattle.dl_io.specs.Views.{SinkView}

-- a status other than Ok is noted by a line
note_is_line : (s : Status) → (s ≡ status.Ok → ⊥) → note_line s ≡ note s
note_is_line status.Ok bad = absurd (bad refl)
note_is_line (status.Usage place) bad = refl
note_is_line (status.BadSchedule line column) bad = refl
note_is_line status.ReadFault bad = refl
note_is_line status.WriteFault bad = refl
note_is_line (status.DeviceFault file) bad = refl
note_is_line status.NotInitialised bad = refl
note_is_line (status.Damaged file at) bad = refl
note_is_line status.NoStream bad = refl
note_is_line status.StreamExists bad = refl
note_is_line (status.Refused refusal) bad = refl
note_is_line (status.Unavailable need have) bad = refl
note_is_line (status.Limit name number) bad = refl
note_is_line status.NoMemory bad = refl
note_is_line status.AlreadyInitialised bad = refl
note_is_line (status.Lacking ledger entry) bad = refl

-- the whole line was given; or a front of it, with a fault
line_noted : {E : Type 0} (a b : SinkView) (text : List ℕ) (r : Result (Unit {0}) E) → WritesOut a b text r → Noted a b text
line_noted a b text (Ok u) w = whole w.ok
line_noted a b text (Err e) w = broken w.cause.failed w.some

-- all that is held was finished; or how much is stayed, with a fault
line_finished : {E : Type 0} (a b : SinkView) (s : Status) (r : Result (Unit {0}) E) → WritesOut a b (note_line s) r → NoteFinished a b s
line_finished a b s (Ok u) w = finished w.finished
line_finished a b s (Err e) w = failed w.cause.failed w.finished

-- the line of a status other than Ok is its note
pub line_notes : {E : Type 0} (a b : SinkView) (s : Status) (r : Result (Unit {0}) E) → (s ≡ status.Ok → ⊥) → WritesOut a b (note_line s) r → Notes a b s
line_notes a b s r bad w = record {
  noted = rw (← note_is_line s bad) (line_noted a b (note_line s) r w);
  finished = line_finished a b s r w;
  later = w.cause.later;
}

use Rattle.dl_io.proofs.NoteLemmas.{line_notes}
use Rattle.dl_io.proofs.notes.write_note.Goals as goal

pub returns-in_default : goal.returns-in_default
returns-in_default g c = record {
  notes = line_notes _ _ c.args.status.now _ c.in_default.not-Ok c.finish_line.ensures;
  silent = λ ok. absurd (c.in_default.not-Ok ok);
}

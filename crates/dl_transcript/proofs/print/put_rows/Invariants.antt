use Rattle.std.proofs.Common.{◌≡◌, ◌++◌, drop}
use Rattle.dl_text.specs.ListFields.{list_field}
use Rattle.dl_transcript.specs.Lines.{row_field}
use Rattle.dl_transcript.proofs.print.put_rows.Given as goal

abbrev pub invariant-loop-i : goal.invariant-loop-i
invariant-loop-i l = l.out.items ++ list_field row_field (drop l.i l.rows) ≡ l.fn.out.items ++ list_field row_field l.rows

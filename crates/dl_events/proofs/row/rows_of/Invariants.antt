use Rattle.std.proofs.Common.{◌≡◌}
use Rattle.dl_text.specs.ListFields.{list_at}
use Rattle.dl_text.proofs.ReaderLemmas.{onto}
use Rattle.dl_transcript.specs.Reading.{row_at}
use Rattle.dl_events.proofs.row.rows_of.Given as goal

abbrev pub invariant-loop-left : goal.invariant-loop-left
invariant-loop-left l = onto l.found.items (list_at row_at l.left l.rest) ≡ list_at row_at l.more l.bytes

abbrev pub decreases-loop-left : goal.decreases-loop-left
decreases-loop-left l = l.left

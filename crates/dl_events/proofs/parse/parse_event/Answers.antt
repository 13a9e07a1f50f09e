use Rattle.dl_text.proofs.LineLemmas.{whole_found, whole_left, whole_stops}
use Rattle.dl_events.proofs.EventExactness.{line_exact}
use Rattle.dl_events.proofs.WholeLines.{same_line, no_line}
use Rattle.dl_events.proofs.parse.parse_event.Goals as goal

pub overflow_sub-result : goal.overflow_sub-result
overflow_sub-result c = whole_left line_exact c.args.bytes.now c.in-Err-Left.left (rw c.in-Err-Left.field-0-is at c.in-Err-Left.ensures)

pub returns-in-Ok-clause-found : goal.returns-in-Ok-clause-found
returns-in-Ok-clause-found c = whole_found line_exact c.args.bytes.now c.in-Ok.read c.in-Ok.ensures

pub returns-in-Ok-clause-only : goal.returns-in-Ok-clause-only
returns-in-Ok-clause-only c = λ line e valid spelt. same_line c.args.bytes.now (line, e) c.in-Ok.read c.in-Ok.ensures valid spelt

pub returns-in-Err-Left-clause-only : goal.returns-in-Err-Left-clause-only
returns-in-Err-Left-clause-only c = λ line e valid spelt. no_line c.args.bytes.now (line, e) c.in-Err-Left.left
    (rw c.in-Err-Left.field-0-is at c.in-Err-Left.ensures) valid spelt

pub returns-in-Err-Left-clause-column : goal.returns-in-Err-Left-clause-column
returns-in-Err-Left-clause-column c = whole_stops line_exact c.args.bytes.now c.in-Err-Left.left (rw c.in-Err-Left.field-0-is at c.in-Err-Left.ensures)

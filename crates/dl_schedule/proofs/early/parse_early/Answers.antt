use Rattle.dl_text.proofs.LineLemmas.{whole_found, whole_left, whole_stops}
use Rattle.dl_schedule.proofs.EarlyExactness.{early_exact}
use Rattle.dl_schedule.proofs.WholeLines.{same_step, no_step}
use Rattle.dl_schedule.proofs.early.parse_early.Goals as goal

pub overflow_sub-result : goal.overflow_sub-result
overflow_sub-result c = whole_left (early_exact c.args.number) c.args.line.now c.in-Err-Left.left (rw c.in-Err-Left.field-0-is at c.in-Err-Left.ensures)

pub returns-in-Ok-clause-found : goal.returns-in-Ok-clause-found
returns-in-Ok-clause-found c = whole_found (early_exact c.args.number) c.args.line.now c.in-Ok.step c.in-Ok.ensures

pub returns-in-Ok-clause-only : goal.returns-in-Ok-clause-only
returns-in-Ok-clause-only c = λ s valid spelt. same_step (early_exact c.args.number) c.args.line.now s c.in-Ok.step c.in-Ok.ensures valid spelt

pub returns-in-Err-Left-clause-only : goal.returns-in-Err-Left-clause-only
returns-in-Err-Left-clause-only c = λ s valid spelt. no_step (early_exact c.args.number) c.args.line.now s c.in-Err-Left.left
    (rw c.in-Err-Left.field-0-is at c.in-Err-Left.ensures) valid spelt

pub returns-in-Err-Left-clause-column : goal.returns-in-Err-Left-clause-column
returns-in-Err-Left-clause-column c = whole_stops (early_exact c.args.number) c.args.line.now c.in-Err-Left.left
    (rw c.in-Err-Left.field-0-is at c.in-Err-Left.ensures)

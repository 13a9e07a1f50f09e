use Rattle.std.proofs.Common.{arith}
use Rattle.dl_meta.specs.Changes.{item_for}
use Rattle.dl_meta.proofs.Items.{is_whole_by, may_come}
use Rattle.dl_meta.proofs.read.read_body.Goals as goal

pub returns-then-is_empty-clause-due : goal.returns-then-is_empty-clause-due
returns-then-is_empty-clause-due c =
    may_come c.args.is_first c.args.sessions.now c.args.body.now (item_for c.in_ok-change.change) (λ i. omega (arith, c.type_inv.body i))
    (is_whole_by c.args.is_first c.args.sessions.now c.args.body.now c.in_ok-change.rest.now (item_for c.in_ok-change.change) c.is_empty.result
    c.in_ok-change.ensures c.is_empty.ensures c.if-is_empty.true)

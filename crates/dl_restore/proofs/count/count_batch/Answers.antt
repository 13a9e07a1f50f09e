use Rattle.std.proofs.Common.{length, arith}
use Rattle.dl_items.proofs.BodyLemmas.{is_body, not_none}
use Rattle.dl_restore.proofs.count.count_batch.Goals as goal

pub returns-then-body-le-LONGEST_BATCH-clause-found : goal.returns-then-body-le-LONGEST_BATCH-clause-found
returns-then-body-le-LONGEST_BATCH-clause-found c =
    is_body c.args.body.now (λ i. omega (arith, c.type_inv.body i)) (not_none (length c.args.body.now) c.if-not-is_empty.ensures) (omega arith)
    (c.count_items-is_whole.ensures.whole c.if-is_whole.true)

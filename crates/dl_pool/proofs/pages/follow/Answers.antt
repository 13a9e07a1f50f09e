use Rattle.dl_pool.proofs.ChainLemmas.{page_after-within, page_after_next}
use Rattle.std.proofs.Common.{length}
use Rattle.dl_pool.proofs.pages.follow.Goals as goal

pub bounds-next-page : goal.bounds-next-page
bounds-next-page c =
    page_after-within c.args.next.now c.args.first c.loop-step.step c.args.links (length c.args.next.now) c.loop-step.page
    c.loop-step.invariant c.loop-step-test.true c.requires

pub loop-step-preserved : goal.loop-step-preserved
loop-step-preserved c = page_after_next c.args.next.now c.args.first c.loop-step.step c.loop-step.page c.loop-step.invariant

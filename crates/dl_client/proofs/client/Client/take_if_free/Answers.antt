use Rattle.std.proofs.Common.{subst, sym}
use Rattle.dl_client.proofs.Taking.{free_does}
use Rattle.dl_client.specs.Standing.{NowStands}
use Rattle.dl_client.proofs.client.Client.take_if_free.Goals as goal

pub returns-clause-goes : goal.returns-clause-goes
returns-clause-goes c me n h =
    let now = subst (NowStands me n) (sym c.self.view_is) h in
    free_does me n c.args.line c.args.step.now n.order c.in_ok-parts.parts c.take_order.new.self (rw c.in_default.is at now.order)
    (c.in_ok-parts.ensures.goes me n h)

use Rattle.std.proofs.Common.{subst, sym}
use Rattle.dl_client.specs.Facts.{ClientFacts}
use Rattle.dl_client.specs.Standing.{NowStands}
use Rattle.dl_client.proofs.Hearing.{order_does}
use Rattle.dl_client.proofs.client.Client.order_hears.Goals as goal

pub returns-clause-goes : goal.returns-clause-goes
returns-clause-goes c me n h =
    let now = subst (NowStands me n) (sym c.self.view_is) h in
    let i = c.self.inside in
    let k : ClientFacts = record {
      number = i.number;
      session = i.session;
      conf = i.conf;
      asked = i.asked;
      awaits = i.awaits;
      taken = i.taken;
      order = i.order;
    } in
    rw (c.go_on.ensures.parts, c.go_on.ensures.stands)
    (order_does me n c.args.heard.now k c.in-Some.order c.hear.new.self c.in_ok-turn.turn n.order now (rw c.in-Some.is at now.order)
    (λ o s. c.in_ok-turn.ensures.goes me o now.number s))

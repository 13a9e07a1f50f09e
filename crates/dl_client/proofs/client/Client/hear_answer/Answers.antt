use Rattle.std.proofs.Common.{subst, sym}
use Rattle.dl_client.specs.Facts.{ClientFacts}
use Rattle.dl_client.specs.Hearing.{replied}
use Rattle.dl_client.specs.Standing.{NowStands}
use Rattle.dl_client.proofs.Hearing.{replied_stands}
use Rattle.dl_client.proofs.client.Client.hear_answer.Goals as goal

pub returns-in-Ok-clause-goes : goal.returns-in-Ok-clause-goes
returns-in-Ok-clause-goes c me n h =
    let now = subst (NowStands me n) (sym c.self.view_is) h in
    let i = c.self.inside in
    let k : ClientFacts = record {
      number = i.number;
      session = i.session;
      conf = i.conf;
      asked = i.asked;
      awaits = i.awaits;
      taken = i.taken;
      order = i.order;
    } in
    rw (← c.in_ok-shared.ensures) (c.in-Ok.ensures.goes me (replied n) (replied_stands me n k now))

use Rattle.dl_rules_client.specs.Acts.{Came}
use Rattle.dl_rules_client.specs.Clients.{client_of}
use Rattle.dl_client.proofs.Taking.{takes_view}
use Rattle.dl_client.proofs.client.Client.hear.Goals as goal

pub returns-clause-takes : goal.returns-clause-takes
returns-clause-takes c me view h =
    rw c.new.ensures
    (takes_view me view (Came c.args.letter.now) c.in_ok-parts.parts c.hear_msg.new.self (c.in_ok-parts.ensures.goes me (client_of me view) h))

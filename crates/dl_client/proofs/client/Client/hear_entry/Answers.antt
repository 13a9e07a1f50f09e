use Rattle.std.proofs.Common.{◌≡◌, rules}
use Rattle.dl_client.proofs.client.Client.hear_entry.Goals as goal

pub returns-clause-goes : goal.returns-clause-goes
returns-clause-goes c =
    let e : c.in_ok-bytes.bytes ≡ c.args.bytes.now = search rules in
    rw (← e) c.hear_tagged.ensures.goes

use Rattle.dl_rules_client.specs.Clients.{takes_msg}
use Rattle.dl_client.proofs.client.Client.hear_msg.Goals as goal

pub returns-in-CopyOk-clause-goes : goal.returns-in-CopyOk-clause-goes
unfolding takes_msg
returns-in-CopyOk-clause-goes c = rw c.in-CopyOk.is c.hear_tagged.ensures.goes

pub returns-in-LacIs-clause-goes : goal.returns-in-LacIs-clause-goes
unfolding takes_msg
returns-in-LacIs-clause-goes c = rw c.in-LacIs.is c.hear_tagged-in-LacIs.ensures.goes

pub returns-in-NoEntry-clause-goes : goal.returns-in-NoEntry-clause-goes
unfolding takes_msg
returns-in-NoEntry-clause-goes c = rw c.in-NoEntry.is c.hear_tagged-in-NoEntry.ensures.goes

pub returns-in-EntryIs-clause-goes : goal.returns-in-EntryIs-clause-goes
unfolding takes_msg
returns-in-EntryIs-clause-goes c = rw c.in-EntryIs.is c.hear_entry.ensures.goes

pub returns-in-MetaReply-clause-goes : goal.returns-in-MetaReply-clause-goes
unfolding takes_msg
returns-in-MetaReply-clause-goes c = rw c.in-MetaReply.is c.hear_reply.ensures.goes

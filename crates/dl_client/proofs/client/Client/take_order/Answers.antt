use Rattle.dl_rules_client.specs.Clients.{takes_order}
use Rattle.dl_client.proofs.client.Client.take_order.Goals as goal

pub returns-in-Create-clause-goes : goal.returns-in-Create-clause-goes
unfolding takes_order
returns-in-Create-clause-goes c = rw c.in-Create.is c.begin_make.ensures.goes

pub returns-in-Remove-clause-goes : goal.returns-in-Remove-clause-goes
unfolding takes_order
returns-in-Remove-clause-goes c = rw c.in-Remove.is c.begin_remove.ensures.goes

pub returns-in-Purge-clause-goes : goal.returns-in-Purge-clause-goes
unfolding takes_order
returns-in-Purge-clause-goes c = rw c.in-Purge.is c.begin_purge.ensures.goes

pub returns-in-Truncate-clause-goes : goal.returns-in-Truncate-clause-goes
unfolding takes_order
returns-in-Truncate-clause-goes c = rw (c.in-Truncate.is, ← c.dlsn.ensures.value) c.begin_truncate.ensures.goes

use Rattle.dl_rules_ledger.proofs.WriterLaws.{acks_are_of_a_quorum, members_differ, ensembles_differ}
use Rattle.dl_rules_ledger.proofs.laws.acks_are_of_different_bookies.Goals as goal

pub returns-clause-acks : goal.returns-clause-acks
returns-clause-acks c = acks_are_of_a_quorum

pub returns-clause-members : goal.returns-clause-members
returns-clause-members c = members_differ

pub returns-clause-ensembles : goal.returns-clause-ensembles
returns-clause-ensembles c = ensembles_differ

use Rattle.dl_rules_ledger.proofs.WriterLaws.{rings_are_ensembles}
use Rattle.dl_rules_ledger.proofs.laws.rings_are_ensembles.Goals as goal

pub returns : goal.returns
returns c = rings_are_ensembles

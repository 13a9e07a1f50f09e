use Rattle.dl_laws.proofs.RunLaws.{records_are_counted}
use Rattle.dl_laws.proofs.laws.records_are_counted.Goals as goal

pub returns : goal.returns
returns c = records_are_counted

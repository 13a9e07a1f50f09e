use Rattle.dl_laws.proofs.RunLaws.{requests_are_numbered}
use Rattle.dl_laws.proofs.laws.requests_are_numbered.Goals as goal

pub returns : goal.returns
returns c = requests_are_numbered

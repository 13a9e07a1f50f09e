use Rattle.dl_rules_ledger.proofs.WriterLaws.{fences_stay}
use Rattle.dl_rules_ledger.proofs.laws.fences_stay.Goals as goal

pub returns : goal.returns
returns c = fences_stay

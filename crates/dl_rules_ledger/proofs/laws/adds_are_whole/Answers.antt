use Rattle.dl_rules_ledger.proofs.WriterLaws.{adds_are_whole}
use Rattle.dl_rules_ledger.proofs.laws.adds_are_whole.Goals as goal

pub returns : goal.returns
returns c = adds_are_whole

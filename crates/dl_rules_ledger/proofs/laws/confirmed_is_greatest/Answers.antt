use Rattle.dl_rules_ledger.proofs.WriterLaws.{confirmed_is_greatest}
use Rattle.dl_rules_ledger.proofs.laws.confirmed_is_greatest.Goals as goal

pub returns : goal.returns
returns c = confirmed_is_greatest

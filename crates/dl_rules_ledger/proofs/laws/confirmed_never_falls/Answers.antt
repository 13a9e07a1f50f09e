use Rattle.dl_rules_ledger.proofs.WriterLaws.{confirmed_never_falls}
use Rattle.dl_rules_ledger.proofs.laws.confirmed_never_falls.Goals as goal

pub returns : goal.returns
returns c = confirmed_never_falls

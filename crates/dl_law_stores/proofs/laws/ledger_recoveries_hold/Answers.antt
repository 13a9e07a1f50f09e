use Rattle.dl_law_stores.proofs.Tasks.{ledger_recoveries_hold}
use Rattle.dl_law_stores.proofs.laws.ledger_recoveries_hold.Goals as goal

pub returns : goal.returns
returns c = ledger_recoveries_hold

use Rattle.dl_law_meta.proofs.Stays.{made_once}
use Rattle.dl_law_meta.proofs.laws.each_ledger_is_made_once.Goals as goal

pub returns : goal.returns
returns c = made_once

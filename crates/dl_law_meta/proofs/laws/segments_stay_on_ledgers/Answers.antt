use Rattle.dl_law_meta.proofs.OnLedgers.{on_ledgers}
use Rattle.dl_law_meta.proofs.laws.segments_stay_on_ledgers.Goals as goal

pub returns : goal.returns
returns c = on_ledgers

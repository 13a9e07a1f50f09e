use Rattle.dl_law_meta.proofs.OnLedgers.{starters_stay}
use Rattle.dl_law_meta.proofs.laws.starters_stay.Goals as goal

pub returns : goal.returns
returns c = starters_stay

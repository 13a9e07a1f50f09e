use Rattle.dl_law_meta.proofs.Closings.{closed_stay}
use Rattle.dl_law_meta.proofs.laws.closed_ledgers_stay.Goals as goal

pub returns : goal.returns
returns c = closed_stay

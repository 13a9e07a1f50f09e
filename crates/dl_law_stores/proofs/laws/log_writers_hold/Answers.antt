use Rattle.dl_law_stores.proofs.Tasks.{log_writers_hold}
use Rattle.dl_law_stores.proofs.laws.log_writers_hold.Goals as goal

pub returns : goal.returns
returns c = log_writers_hold

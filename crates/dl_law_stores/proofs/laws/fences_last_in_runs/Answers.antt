use Rattle.dl_law_stores.proofs.Steps.{fences_last_in_runs}
use Rattle.dl_law_stores.proofs.laws.fences_last_in_runs.Goals as goal

pub returns : goal.returns
returns c = fences_last_in_runs

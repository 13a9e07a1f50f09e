use Rattle.dl_law_stores.proofs.Steps.{runs_keep}
use Rattle.dl_law_stores.proofs.laws.runs_keep.Goals as goal

pub returns : goal.returns
returns c = runs_keep

use Rattle.dl_law_stores.proofs.Steps.{steps_keep}
use Rattle.dl_law_stores.proofs.laws.steps_keep.Goals as goal

pub returns : goal.returns
returns c = steps_keep

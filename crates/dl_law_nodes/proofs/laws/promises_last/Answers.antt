use Rattle.dl_law_nodes.proofs.Growth.{growth_lasts}
use Rattle.dl_law_nodes.proofs.Survival.{all_promises_last}
use Rattle.dl_law_nodes.proofs.laws.promises_last.Goals as goal

pub returns-clause-growth : goal.returns-clause-growth
returns-clause-growth c = growth_lasts

pub returns-clause-promises : goal.returns-clause-promises
returns-clause-promises c = all_promises_last

use Rattle.dl_law_nodes.proofs.NodeSteps.{commits_keep}
use Rattle.dl_law_nodes.proofs.laws.commits_keep.Goals as goal

pub returns : goal.returns
returns c = commits_keep

use Rattle.dl_law_nodes.proofs.NodeSteps.{all_nodes_survive}
use Rattle.dl_law_nodes.proofs.laws.nodes_survive.Goals as goal

pub returns : goal.returns
returns c = all_nodes_survive

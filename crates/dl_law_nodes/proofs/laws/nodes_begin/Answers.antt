use Rattle.dl_law_nodes.proofs.NodeSteps.{nodes_begin}
use Rattle.dl_law_nodes.proofs.laws.nodes_begin.Goals as goal

pub returns : goal.returns
returns c = nodes_begin

use Rattle.dl_law_nodes.proofs.NodeSteps.{messages_are_taken}
use Rattle.dl_law_nodes.proofs.laws.messages_are_taken.Goals as goal

pub returns : goal.returns
returns c = messages_are_taken

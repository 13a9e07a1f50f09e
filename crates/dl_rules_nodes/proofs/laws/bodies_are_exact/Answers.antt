use Rattle.dl_rules_nodes.proofs.ItemLaws.{bodies_are_exact}
use Rattle.dl_rules_nodes.proofs.laws.bodies_are_exact.Goals as goal

pub returns : goal.returns
returns c = bodies_are_exact

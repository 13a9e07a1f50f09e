use Rattle.dl_rules_nodes.proofs.ItemLaws.{items_are_exact}
use Rattle.dl_rules_nodes.proofs.laws.items_are_exact.Goals as goal

pub returns : goal.returns
returns c = items_are_exact

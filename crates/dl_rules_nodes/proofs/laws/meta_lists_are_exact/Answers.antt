use Rattle.dl_rules_nodes.proofs.MetaItemLaws.{meta_lists_are_exact}
use Rattle.dl_rules_nodes.proofs.laws.meta_lists_are_exact.Goals as goal

pub returns : goal.returns
returns c = meta_lists_are_exact

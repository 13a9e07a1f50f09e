use Rattle.dl_rules_nodes.proofs.ItemLaws.{lengths_are_of_bytes}
use Rattle.dl_rules_nodes.proofs.laws.lengths_are_of_bytes.Goals as goal

pub returns : goal.returns
returns c = lengths_are_of_bytes

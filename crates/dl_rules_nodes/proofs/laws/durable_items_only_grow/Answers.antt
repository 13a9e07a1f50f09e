use Rattle.dl_rules_nodes.proofs.BookieLaws.{durable_items_only_grow}
use Rattle.dl_rules_nodes.proofs.laws.durable_items_only_grow.Goals as goal

pub returns : goal.returns
returns c = durable_items_only_grow

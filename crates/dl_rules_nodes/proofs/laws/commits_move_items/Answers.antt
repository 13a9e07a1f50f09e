use Rattle.dl_rules_nodes.proofs.BookieLaws.{commits_move_items}
use Rattle.dl_rules_nodes.proofs.laws.commits_move_items.Goals as goal

pub returns : goal.returns
returns c = commits_move_items

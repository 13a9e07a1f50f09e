use Rattle.dl_rules_nodes.proofs.BookieLaws.{fences_stay}
use Rattle.dl_rules_nodes.proofs.laws.fences_stay.Goals as goal

pub returns : goal.returns
returns c = fences_stay

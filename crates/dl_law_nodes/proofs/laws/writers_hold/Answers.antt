use Rattle.dl_law_nodes.proofs.Tasks.{all_writers_hold}
use Rattle.dl_law_nodes.proofs.laws.writers_hold.Goals as goal

pub returns : goal.returns
returns c = all_writers_hold

use Rattle.dl_law_nodes.proofs.Tasks.{all_recoveries_hold}
use Rattle.dl_law_nodes.proofs.laws.recoveries_hold.Goals as goal

pub returns : goal.returns
returns c = all_recoveries_hold

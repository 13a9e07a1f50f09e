use Rattle.dl_law_nodes.proofs.Meetings.{seals_end_storing}
use Rattle.dl_law_nodes.proofs.laws.seals_end_storing.Goals as goal

pub returns : goal.returns
returns c = seals_end_storing

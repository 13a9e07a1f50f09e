use Rattle.dl_law_nodes.proofs.Meetings.{stored_is_replicated}
use Rattle.dl_law_nodes.proofs.laws.stored_is_replicated.Goals as goal

pub returns : goal.returns
returns c = stored_is_replicated

use Rattle.dl_law_nodes.proofs.Meetings.{all_fences_last, covers_seal}
use Rattle.dl_law_nodes.proofs.laws.fences_last.Goals as goal

pub returns-clause-last : goal.returns-clause-last
returns-clause-last c = all_fences_last

pub returns-clause-cover : goal.returns-clause-cover
returns-clause-cover c = covers_seal

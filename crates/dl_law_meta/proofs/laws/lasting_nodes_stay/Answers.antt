use Rattle.dl_law_meta.proofs.Stays.{lasting_stay}
use Rattle.dl_law_meta.proofs.laws.lasting_nodes_stay.Goals as goal

pub returns : goal.returns
returns c = lasting_stay

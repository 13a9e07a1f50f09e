use Rattle.dl_tree.proofs.LawLemmas.{owner_law}
use Rattle.dl_tree.proofs.laws.owner_stays.Goals as goal

pub returns : goal.returns
returns c = owner_law

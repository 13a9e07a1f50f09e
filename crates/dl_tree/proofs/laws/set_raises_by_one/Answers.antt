use Rattle.dl_tree.proofs.LawLemmas.{set_law}
use Rattle.dl_tree.proofs.laws.set_raises_by_one.Goals as goal

pub returns : goal.returns
returns c = set_law

use Rattle.dl_tree.proofs.PartLemmas.{parts_found}
use Rattle.dl_tree.proofs.laws.parts_are_found.Goals as goal

pub returns : goal.returns
returns c = parts_found

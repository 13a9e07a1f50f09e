use Rattle.dl_tree.proofs.LawLemmas.{whole}
use Rattle.dl_tree.proofs.laws.failed_is_nothing.Goals as goal

pub returns : goal.returns
returns c = whole

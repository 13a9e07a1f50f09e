use Rattle.dl_meta.proofs.Trees.{ledgers_spelt}
use Rattle.dl_meta.proofs.first_tree.ledgers_path.Goals as goal

pub returns : goal.returns
returns c = rw ledgers_spelt c.new.ensures

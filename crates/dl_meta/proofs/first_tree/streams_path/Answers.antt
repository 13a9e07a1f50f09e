use Rattle.dl_meta.proofs.Trees.{streams_spelt}
use Rattle.dl_meta.proofs.first_tree.streams_path.Goals as goal

pub returns : goal.returns
returns c = rw streams_spelt c.new.ensures

use Rattle.dl_law_meta.proofs.Moves.{each_moves}
use Rattle.dl_law_meta.proofs.laws.each_item_moves.Goals as goal

pub returns : goal.returns
returns c = each_moves

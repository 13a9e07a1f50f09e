use Rattle.dl_quorum.proofs.PieceLemmas.{covers-places}
use Rattle.dl_quorum.proofs.laws.covers_are_of_places.Goals as goal

pub returns : goal.returns
returns c = covers-places

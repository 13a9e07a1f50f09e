use Rattle.dl_journal.proofs.InPlace.{in_place}
use Rattle.dl_journal.proofs.laws.bodies_are_in_place.Goals as goal

pub returns : goal.returns
returns c = in_place

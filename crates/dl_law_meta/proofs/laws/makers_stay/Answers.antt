use Rattle.dl_law_meta.proofs.Stays.{makers_stay}
use Rattle.dl_law_meta.proofs.laws.makers_stay.Goals as goal

pub returns : goal.returns
returns c = makers_stay

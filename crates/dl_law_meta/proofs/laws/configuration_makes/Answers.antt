use Rattle.dl_law_meta.proofs.Moves.{configuration}
use Rattle.dl_law_meta.proofs.laws.configuration_makes.Goals as goal

pub returns : goal.returns
returns c = configuration

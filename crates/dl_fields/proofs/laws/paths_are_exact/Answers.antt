use Rattle.dl_fields.proofs.PathLemmas.{paths_exact}
use Rattle.dl_fields.proofs.laws.paths_are_exact.Goals as goal

pub returns : goal.returns
returns c = paths_exact

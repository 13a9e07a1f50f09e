use Rattle.dl_formats.proofs.KeyLemmas.{by_parents}
use Rattle.dl_formats.proofs.laws.paths_go_by_parents.Goals as goal

pub returns : goal.returns
returns c = by_parents

use Rattle.dl_law_meta.proofs.Stays.{looks_stay}
use Rattle.dl_law_meta.proofs.laws.looks_stay_while_maxseq_stands.Goals as goal

pub returns : goal.returns
returns c = looks_stay

use Rattle.dl_law_legal.proofs.Parts.{legal_in_part}
use Rattle.dl_law_legal.proofs.laws.legal_in_part.Goals as goal

pub returns : goal.returns
returns c = legal_in_part

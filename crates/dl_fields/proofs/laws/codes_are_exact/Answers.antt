use Rattle.dl_fields.proofs.CodeLemmas.{codes_exact}
use Rattle.dl_fields.proofs.laws.codes_are_exact.Goals as goal

pub returns : goal.returns
returns g c = codes_exact g.K.Code.code

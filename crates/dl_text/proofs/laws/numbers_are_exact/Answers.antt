use Rattle.dl_text.proofs.NumberLemmas.{number_exact}
use Rattle.dl_text.proofs.laws.numbers_are_exact.Goals as goal

pub returns : goal.returns
returns c = number_exact

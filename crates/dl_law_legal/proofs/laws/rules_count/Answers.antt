use Rattle.dl_law_legal.proofs.Words.{rules_count}
use Rattle.dl_law_legal.proofs.laws.rules_count.Goals as goal

pub returns : goal.returns
returns c = rules_count

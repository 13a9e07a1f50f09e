use Rattle.dl_text.proofs.WordLemmas.{listed_exact}
use Rattle.dl_text.proofs.laws.words_are_exact.Goals as goal

pub returns : goal.returns
returns g c = listed_exact g.W.Word.text

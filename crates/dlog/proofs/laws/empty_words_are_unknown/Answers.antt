use Rattle.dlog.proofs.Reading.{empty_unknown}
use Rattle.dlog.proofs.laws.empty_words_are_unknown.Goals as goal

pub returns : goal.returns
returns c = empty_unknown

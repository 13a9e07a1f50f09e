use Rattle.dlog.proofs.Reading.{lines_read}
use Rattle.dlog.proofs.laws.lines_are_read.Goals as goal

pub returns : goal.returns
returns c = lines_read

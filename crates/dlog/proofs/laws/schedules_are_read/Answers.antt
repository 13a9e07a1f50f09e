use Rattle.dlog.proofs.Reading.{schedules_read}
use Rattle.dlog.proofs.laws.schedules_are_read.Goals as goal

pub returns : goal.returns
returns c = schedules_read

use Rattle.dl_journal.proofs.Standing.{left_standing}
use Rattle.dl_journal.proofs.laws.journals_are_left_standing.Goals as goal

pub returns : goal.returns
returns g c = left_standing _ _

use Rattle.dl_machine.proofs.SessionLaws.{sessions_are_given}
use Rattle.dl_machine.proofs.laws.sessions_are_given.Goals as goal

pub returns : goal.returns
returns c = sessions_are_given

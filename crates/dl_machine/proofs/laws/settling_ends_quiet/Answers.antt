use Rattle.dl_machine.proofs.Settlings.{settling_ends_quiet}
use Rattle.dl_machine.proofs.laws.settling_ends_quiet.Goals as goal

pub returns : goal.returns
returns c = settling_ends_quiet

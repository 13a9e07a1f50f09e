use Rattle.dl_machine.proofs.FateLaws.{failures_aside}
use Rattle.dl_machine.proofs.laws.failures_aside.Goals as goal

pub returns : goal.returns
returns c = failures_aside

use Rattle.dlog.proofs.Legality.{every_run}
use Rattle.dlog.proofs.laws.every_run_is_legal.Goals as goal

pub returns : goal.returns
returns c = every_run

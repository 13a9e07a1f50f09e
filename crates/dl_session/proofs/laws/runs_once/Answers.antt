use Rattle.dl_session.proofs.RunLemmas.{runs}
use Rattle.dl_session.proofs.laws.runs_once.Goals as goal

pub returns : goal.returns
returns c = runs

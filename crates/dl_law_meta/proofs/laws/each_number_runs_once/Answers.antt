use Rattle.dl_law_meta.proofs.Runs.{runs_once}
use Rattle.dl_law_meta.proofs.laws.each_number_runs_once.Goals as goal

pub returns : goal.returns
returns c = runs_once

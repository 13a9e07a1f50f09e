use Rattle.dl_machine.proofs.RunLaws.{runs_are_folds}
use Rattle.dl_machine.proofs.laws.runs_are_folds.Goals as goal

pub returns : goal.returns
returns c = runs_are_folds

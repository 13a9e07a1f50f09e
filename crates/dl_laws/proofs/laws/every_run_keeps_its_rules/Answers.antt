use Rattle.dl_laws.proofs.RunLaws.{every_run_keeps_its_rules}
use Rattle.dl_laws.proofs.laws.every_run_keeps_its_rules.Goals as goal

pub returns : goal.returns
returns c = every_run_keeps_its_rules

use Rattle.dl_transcript.proofs.Rules.{rules_bind}
use Rattle.dl_transcript.proofs.laws.each_rule_binds.Goals as goal

pub returns : goal.returns
returns c = rules_bind

use Rattle.dl_rules_stream.proofs.LogLaws.{entries_are_sent}
use Rattle.dl_rules_stream.proofs.laws.entries_are_sent.Goals as goal

pub returns : goal.returns
returns c = entries_are_sent

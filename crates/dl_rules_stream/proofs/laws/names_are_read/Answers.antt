use Rattle.dl_rules_stream.proofs.NameLaws.{names_are_read}
use Rattle.dl_rules_stream.proofs.laws.names_are_read.Goals as goal

pub returns : goal.returns
returns c = names_are_read

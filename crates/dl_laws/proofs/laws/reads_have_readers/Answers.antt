use Rattle.dl_laws.proofs.RunLaws.{reads_have_readers}
use Rattle.dl_laws.proofs.laws.reads_have_readers.Goals as goal

pub returns : goal.returns
returns c = reads_have_readers

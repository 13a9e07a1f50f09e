use Rattle.dl_session.proofs.RunLemmas.{never_again}
use Rattle.dl_session.proofs.laws.never_again.Goals as goal

pub returns : goal.returns
returns c = never_again

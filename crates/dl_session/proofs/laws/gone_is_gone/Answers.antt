use Rattle.dl_session.proofs.RunLemmas.{gone-after}
use Rattle.dl_session.proofs.laws.gone_is_gone.Goals as goal

pub returns : goal.returns
returns c = gone-after

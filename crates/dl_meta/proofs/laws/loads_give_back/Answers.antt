use Rattle.dl_meta.proofs.GivingBack.{gives_back}
use Rattle.dl_meta.proofs.laws.loads_give_back.Goals as goal

pub returns : goal.returns
returns c = gives_back

use Rattle.dl_meta.proofs.GivingBack.{damage_is_one}
use Rattle.dl_meta.proofs.laws.damage_is_one.Goals as goal

pub returns : goal.returns
returns c = damage_is_one

use Rattle.dl_quorum.proofs.BitLemmas.{holds-with}
use Rattle.dl_quorum.proofs.place_set.PlaceSet.with.Goals as goal

pub returns : goal.returns
returns c other = rw (← c.self.view_is) (holds-with c.self.inside.bits c.args.place other c.requires)

use Rattle.dl_session.proofs.RunLemmas.{old_live}
use Rattle.dl_base_rows.proofs.session.number_of.Goals as goal

pub number-requires : goal.number-requires
number-requires c = old_live _ _ c.in-Old.ensures

use Rattle.dl_laws.proofs.RunLaws.{sessions_join_in_order}
use Rattle.dl_laws.proofs.laws.sessions_join_in_order.Goals as goal

pub returns : goal.returns
returns c = sessions_join_in_order

use Rattle.dl_law_meta.proofs.Moves.{members_alone}
use Rattle.dl_law_meta.proofs.laws.members_alone_have_owners.Goals as goal

pub returns : goal.returns
returns c = members_alone

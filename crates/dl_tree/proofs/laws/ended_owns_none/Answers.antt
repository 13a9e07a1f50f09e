use Rattle.dl_tree.proofs.LawLemmas.{ended_own, request_owns_none, ended_other}
use Rattle.dl_tree.proofs.laws.ended_owns_none.Goals as goal

pub returns : goal.returns
returns c = (ended_own, λ t session other op apart none. request_owns_none t session other op apart none, ended_other)

use Rattle.dl_quorum.proofs.WriteSetLemmas.{quorums_meet}
use Rattle.dl_quorum.proofs.laws.acks_meet_denials.Goals as goal

pub returns : goal.returns
returns c = quorums_meet

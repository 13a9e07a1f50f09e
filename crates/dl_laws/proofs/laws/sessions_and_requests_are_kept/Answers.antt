use Rattle.dl_laws.proofs.RunLaws.{sessions_and_requests_are_kept}
use Rattle.dl_laws.proofs.laws.sessions_and_requests_are_kept.Goals as goal

pub returns : goal.returns
returns c = sessions_and_requests_are_kept

use Rattle.dl_transcript.proofs.Runs.{first_fault-append}
use Rattle.dl_transcript.proofs.laws.legal_goes_on.Goals as goal

pub returns : goal.returns
returns c = first_fault-append

use Rattle.dl_quorum.proofs.WriteSetLemmas.{length-write_set, write_set-distinct}
use Rattle.dl_quorum.proofs.laws.write_set_places_differ.Goals as goal

pub returns-clause-size : goal.returns-clause-size
returns-clause-size c = length-write_set

pub returns-clause-differ : goal.returns-clause-differ
returns-clause-differ c = write_set-distinct

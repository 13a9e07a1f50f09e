use Rattle.dl_reading.proofs.ReadingLemmas.{bind_ok, bind_err}
use Rattle.dl_reading.proofs.laws.first_fault_wins.Goals as goal

pub returns : goal.returns
returns _ c = record { value = bind_ok; fault = bind_err }

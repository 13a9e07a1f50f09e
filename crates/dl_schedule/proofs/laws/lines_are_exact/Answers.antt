use Rattle.dl_schedule.proofs.StepExactness.{step_exact}
use Rattle.dl_schedule.proofs.WholeLines.{reading_found, reading_again, reading_stops}
use Rattle.dl_schedule.proofs.laws.lines_are_exact.Goals as goal

pub returns : goal.returns
returns c = record { found = reading_found step_exact; again = reading_again step_exact; stops = reading_stops step_exact }

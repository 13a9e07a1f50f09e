use Rattle.dl_events.proofs.WholeLines.{reading_found, reading_again, reading_stops}
use Rattle.dl_events.proofs.laws.events_are_exact.Goals as goal

pub returns : goal.returns
returns c = record { found = reading_found; again = reading_again; stops = reading_stops }

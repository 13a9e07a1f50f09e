use Rattle.dl_schedule.proofs.EarlyLemmas.{parsed_found, parsed_again, parsed_stops}
use Rattle.dl_schedule.proofs.laws.early_lines_are_exact.Goals as goal

pub returns : goal.returns
returns c = record { found = parsed_found; again = parsed_again; stops = parsed_stops }

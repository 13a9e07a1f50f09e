use Rattle.dl_law_meta.proofs.Readings.{readings_stay}
use Rattle.dl_law_meta.proofs.laws.each_reading_stays.Goals as goal

pub returns : goal.returns
returns c = readings_stay

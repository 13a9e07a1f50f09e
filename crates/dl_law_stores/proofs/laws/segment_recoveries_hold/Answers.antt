use Rattle.dl_law_stores.proofs.Segments.{segment_recoveries_hold}
use Rattle.dl_law_stores.proofs.laws.segment_recoveries_hold.Goals as goal

pub returns : goal.returns
returns c = segment_recoveries_hold

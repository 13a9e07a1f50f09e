use Rattle.dl_requests.proofs.NumberLemmas.{segment_same}
use Rattle.dl_requests.proofs.numbers.segment_in.Goals as goal

pub returns : goal.returns
returns c = segment_same _ _ c.read_segment.ensures.found c.read_segment.ensures.only

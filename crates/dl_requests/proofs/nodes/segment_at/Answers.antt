use Rattle.dl_formats.proofs.Exactness.{segment_exact}
use Rattle.dl_requests.proofs.ReadLemmas.{read_same}
use Rattle.dl_requests.proofs.nodes.segment_at.Goals as goal

pub returns-clause-value : goal.returns-clause-value
returns-clause-value c = read_same segment_exact _ _ c.decode_segment.ensures

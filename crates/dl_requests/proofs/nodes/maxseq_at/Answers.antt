use Rattle.dl_formats.proofs.Exactness.{maxseq_exact}
use Rattle.dl_requests.proofs.ReadLemmas.{read_same}
use Rattle.dl_requests.proofs.nodes.maxseq_at.Goals as goal

pub returns-clause-value : goal.returns-clause-value
returns-clause-value c = read_same maxseq_exact _ _ c.decode_maxseq.ensures

use Rattle.dl_formats.proofs.Exactness.{cut_exact}
use Rattle.dl_requests.proofs.ReadLemmas.{read_same}
use Rattle.dl_requests.proofs.nodes.cut_at.Goals as goal

pub returns : goal.returns
returns c = read_same cut_exact _ _ c.decode_cut.ensures

use Rattle.dl_formats.proofs.Exactness.{alloc_exact}
use Rattle.dl_requests.proofs.ReadLemmas.{read_same}
use Rattle.dl_requests.proofs.nodes.alloc_at.Goals as goal

pub returns : goal.returns
returns c = read_same alloc_exact _ _ c.decode_alloc.ensures

use Rattle.dl_law_meta.proofs.Requests.{each_leaves}
use Rattle.dl_law_meta.proofs.laws.each_request_leaves.Goals as goal

pub returns : goal.returns
returns c = each_leaves

use Rattle.dl_tree_msg.proofs.RequestLemmas.{op_exact, request_exact}
use Rattle.dl_tree_msg.proofs.laws.requests_are_exact.Goals as goal

pub returns : goal.returns
returns c = record { one = op_exact; request = request_exact }

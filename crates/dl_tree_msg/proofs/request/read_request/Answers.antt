use Rattle.std.proofs.Common.{arith}
use Rattle.dl_tree_msg.specs.Rules.{allows}
use Rattle.dl_tree_msg.proofs.RequestLemmas.{request_exact}
use Rattle.dl_tree_msg.proofs.request.read_request.Goals as goal

pub returns-clause-found : goal.returns-clause-found
returns-clause-found c =
    let f = (request_exact (allows c.args.rule)).found c.args.bytes.now c.in_ok-op.op c.in_ok-op.rest.now
    (λ i. omega (arith, c.type_inv.bytes i)) c.in_ok-op.ensures in
    (f.0.0, f.1)

pub returns-clause-allowed : goal.returns-clause-allowed
returns-clause-allowed c =
    ((request_exact (allows c.args.rule)).found c.args.bytes.now c.in_ok-op.op c.in_ok-op.rest.now
    (λ i. omega (arith, c.type_inv.bytes i)) c.in_ok-op.ensures).0.1

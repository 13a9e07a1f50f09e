use Rattle.std.proofs.Common.{ℕ, IfOk, subst}
use Rattle.dl_lrecover.specs.Standing.{IsMove, args_of}
use Rattle.dl_rules_stream.specs.Orders.{Next}
use Rattle.dl_rules_stream.specs.LedgerRecoveries as rule
use Rattle.dl_requests.specs.LedgerNodes.{node_of_meta}
use Rattle.dl_lrecover.proofs.Moves.{read_node, unread_node}
use Rattle.dl_lrecover.proofs.answers.after_bytes.Goals as goal

pub returns-in-Some : goal.returns-in-Some
returns-in-Some c old node =
    let x = args_of c.args.target.now in
    let m = node_of_meta c.in-Some.meta in
    subst (λ (move : rule.RecoveryStage × Next ℕ). IfOk c.after_node.result (IsMove x move))
    (read_node x old c.args.bytes.now c.args.version m (c.in-Some.ensures.value x.ledger))
    (c.after_node.ensures m c.locate-node.ensures)

pub returns-in-None : goal.returns-in-None
returns-in-None c old node =
    let x = args_of c.args.target.now in
    subst (λ (move : rule.RecoveryStage × Next ℕ). IfOk c.gives_up.result (IsMove x move))
    (unread_node x old c.args.bytes.now c.args.version (c.in-None.ensures.value x.ledger))
    (c.gives_up.ensures (rule.WasRefused old) node)

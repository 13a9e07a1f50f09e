use Rattle.std.proofs.Common.{◌≡◌, ℕ, suc, ◌-◌, IfOk, sym, ap, ◌∙◌, subst, arith}
use Rattle.dl_rules_stream.specs.Nodes.{LedgerNode}
use Rattle.dl_rules_stream.specs.Orders.{Next}
use Rattle.dl_rules_stream.specs.SegmentRecoveries as rule
use Rattle.dl_segrecover.specs.Standing.{IsMove}
use Rattle.dl_segrecover.proofs.Moves.{closed_empty, closed_some}
use Rattle.dl_segrecover.proofs.answers.after_closed.Goals as goal

pub returns-then-count-eq0 : goal.returns-then-count-eq0
returns-then-count-eq0 c from m node =
    let x = c.args.given.now in
    let none : m.count ≡ 0 = sym (ap (λ (n : LedgerNode). n.count) node.node) ∙ c.if-count-eq0.true in
    subst (λ (to : rule.SegmentStage × Next rule.Recovered). IfOk c.completes.result (IsMove x from to))
    (closed_empty x c.args.ledger _ m c.last.ensures none) (c.completes.ensures from)

pub returns-else-count-eq0 : goal.returns-else-count-eq0
returns-else-count-eq0 c from m node =
    let x = c.args.given.now in
    let some : m.count ≡ suc (c.args.node.now.meta.count - 1) =
    omega (arith, ap (λ (n : LedgerNode). n.count) node.node, c.if-count-eq0.false) in
    subst (λ (to : rule.SegmentStage × Next rule.Recovered). IfOk c.fetches.result (IsMove x from to))
    (closed_some x c.args.ledger m _ some) (c.fetches.ensures from m node)

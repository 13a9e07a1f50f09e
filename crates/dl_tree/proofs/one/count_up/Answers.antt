use Rattle.std.proofs.Common.{◌≡◌, ℕ, ◌+◌, List, Bool, cond, Some, sym, ap, ◌∙◌, false}
use Rattle.std.specs.FinMap.{get, insert}
use Rattle.dl_types.specs.declared.mode.Mode.{Mode}
use Rattle.dl_tree.specs.declared.node.Node.{Node}
use Rattle.dl_tree.specs.Trees.{Nodes, is_counted, parent_after}
use Rattle.dl_tree.proofs.MapLemmas.{put_again}
use Rattle.dl_tree.proofs.one.count_up.Goals as goal

-- a parent whose counter stays, put where it is, leaves the tree
uncounted : (t : Nodes) (p : List ℕ) (mode : Mode) (parent : Node) → is_counted mode ≡ false → get t p ≡ Some parent → insert t p (parent_after mode parent) ≡ t
uncounted t p mode parent plain is =
    ap (λ (b : Bool). insert t p (record parent { counter = cond b (parent.counter + 1) parent.counter })) plain ∙ put_again t p (Some parent) is

pub returns-else-is_counted-clause-ok : goal.returns-else-is_counted-clause-ok
returns-else-is_counted-clause-ok c =
    let same = uncounted c.args.nodes.now.0 c.args.above.now c.args.mode c.args.parent (sym c.is_counted.ensures ∙ c.if-is_counted.false) c.requires.there in
    λ i. (sym same i, c.args.nodes.now.1)

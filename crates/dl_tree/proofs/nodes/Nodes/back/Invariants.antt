use Rattle.std.proofs.Common.{◌≡◌, vec_len}
use Rattle.dl_tree.specs.Slots.{tree_in, tree_before, Covers}
use Rattle.dl_tree.proofs.nodes.Nodes.back.Given as goal

abbrev pub invariant-loop-change : goal.invariant-loop-change
invariant-loop-change l =
    (tree_before (tree_in l.self-inside.slots.entries) l.self-inside.changes.items ≡ l.fn.self.1)
    × Covers l.self-inside.slots.entries l.self-inside.changes.items

abbrev pub decreases-loop-change : goal.decreases-loop-change
decreases-loop-change l = vec_len l.self-inside.changes

use Rattle.std.proofs.Common.{◌≡◌, vec_len}
use Rattle.dl_tree.specs.Slots.{tree_in}
use Rattle.dl_tree.proofs.nodes.sweep_all.Given as goal

abbrev pub invariant-loop-path : goal.invariant-loop-path
invariant-loop-path l = tree_in l.slots.entries ≡ tree_in l.fn.slots.entries

abbrev pub decreases-loop-path : goal.decreases-loop-path
decreases-loop-path l = vec_len l.paths

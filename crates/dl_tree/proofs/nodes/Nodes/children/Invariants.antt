use Rattle.std.proofs.Common.{◌≡◌, ◌++◌}
use Rattle.dl_tree.specs.Paths.{below}
use Rattle.dl_tree.specs.Slots.{names_in}
use Rattle.dl_tree.specs.Trees.{child_names}
use Rattle.dl_tree.proofs.nodes.Nodes.children.Given as goal

abbrev pub invariant-loop-child : goal.invariant-loop-child
invariant-loop-child l = l.names.items ++ names_in (below l.path) l.child-iterator ≡ child_names l.self.0 l.path

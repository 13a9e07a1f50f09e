use Rattle.std.proofs.Common.{◌≡◌, ◌+◌, ◌*◌, ◌≤◌, length, drop}
use Rattle.std.specs.List.{flat_map}
use Rattle.dl_tree_msg.proofs.items.size_of_items.Given as goal

abbrev pub invariant-loop-item : goal.invariant-loop-item
invariant-loop-item g l = record {
  left : l.total + length (flat_map g.T.Item.spelling (drop l.item-index l.items)) ≡ length (flat_map g.T.Item.spelling l.items);
  low : l.total ≤ g.T.Item.most * l.item-index;
}

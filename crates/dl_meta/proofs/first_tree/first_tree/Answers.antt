use Rattle.dl_meta.proofs.Trees.{conf_new, streams_new, ledgers_new}
use Rattle.dl_meta.proofs.first_tree.first_tree.Goals as goal

pub add_node-requires : goal.add_node-requires
add_node-requires c = conf_new _ _ c.in_ok-tree.ensures c.in_ok-path.ensures

pub add_node-requires-2 : goal.add_node-requires-2
add_node-requires-2 c = streams_new _ _ _ _ _ c.in_ok-tree.ensures c.in_ok-path.ensures c.in_ok-add_node.ensures c.in_ok-path-2.ensures

pub add_node-requires-3 : goal.add_node-requires-3
add_node-requires-3 c = ledgers_new _ _ _ _ _ _ _ _ c.in_ok-tree.ensures c.in_ok-path.ensures c.in_ok-add_node.ensures c.in_ok-path-2.ensures
    c.in_ok-add_node-2.ensures c.in_ok-path-3.ensures

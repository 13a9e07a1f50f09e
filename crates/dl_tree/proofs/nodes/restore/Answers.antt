use Rattle.std.proofs.Common.{rules}
use Rattle.dl_tree.proofs.SlotLemmas.{tree_in-written, has_slot-written}
use Rattle.dl_tree.proofs.nodes.restore.Goals as goal

pub returns-in-Some-clause-tree : goal.returns-in-Some-clause-tree
returns-in-Some-clause-tree c =
    tree_in-written c.args.slots.now (c.get_mut.follows.lender c.args.before) c.args.path.now c.args.before
    ((c.get_mut.follows.holds c.args.before).3 (search rules))

pub returns-in-Some-clause-kept : goal.returns-in-Some-clause-kept
returns-in-Some-clause-kept c =
    has_slot-written c.args.slots.now (c.get_mut.follows.lender c.args.before) c.args.path.now c.args.before
    ((c.get_mut.follows.holds c.args.before).3 (search rules))

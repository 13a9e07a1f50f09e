use Rattle.std.proofs.Common.{sym, ap, ◌∙◌, Some}
use Rattle.dl_tree.proofs.SlotLemmas.{tree_in-swept}
use Rattle.dl_tree.proofs.nodes.sweep.Goals as goal

pub returns-in-Some-None : goal.returns-in-Some-None
returns-in-Some-None c =
    tree_in-swept c.args.slots.now c.remove.new.self _ (sym c.in-Some-None.ensures.value ∙ ap Some c.in-Some-None.field-0-is) c.remove.ensures.updates

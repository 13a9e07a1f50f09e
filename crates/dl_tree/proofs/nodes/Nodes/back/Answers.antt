use Rattle.std.proofs.Common.{subst}
use Rattle.dl_tree.specs.Slots.{Covers}
use Rattle.dl_tree.proofs.SlotLemmas.{Covers-fewer, stepped_back}
use Rattle.dl_tree.proofs.nodes.Nodes.back.Goals as goal

pub undo-requires : goal.undo-requires
undo-requires c = (Covers-fewer _ _ _ (subst (Covers c.loop-change.self-inside.slots.entries) c.in-Some.ensures.items c.loop-change.invariant.1)).1

pub loop-change-preserved : goal.loop-change-preserved
loop-change-preserved c = stepped_back _ _ _ _ _ _ c.in-Some.ensures.items c.undo.ensures.tree c.undo.ensures.kept c.loop-change.invariant

use Rattle.std.proofs.Common.{sym, ◌∙◌}
use Rattle.dl_tree.proofs.SlotLemmas.{found}
use Rattle.dl_tree.proofs.nodes.Nodes.get.Goals as goal

pub returns-in-Some-Some : goal.returns-in-Some-Some
returns-in-Some-Some c = sym c.in-Some-Some.field-0-is ∙ found _ _ _ _ _ c.self.view_is c.in-Some-Some.ensures.value

pub returns-in-Some-None : goal.returns-in-Some-None
returns-in-Some-None c = sym c.in-Some-None.field-0-is ∙ found _ _ _ _ _ c.self.view_is c.in-Some-None.ensures.value

pub returns-in-None : goal.returns-in-None
returns-in-None c = found _ _ _ _ _ c.self.view_is c.in-None.ensures.value

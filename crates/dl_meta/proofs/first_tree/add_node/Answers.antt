use Rattle.std.proofs.Common.{sym, ap, ◌∙◌}
use Rattle.dl_types.specs.declared.meta_answer.MetaAnswer.{MetaAnswer}
use Rattle.dl_tree.specs.Trees.{Nodes}
use Rattle.dl_meta.proofs.Trees.{created_below}
use Rattle.dl_meta.proofs.first_tree.add_node.Goals as goal

pub returns : goal.returns
returns c = sym (ap (λ (p : MetaAnswer × Nodes). p.1) c.in_ok-apply.ensures.ok) ∙ created_below c.args.tree.now c.args.path c.args.bytes c.requires

use Rattle.std.proofs.Common.{rules, not, ◌||◌, is_none}
use Rattle.std.proofs.lemmas.Map.Made.{filter_same_pairs}
use Rattle.dl_tree.specs.Trees.{is_owned}
use Rattle.dl_tree.proofs.SlotLemmas.{dropped}
use Rattle.dl_tree.proofs.nodes.Nodes.drop_owned.Goals as goal

pub returns : goal.returns
returns c =
    let left = filter_same_pairs _ (λ e. not (is_owned c.args.session e.1 || is_none e.1)) _ (λ k v b w f' t. search rules) _ _ c.retain.ensures.filtered in
    dropped _ _ _ _ _ _ c.clear.ensures.items c.retain.ensures.was_ordered left c.self.view_is

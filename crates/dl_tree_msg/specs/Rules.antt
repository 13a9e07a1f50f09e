-- Which nodes a request may delete or set.
use Rattle.std.specs.Prelude.{ℕ, Bool, true, not, List, codes, bytes_eq}
use Rattle.dl_tree_msg.specs.declared.rule.PathRule.{PathRule}
use Rattle.dl_tree_msg.specs.declared.rule.PathRule.TheVariants.{All, AllButConf}

-- whether the node of a path may be deleted or set
abbrev pub allows : PathRule → List ℕ → Bool
allows All path = true
allows AllButConf path = not (bytes_eq path (codes "/conf"))

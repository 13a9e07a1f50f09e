-- How the first tree grows.
use Rattle.std.specs.Prelude.{◌≡◌, false, List, ℕ, Some, None, bytes_eq}
use Rattle.std.specs.FinMap.{get}
use Rattle.dl_tree.specs.declared.node.Node.{Node}
use Rattle.dl_tree.specs.Paths.{root, parent_of}
use Rattle.dl_tree.specs.Trees.{Nodes}

-- the root of a tree is there, and lasts
pub record HasRoot (t : Nodes) : Type 0 where
  pub node : Node
  pub there : get t root ≡ Some node
  pub lasts : node.owner ≡ None

-- a path right below the root at which nothing stands
pub record IsNewBelowRoot (t : Nodes) (path : List ℕ) : Type 0 where
  pub above : HasRoot t
  pub parent : parent_of path ≡ root
  pub other : bytes_eq path root ≡ false
  pub free : get t path ≡ None

-- What a metadata store leaves on its file is loaded again as it was.
use Rattle.std.specs.Prelude.{◌≡◌, ◌<◌, ℕ, List, length}
use Rattle.dl_rules_nodes.specs.Metadata.{MetaNode}
use Rattle.dl_rules_nodes.specs.MetaOrder.{AreInOrder}
use Rattle.dl_meta.specs.Standing.{HoldsItems}
use Rattle.dl_meta.specs.Loading.{HoldsNone, IsDamagedAt}

-- These bytes are not damaged, they hold some item, and they are those of no other node.
pub record IsOnly (n : MetaNode) (bytes : List ℕ) : Type 0 where
  pub whole : (at : ℕ) → IsDamagedAt bytes at → ⊥
  pub some : HoldsNone bytes → ⊥
  pub only : (m : MetaNode) → AreInOrder m.items → HoldsItems m bytes → m ≡ n

-- bytes that hold the items of a node are loaded as that node
abbrev pub GivesBack : Type 0
GivesBack = (n : MetaNode) (bytes : List ℕ) → AreInOrder n.items → 0 < length n.items → HoldsItems n bytes → IsOnly n bytes

-- Bytes are damaged at no more than one place, and those that hold no item are whole.
pub record DamageIsOne : Type 0 where
  pub one_place : (bytes : List ℕ) (a b : ℕ) → IsDamagedAt bytes a → IsDamagedAt bytes b → a ≡ b
  pub whole : (bytes : List ℕ) (at : ℕ) → HoldsNone bytes → IsDamagedAt bytes at → ⊥

-- Nodes of the metadata tree by their keys: what stood there, and what stands there now.
use Rattle.std.specs.Prelude.{◌≡◌, ℕ, ◌+◌, Bool, true, not, ◌&&◌, List, [], ◌∷◌, Option, Some, None}
use Rattle.std.specs.FinMap.{get}
use Rattle.dl_fields.specs.Digits.{HasTenDigits}
use Rattle.dl_tree.specs.declared.node.Node.{Node}
use Rattle.dl_tree.specs.Trees.{Nodes}
use Rattle.dl_tree.specs.Laws.{set_node}
use Rattle.dl_formats.specs.Keys.{Key, path_of, is_key, IsKey}

-- the node at a key, where one is there
abbrev pub node : Nodes → Key → Option Node
node t k = get t (path_of k)

-- a key is none of these
abbrev pub is_apart : Key → List Key → Bool
is_apart m [] = true
is_apart m (k ∷ ks) = not (is_key m k) && is_apart m ks

-- At every key but these stands what stood there.
pub record OthersStay (t u : Nodes) (ks : List Key) : Type 0 where
  pub same : (m : Key) → IsKey m → is_apart m ks ≡ true → node u m ≡ node t m

-- a new node with these bytes, which no session owns
abbrev pub lasting : List ℕ → Node
lasting bytes = record { bytes = bytes; version = 0; owner = None; counter = 0 }

-- a new node that a session owns: it goes when the session ends
abbrev pub ephemeral : ℕ → Node
ephemeral session = record { bytes = []; version = 0; owner = Some session; counter = 0 }

-- a node below which one more name was counted
abbrev pub with_count : Node → Node
with_count n = record n { counter = n.counter + 1 }

-- the node has the version that is named, where one is named
abbrev pub HasVersion : Option ℕ → Node → Type 0
HasVersion None n = Unit {0}
HasVersion (Some version) n = n.version ≡ version

-- A node is there, of the version that is named.
pub record IsThere (t : Nodes) (k : Key) (named : Option ℕ) : Type 0 where
  pub found : Node
  pub there : node t k ≡ Some found
  pub fitting : HasVersion named found

-- A node is there below which others may be made: no session owns it.
pub record IsParent (t : Nodes) (k : Key) : Type 0 where
  pub found : Node
  pub there : node t k ≡ Some found
  pub lasts : found.owner ≡ None

-- A node was made where none was.
pub record IsNew (t u : Nodes) (k : Key) (made : Node) : Type 0 where
  pub free : node t k ≡ None
  pub now : node u k ≡ Some made

-- A node of the version that is named was set: its version is one more, and its owner and its counter stay.
pub record IsSet (t u : Nodes) (k : Key) (named : ℕ) (bytes : List ℕ) : Type 0 where
  pub old : Node
  pub was : node t k ≡ Some old
  pub fitting : old.version ≡ named
  pub now : node u k ≡ Some (set_node bytes old)

-- A node below which this number of names was given has given one more; numbers have ten digits.
pub record IsCounted (t u : Nodes) (k : Key) (number : ℕ) : Type 0 where
  pub old : Node
  pub was : node t k ≡ Some old
  pub lasts : old.owner ≡ None
  pub given : old.counter ≡ number
  pub room : HasTenDigits number
  pub now : node u k ≡ Some (with_count old)

-- A node of the version that is named is gone.
pub record IsGone (t u : Nodes) (k : Key) (named : Option ℕ) : Type 0 where
  pub old : Node
  pub was : node t k ≡ Some old
  pub fitting : HasVersion named old
  pub now : node u k ≡ None

-- A map of slots, each with a node or none, and a list of what slots had before, stand for two trees.
use Rattle.std.specs.Prelude.{ℕ, List, [], ◌∷◌, Option, Some, None, is_some, IsTrue, refl, ◌&&◌, if◌then◌else◌}
use Rattle.std.specs.Cmp.Lexicographic.{slice_cmp}
use Rattle.std.specs.Ordering.{nat_cmp}
use Rattle.std.specs.BTreeMap.{is_at}
use Rattle.std.specs.Map.{lookup}
use Rattle.std.specs.FinMap.{empty, insert, remove}
use Rattle.std.specs.FinMap as map
use Rattle.std.specs.Coded.{Coded, code_by, coded×, coded_list, coded_option, coded_ℕ}
use Rattle.dl_tree.specs.declared.node.Node.{Node}
use Rattle.dl_tree.specs.declared.nodes.Change.{Change}
use Rattle.dl_tree.specs.Paths.{name_of, is_below}
use Rattle.dl_tree.specs.Trees.{Nodes}

-- a tree with a node, or none, at a path
abbrev pub with_node : Nodes → List ℕ → Option Node → Nodes
with_node t path None = remove t path
with_node t path (Some n) = insert t path n

-- the tree that slots stand for
abbrev pub tree_in : List (List ℕ × Option Node) → Nodes
tree_in [] = empty
tree_in (e ∷ es) = with_node (tree_in es) e.0 e.1

-- the tree before changes, of which the last one is the newest
abbrev pub tree_before : Nodes → List Change → Nodes
tree_before t [] = t
tree_before t (c ∷ cs) = with_node (tree_before t cs) c.path c.before

-- a path has a slot
abbrev pub has_slot : List (List ℕ × Option Node) → List ℕ → Type 0
has_slot es path = IsTrue (is_some (lookup (is_at (slice_cmp nat_cmp path)) es))

-- each path that changed has a slot
abbrev pub Covers : List (List ℕ × Option Node) → List Change → Type 0
Covers es [] = Unit {0}
Covers es (c ∷ cs) = has_slot es c.path × Covers es cs

-- the node of these fields
abbrev pub node_with : List ℕ × (ℕ × (Option ℕ × ℕ)) → Node
node_with (bytes, (version, (owner, counter))) = record { bytes = bytes; version = version; owner = owner; counter = counter }

-- a node is stored as the tuple of its fields
abbrev pub node_code : Coded Node
node_code =
    code_by (List ℕ × (ℕ × (Option ℕ × ℕ))) (coded× (coded_list coded_ℕ) (coded× coded_ℕ (coded× (coded_option coded_ℕ) coded_ℕ)))
    (λ n. (n.bytes, (n.version, (n.owner, n.counter)))) node_with (λ _. refl)

-- a tree is stored as its entries
abbrev pub nodes_code : Coded Nodes
nodes_code = map.code (coded_list coded_ℕ) node_code

-- the names in slots with nodes whose paths are this beginning and one more part
abbrev pub names_in : List ℕ → List (List ℕ × Option Node) → List (List ℕ)
names_in prefix [] = []
names_in prefix (e ∷ es) = if is_some e.1 && is_below prefix e.0 then name_of e.0 ∷ names_in prefix es else names_in prefix es

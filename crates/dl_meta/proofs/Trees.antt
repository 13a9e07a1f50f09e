-- A creation below the root.
use Rattle.std.proofs.Common.{◌≡◌, ℕ, Bool, true, false, cond, List, [], Option, Some, None, refl, sym, ap, ◌∙◌, inl, inr, ◌⊎◌, bytes_eq, codes}
use Rattle.std.proofs.lemmas.Bool.{cond-true, cond-false, cases_Bool}
use Rattle.std.specs.Cmp.Lexicographic.{slice_cmp}
use Rattle.std.specs.Ordering.{nat_cmp}
use Rattle.std.specs.FinMap.{empty, get, insert, get-empty}
use Rattle.dl_types.specs.declared.mode.Mode.TheVariants.{Lasting}
use Rattle.dl_types.specs.declared.one_op.OneOp.TheVariants.{Create}
use Rattle.dl_types.specs.declared.meta_op.MetaOp.TheVariants as op
use Rattle.dl_formats.specs.Keys.{Conf, Streams, Ledgers, path_of}
use Rattle.dl_tree.specs.declared.node.Node.{Node}
use Rattle.dl_tree.specs.Paths.{root, parent_of}
use Rattle.dl_tree.specs.Trees.{Nodes, node, new_node, root_alone, parent_after, child_outcome, outcome_of, after_request}
use Rattle.dl_tree.specs.Slots.{with_node}
use Rattle.dl_meta.specs.Growing.{HasRoot, IsNewBelowRoot}
use Rattle.dl_tree.proofs.MapLemmas.{same_path, path_is, get-with_node, get-with_node_same, same_tree}

-- what stands at a path, put there again, changes nothing
put_same : (t : Nodes) (p : List ℕ) (n : Node) → get t p ≡ Some n → insert t p n ≡ t
put_same t p n here = same_tree (insert t p n) t each
  where
    each : (q : List ℕ) → get (insert t p n) q ≡ get t q
    each q = get-with_node t p (Some n) q ∙ go (cases_Bool (same_path q p))
      where
        go : (same_path q p ≡ true) ⊎ (same_path q p ≡ false) → cond (same_path q p) (Some n) (get t q) ≡ get t q
        go (inl e) = cond-true _ _ _ e ∙ sym here ∙ ap (get t) (sym (path_is q p e))
        go (inr e) = cond-false _ _ _ e

-- a lasting node that is created below the root is put into the tree, and nothing else changes
pub created_below : (t : Nodes) (path bytes : List ℕ) → IsNewBelowRoot t path
    → (after_request t 0 (op.One (Create path bytes Lasting))).1 ≡ insert t path (new_node bytes Lasting 0)
unfolding after_request outcome_of child_outcome
created_below t path bytes w =
    let same : (record w.above.node { owner = None }) ≡ w.above.node = ap (λ (o : Option ℕ). record w.above.node { owner = o }) (sym w.above.lasts) in
    rw w.other (rw w.parent (rw w.above.there (rw w.above.lasts (rw w.free (rw w.parent
    (ap (λ (n : Node). insert (insert t root n) path (new_node bytes Lasting 0)) same
    ∙ ap (λ (u : Nodes). insert u path (new_node bytes Lasting 0)) (put_same t root w.above.node w.above.there)))))))

-- the path of the node above all streams
pub streams_spelt : path_of Streams ≡ codes "/streams"
unfolding path_of
streams_spelt = refl

-- and that of all ledgers
pub ledgers_spelt : path_of Ledgers ≡ codes "/ledgers"
unfolding path_of
ledgers_spelt = refl

-- ---- the first tree

-- a path below the root is new beside the root alone
alone : (path : List ℕ) → parent_of path ≡ root → bytes_eq path root ≡ false → same_path path root ≡ false → IsNewBelowRoot root_alone path
alone path below other apart = record {
  above = record { node = node [] 0 None 0; there = get-with_node_same empty root (Some (node [] 0 None 0)); lasts = refl };
  parent = below;
  other = other;
  free = get-with_node empty root (Some (node [] 0 None 0)) path ∙ cond-false _ _ _ apart ∙ get-empty (slice_cmp nat_cmp) path;
}

-- a path that is new stays so behind another one
grown : (t : Nodes) (path other bytes : List ℕ) → IsNewBelowRoot t path → IsNewBelowRoot t other → same_path root path ≡ false → same_path other path ≡ false
    → IsNewBelowRoot (insert t path (new_node bytes Lasting 0)) other
grown t path other bytes w v below apart = record {
  above = record {
    node = w.above.node;
    there = get-with_node t path (Some (new_node bytes Lasting 0)) root ∙ cond-false _ _ _ below ∙ w.above.there;
    lasts = w.above.lasts;
  };
  parent = v.parent;
  other = v.other;
  free = get-with_node t path (Some (new_node bytes Lasting 0)) other ∙ cond-false _ _ _ apart ∙ v.free;
}

-- the three paths are new in turn
conf_alone : IsNewBelowRoot root_alone (path_of Conf)
unfolding path_of parent_of
conf_alone = alone (path_of Conf) refl refl refl

-- the node above all streams is new behind the configuration
streams_grown : (bytes : List ℕ) → IsNewBelowRoot (insert root_alone (path_of Conf) (new_node bytes Lasting 0)) (path_of Streams)
unfolding path_of parent_of
streams_grown bytes = grown root_alone (path_of Conf) (path_of Streams) bytes conf_alone (alone (path_of Streams) refl refl refl) refl refl

-- the node above all ledgers is new behind both
ledgers_grown : (bytes more : List ℕ)
    → IsNewBelowRoot (insert (insert root_alone (path_of Conf) (new_node bytes Lasting 0)) (path_of Streams) (new_node more Lasting 0)) (path_of Ledgers)
unfolding path_of parent_of
ledgers_grown bytes more =
    grown (insert root_alone (path_of Conf) (new_node bytes Lasting 0)) (path_of Streams) (path_of Ledgers) more (streams_grown bytes)
    (grown root_alone (path_of Conf) (path_of Ledgers) bytes conf_alone (alone (path_of Ledgers) refl refl refl) refl refl) refl refl

-- the same, of trees and paths that are those
pub conf_new : (t : Nodes) (path : List ℕ) → t ≡ root_alone → path ≡ path_of Conf → IsNewBelowRoot t path
conf_new t path e p = rw e (rw p conf_alone)

-- the node above all streams
pub streams_new : (t u : Nodes) (path next bytes : List ℕ) → t ≡ root_alone → path ≡ path_of Conf → u ≡ insert t path (new_node bytes Lasting 0)
    → next ≡ path_of Streams
    → IsNewBelowRoot u next
streams_new t u path next bytes e p f q = rw f (rw e (rw p (rw q (streams_grown bytes))))

-- the node above all ledgers
pub ledgers_new : (t u v : Nodes) (path next last bytes more : List ℕ) → t ≡ root_alone → path ≡ path_of Conf → u ≡ insert t path (new_node bytes Lasting 0)
    → next ≡ path_of Streams → v ≡ insert u next (new_node more Lasting 0) → last ≡ path_of Ledgers → IsNewBelowRoot v last
ledgers_new t u v path next last bytes more e p f q g r = rw g (rw f (rw e (rw p (rw q (rw r (ledgers_grown bytes more))))))

-- Trees as maps: what stands at a path after a change, and when two trees are the same.
use Rattle.std.proofs.Common.{◌≡◌, ℕ, Bool, true, false, cond, List, Option, Some, None, is_some, refl, sym, ap, ◌∙◌, inl, inr, ◌⊎◌}
use Rattle.std.proofs.lemmas.Bool.{cond-true, cond-false, cases_Bool}
use Rattle.std.proofs.lemmas.Map.Lookups.{exact_bytes}
use Rattle.std.proofs.lemmas.Map.Views.{tells_apart}
use Rattle.std.specs.Cmp.{eq_by_cmp_equiv}
use Rattle.std.specs.Cmp.Lexicographic.{slice_cmp, nat_list_cmp_total}
use Rattle.std.specs.Ordering.{nat_cmp, eq_by_cmp}
use Rattle.std.specs.FinMap.{get, insert, get-insert, get-remove, same_map}
use Rattle.dl_tree.specs.declared.node.Node.{Node}
use Rattle.dl_tree.specs.Trees.{Nodes}
use Rattle.dl_tree.specs.Slots.{with_node}

-- whether two paths are the same
abbrev pub same_path : List ℕ → List ℕ → Bool
same_path q p = eq_by_cmp (slice_cmp nat_cmp) q p

-- paths that compare equal are one path
pub path_is : (q p : List ℕ) → same_path q p ≡ true → q ≡ p
path_is q p e = tells_apart exact_bytes q p e

-- a path compares equal to itself
pub path_itself : (p : List ℕ) → same_path p p ≡ true
path_itself p = (eq_by_cmp_equiv nat_list_cmp_total).refl p

-- two paths compare the same either way round
pub path_turned : (q p : List ℕ) → same_path q p ≡ same_path p q
path_turned q p = (eq_by_cmp_equiv nat_list_cmp_total).symm q p

-- different paths don't compare equal
pub path_other : (q p : List ℕ) → (q ≡ p → ⊥) → same_path q p ≡ false
path_other q p apart = go (cases_Bool (same_path q p))
  where
    go : (same_path q p ≡ true) ⊎ (same_path q p ≡ false) → same_path q p ≡ false
    go (inl e) = absurd (apart (path_is q p e))
    go (inr e) = e

-- a tree with a node, or none, at a path has that there, and elsewhere what it had
pub get-with_node : (t : Nodes) (p : List ℕ) (o : Option Node) (q : List ℕ) → get (with_node t p o) q ≡ cond (same_path q p) o (get t q)
get-with_node t p None q = get-remove nat_list_cmp_total t p q
get-with_node t p (Some n) q = get-insert nat_list_cmp_total t p n q

-- a tree with a node, or none, at a path has that there
pub get-with_node_same : (t : Nodes) (p : List ℕ) (o : Option Node) → get (with_node t p o) p ≡ o
get-with_node_same t p o = get-with_node t p o p ∙ cond-true _ _ _ (path_itself p)

-- a tree with a node, or none, at a path has at another path what it had
pub get-with_node_other : (t : Nodes) (p : List ℕ) (o : Option Node) (q : List ℕ) → (q ≡ p → ⊥) → get (with_node t p o) q ≡ get t q
get-with_node_other t p o q apart = get-with_node t p o q ∙ cond-false _ _ _ (path_other q p apart)

-- trees that have the same at each path are one tree
pub same_tree : (t u : Nodes) → ((q : List ℕ) → get t q ≡ get u q) → t ≡ u
same_tree t u each = same_map nat_list_cmp_total exact_bytes t u each

-- a test asked again where it failed takes the last choice
again : {A : Type 0} (b : Bool) (x y z : A) → cond b x (cond b y z) ≡ cond b x z
again true x y z = refl
again false x y z = refl

-- what stood at a path, put back, undoes a change there
pub put_back : (t : Nodes) (p : List ℕ) (o : Option Node) → with_node (with_node t p o) p (get t p) ≡ t
put_back t p o = same_tree _ _ each
  where
    each : (q : List ℕ) → get (with_node (with_node t p o) p (get t p)) q ≡ get t q
    each q = get-with_node (with_node t p o) p (get t p) q ∙ go (cases_Bool (same_path q p))
      where
        go : (same_path q p ≡ true) ⊎ (same_path q p ≡ false) → cond (same_path q p) (get t p) (get (with_node t p o) q) ≡ get t q
        go (inl e) = cond-true _ _ _ e ∙ ap (get t) (sym (path_is q p e))
        go (inr e) = cond-false _ _ _ e ∙ get-with_node t p o q ∙ cond-false _ _ _ e

-- what stands at a path, put there again, leaves the tree
pub put_again : (t : Nodes) (p : List ℕ) (o : Option Node) → get t p ≡ o → with_node t p o ≡ t
put_again t p o is = same_tree _ _ each
  where
    each : (q : List ℕ) → get (with_node t p o) q ≡ get t q
    each q = get-with_node t p o q ∙ go (cases_Bool (same_path q p))
      where
        go : (same_path q p ≡ true) ⊎ (same_path q p ≡ false) → cond (same_path q p) o (get t q) ≡ get t q
        go (inl e) = cond-true _ _ _ e ∙ sym is ∙ ap (get t) (sym (path_is q p e))
        go (inr e) = cond-false _ _ _ e

-- a node in the place of another one leaves where nodes are
pub same_places : (t : Nodes) (p : List ℕ) (n m : Node) (q : List ℕ) → get t p ≡ Some n → is_some (get (insert t p m) q) ≡ is_some (get t q)
same_places t p n m q is = ap is_some (get-with_node t p (Some m) q) ∙ go (cases_Bool (same_path q p))
  where
    go : (same_path q p ≡ true) ⊎ (same_path q p ≡ false) → is_some (cond (same_path q p) (Some m) (get t q)) ≡ is_some (get t q)
    go (inl e) = ap is_some (cond-true _ _ _ e) ∙ sym (ap is_some is) ∙ ap (λ (r : List ℕ). is_some (get t r)) (sym (path_is q p e))
    go (inr e) = ap is_some (cond-false _ _ _ e)

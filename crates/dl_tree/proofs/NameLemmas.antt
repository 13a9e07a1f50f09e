-- The names of a node's children among slots in order.
use Rattle.std.proofs.Common.{◌≡◌, ℕ, Bool, true, false, cond, ◌&&◌, List, [], ◌∷◌, ◌++◌, length, map, filter, Option}
use Rattle.std.proofs.Common.{Some, None, is_some, refl, sym, ap, ◌∙◌, arith, inl, inr, ◌⊎◌, ap₂, append_assoc}
use Rattle.std.proofs.lemmas.Bool.{cond-true, cond-false, cases_Bool}
use Rattle.std.proofs.lemmas.List.{append-nil}
use Rattle.std.specs.Option.{option_flatten}
use Rattle.std.specs.Cmp.Lexicographic.{slice_cmp, nat_list_cmp_total}
use Rattle.std.specs.Ordering.{nat_cmp, is_eq}
use Rattle.std.specs.declared.cmp.Ordering.TheVariants.{Less}
use Rattle.std.specs.List.{AllByRecursion}
use Rattle.std.specs.List.Sorted.{IsStrictlySortedBy}
use Rattle.std.specs.BTreeMap.{is_at}
use Rattle.std.specs.BTreeMap.Range.{entries_between}
use Rattle.std.specs.declared.ops.Bound.TheVariants.{Included, Excluded}
use Rattle.std.specs.Map.{keys_of}
use Rattle.std.proofs.lemmas.Map.{NonePasses, lookup-none}
use Rattle.std.proofs.lemmas.Map.Keys.{sorted_head, sorted_tail}
use Rattle.std.specs.FinMap.{get, entries, entries-insert, empty, len-entries, len-empty}
use Rattle.std.specs.FinMap as map
use Rattle.dl_tree.specs.declared.node.Node.{Node}
use Rattle.dl_tree.specs.Paths.{name_of, is_below, below, past_below}
use Rattle.dl_tree.specs.Trees.{Nodes, child_names}
use Rattle.dl_tree.specs.Slots.{with_node, tree_in, names_in}
use Rattle.dl_tree.proofs.MapLemmas.{same_path, path_is, get-with_node, same_tree}
use Rattle.dl_tree.proofs.SlotLemmas.{get-tree_in}
use Rattle.dl_tree.proofs.RangeLemmas.{names-between}

-- the entries with nodes
abbrev onto_live : List ℕ → Option Node → List (List ℕ × Node) → List (List ℕ × Node)
onto_live k None rest = rest
onto_live k (Some n) rest = (k, n) ∷ rest

-- the slots with a node, each with its node
abbrev live : List (List ℕ × Option Node) → List (List ℕ × Node)
live [] = []
live (e ∷ es) = onto_live e.0 e.1 (live es)

-- a path is below each of these
abbrev IsFirst : List ℕ → List (List ℕ) → Type 0
IsFirst k ks = AllByRecursion (λ y. slice_cmp nat_cmp k y ≡ Less) ks

-- a path before all slots is before all slots with a node
live_first : (k : List ℕ) (es : List (List ℕ × Option Node)) → IsFirst k (keys_of es) → IsFirst k (keys_of (live es))
live_first k [] h = h
live_first k (e ∷ es) h = go e.1 (live_first k es h.1)
  where
    go : (o : Option Node) → IsFirst k (keys_of (live es)) → IsFirst k (keys_of (onto_live e.0 o (live es)))
    go None ih = ih
    go (Some n) ih = (h.0, ih)

-- what is put at a path before all others stands first
put_first : (k : List ℕ) (n : Node) (xs : List (List ℕ × Node)) → IsFirst k (keys_of xs) → map.put (slice_cmp nat_cmp) k n xs ≡ (k, n) ∷ xs
put_first k n [] h = refl
put_first k n (x ∷ xs) h = let e : slice_cmp nat_cmp k x.0 ≡ Less = h.0 in rw e

-- a path before all slots has no slot
none_first : (k : List ℕ) (es : List (List ℕ × Option Node)) → IsFirst k (keys_of es) → NonePasses (is_at (slice_cmp nat_cmp k)) es
none_first k [] h = h
none_first k (e ∷ es) h = (ap is_eq h.0, none_first k es h.1)

-- a tree without a node where it has none is the tree
absent_put : (t : Nodes) (p : List ℕ) → get t p ≡ None → with_node t p None ≡ t
absent_put t p none = same_tree _ _ each
  where
    each : (q : List ℕ) → get (with_node t p None) q ≡ get t q
    each q = get-with_node t p None q ∙ go (cases_Bool (same_path q p))
      where
        go : (same_path q p ≡ true) ⊎ (same_path q p ≡ false) → cond (same_path q p) None (get t q) ≡ get t q
        go (inl e) = cond-true _ _ _ e ∙ sym none ∙ ap (get t) (sym (path_is q p e))
        go (inr e) = cond-false _ _ _ e

-- a list of length 0 is empty
nil_of_length : (xs : List (List ℕ × Node)) → length xs ≡ 0 → xs ≡ []
nil_of_length [] e = refl
nil_of_length (x ∷ xs) e = absurd (omega (arith, e))

-- the entries of the tree that sorted slots stand for are the slots with a node
entries-tree_in : (es : List (List ℕ × Option Node)) → IsStrictlySortedBy (slice_cmp nat_cmp) (keys_of es) → entries (tree_in es) ≡ live es
entries-tree_in [] s = nil_of_length _ (sym (len-entries (empty {X = Node} {R = slice_cmp nat_cmp})) ∙ len-empty (slice_cmp nat_cmp) Node)
entries-tree_in (e ∷ es) s =
    go e.1 (sorted_head (slice_cmp nat_cmp) e.0 (keys_of es) s) (entries-tree_in es (sorted_tail (slice_cmp nat_cmp) e.0 (keys_of es) s))
  where
    go : (o : Option Node) → IsFirst e.0 (keys_of es) → entries (tree_in es) ≡ live es → entries (with_node (tree_in es) e.0 o) ≡ onto_live e.0 o (live es)
    go None h ih =
        ap (λ (t : Nodes). entries t) (absent_put (tree_in es) e.0 (get-tree_in es e.0 ∙ ap option_flatten (lookup-none _ es (none_first e.0 es h)))) ∙ ih
    go (Some n) h ih =
        entries-insert nat_list_cmp_total (tree_in es) e.0 n ∙ ap (map.put (slice_cmp nat_cmp) e.0 n) ih ∙ put_first e.0 n (live es) (live_first e.0 es h)

-- the names in slots below a beginning are those of the paths with a node below it
names-live : (prefix : List ℕ) (es : List (List ℕ × Option Node)) → names_in prefix es ≡ map name_of (filter (is_below prefix) (keys_of (live es)))
names-live prefix [] = refl
names-live prefix (e ∷ es) = go e.1 (names-live prefix es)
  where
    go : (o : Option Node) → names_in prefix es ≡ map name_of (filter (is_below prefix) (keys_of (live es)))
        → cond (is_some o && is_below prefix e.0) (name_of e.0 ∷ names_in prefix es) (names_in prefix es) ≡ map name_of
        (filter (is_below prefix) (keys_of (onto_live e.0 o (live es))))
    go None ih = ih
    go (Some n) ih = more (is_below prefix e.0)
      where
        more : (b : Bool)
            → cond b (name_of e.0 ∷ names_in prefix es) (names_in prefix es) ≡ map name_of
            (cond b (e.0 ∷ filter (is_below prefix) (keys_of (live es))) (filter (is_below prefix) (keys_of (live es))))
        more true = ap (λ (t : List (List ℕ)). name_of e.0 ∷ t) ih
        more false = ih

-- the names in sorted slots below a path are the names of its children in the tree that they stand for
pub names-tree_in : (es : List (List ℕ × Option Node)) (path : List ℕ) (now : Nodes × Nodes) (before : Nodes)
    → IsStrictlySortedBy (slice_cmp nat_cmp) (keys_of es) → ◌≡◌ {A = Nodes × Nodes} (tree_in es, before) now
    → names_in (below path) es ≡ child_names now.0 path
names-tree_in es path now before s is =
    names-live (below path) es ∙ ap (λ (t : List (List ℕ × Node)). map name_of (filter (is_below (below path)) (keys_of t))) (sym (entries-tree_in es s))
    ∙ ap (λ (t : Nodes × Nodes). child_names t.0 path) is

-- one turn of a walk over slots: a name more
pub names_yes : (prefix p a b : List ℕ) (o : Option Node) (es fs : List (List ℕ × Option Node)) (names more all : List (List ℕ)) (name : List ℕ) (r s : Bool)
    → s ≡ is_some o → s ≡ true → a ≡ prefix → b ≡ p → r ≡ is_below a b → r ≡ true
    → es ≡ (p, o) ∷ fs → name ≡ name_of p → more ≡ names ++ name ∷ [] → names ++ names_in prefix es ≡ all → more ++ names_in prefix fs ≡ all
names_yes prefix p a b o es fs names more all name r s so st pa pb ra rt e n m inv =
    let some : is_some o ≡ true = sym so ∙ st in
    let below_it : is_below prefix p ≡ true = ap₂ is_below (sym pa) (sym pb) ∙ sym ra ∙ rt in
    let both : (is_some o && is_below prefix p) ≡ true = ap₂ (λ (x y : Bool). x && y) some below_it in
    let here : names_in prefix es ≡ name_of p ∷ names_in prefix fs = ap (names_in prefix) e ∙ cond-true _ _ _ both in
    ap (λ (t : List (List ℕ)). t ++ names_in prefix fs) (m ∙ ap (λ (x : List ℕ). names ++ x ∷ []) n) ∙ append_assoc names (name_of p ∷ []) (names_in prefix fs)
    ∙ ap (λ (t : List (List ℕ)). names ++ t) (sym here) ∙ inv

-- and none more
names_no : (prefix p : List ℕ) (o : Option Node) (es fs : List (List ℕ × Option Node)) (names all : List (List ℕ)) → (is_some o && is_below prefix p) ≡ false
    → es ≡ (p, o) ∷ fs → names ++ names_in prefix es ≡ all → names ++ names_in prefix fs ≡ all
names_no prefix p o es fs names all none e inv =
    let here : names_in prefix es ≡ names_in prefix fs = ap (names_in prefix) e ∙ cond-false _ _ _ none in
    ap (λ (t : List (List ℕ)). names ++ t) (sym here) ∙ inv

-- a slot without a node adds no name
pub names_empty : (prefix p : List ℕ) (o : Option Node) (es fs : List (List ℕ × Option Node)) (names all : List (List ℕ)) (s : Bool) → s ≡ is_some o → s ≡ false
    → es ≡ (p, o) ∷ fs → names ++ names_in prefix es ≡ all → names ++ names_in prefix fs ≡ all
names_empty prefix p o es fs names all s so st e inv = names_no prefix p o es fs names all (ap (λ (x : Bool). x && is_below prefix p) (sym so ∙ st)) e inv

-- two facts of which the second fails don't hold together
and_false : (x y : Bool) → y ≡ false → (x && y) ≡ false
and_false true y e = e
and_false false y e = refl

-- a slot whose path is not below the beginning adds no name
pub names_other : (prefix p a b : List ℕ) (o : Option Node) (es fs : List (List ℕ × Option Node)) (names all : List (List ℕ)) (r : Bool) → a ≡ prefix → b ≡ p
    → r ≡ is_below a b → r ≡ false → es ≡ (p, o) ∷ fs → names ++ names_in prefix es ≡ all → names ++ names_in prefix fs ≡ all
names_other prefix p a b o es fs names all r pa pb ra rt e inv =
    names_no prefix p o es fs names all (and_false (is_some o) (is_below prefix p) (ap₂ is_below (sym pa) (sym pb) ∙ sym ra ∙ rt)) e inv

-- the walk over the slots below a path begins
pub names_start : (es iter : List (List ℕ × Option Node)) (path first end : List ℕ) (names : List (List ℕ)) (now : Nodes × Nodes) (before : Nodes)
    → IsStrictlySortedBy (slice_cmp nat_cmp) (keys_of es) → ◌≡◌ {A = Nodes × Nodes} (tree_in es, before) now
    → first ≡ below path → end ≡ past_below path → iter ≡ entries_between (slice_cmp nat_cmp) (Included first) (Excluded end) es → names ≡ []
    → names ++ names_in (below path) iter ≡ child_names now.0 path
names_start es iter path first end names now before s is f l i n =
    ap (λ (t : List (List ℕ)). t ++ names_in (below path) iter) n
    ∙ ap (names_in (below path)) (i ∙ ap₂ (λ (x y : List ℕ). entries_between (slice_cmp nat_cmp) (Included x) (Excluded y) es) f l)
    ∙ names-between path es ∙ names-tree_in es path now before s is

-- no slots add no name
pub names_end : (prefix : List ℕ) (es : List (List ℕ × Option Node)) (names all : List (List ℕ)) → es ≡ [] → names ++ names_in prefix es ≡ all → names ≡ all
names_end prefix es names all e inv = sym (append-nil names) ∙ ap (λ (t : List (List ℕ × Option Node)). names ++ names_in prefix t) (sym e) ∙ inv

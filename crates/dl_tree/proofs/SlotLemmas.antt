-- Slots and changes, and the trees that they stand for.
use Rattle.std.proofs.Common.{◌≡◌, ℕ, Bool, true, false, cond, not, List, [], ◌∷◌, ◌++◌, Option, Some}
use Rattle.std.proofs.Common.{None, is_some, IsTrue, refl, sym, ap, ◌∙◌, subst, inl, inr, ◌⊎◌}
use Rattle.std.proofs.lemmas.Bool.{cond-true, cond-false, cases_Bool, true≢false}
use Rattle.std.specs.Option.{option_flatten}
use Rattle.std.specs.Cmp.Lexicographic.{slice_cmp}
use Rattle.std.specs.Ordering.{nat_cmp}
use Rattle.std.specs.BTreeMap.{BTreeMap, is_at, Updates, UpdatesBy}
use Rattle.std.specs.BTreeMap as tree
use Rattle.std.specs.Map.{lookup}
use Rattle.std.specs.FinMap.{get, get-empty}
use Rattle.dl_tree.specs.declared.node.Node.{Node}
use Rattle.dl_tree.specs.declared.nodes.Change.{Change}
use Rattle.dl_tree.specs.Trees.{Nodes}
use Rattle.dl_tree.specs.Slots.{with_node, tree_in, tree_before, has_slot, Covers}
use Rattle.std.proofs.Common.{filter, ◌||◌, is_none}
use Rattle.std.specs.Cmp.{eq_by_cmp_equiv}
use Rattle.std.specs.Cmp.Lexicographic.{nat_list_cmp_total}
use Rattle.std.specs.List.Sorted.{IsStrictlySortedBy}
use Rattle.std.specs.Map.{keys_of}
use Rattle.std.proofs.lemmas.Map.Entries.{lookup-filter-values, option_filter}
use Rattle.std.proofs.lemmas.Map.Keys.{IsDistinct-from_sorted}
use Rattle.dl_tree.specs.Trees.{is_owned, without_session}
use Rattle.dl_tree.proofs.LawLemmas.{get-without_session}
use Rattle.dl_tree.proofs.MapLemmas.{same_path, path_is, path_turned, get-with_node, same_tree, put_back}

-- the slot at a path
abbrev pub slot_at : List (List ℕ × Option Node) → List ℕ → Option (Option Node)
slot_at es q = lookup (is_at (slice_cmp nat_cmp q)) es

-- a choice between a slot's node and that of a further search is the node of the choice between both slots
flat_cond : (b : Bool) (o : Option Node) (l : Option (Option Node)) → cond b o (option_flatten l) ≡ option_flatten (cond b (Some o) l)
flat_cond true o l = refl
flat_cond false o l = refl

-- the tree that slots stand for has at a path what the path's slot has
pub get-tree_in : (es : List (List ℕ × Option Node)) (q : List ℕ) → get (tree_in es) q ≡ option_flatten (slot_at es q)
get-tree_in [] q = get-empty (slice_cmp nat_cmp) q
get-tree_in (e ∷ es) q =
    get-with_node (tree_in es) e.0 e.1 q ∙ ap (λ (o : Option Node). cond (same_path q e.0) e.1 o) (get-tree_in es q)
    ∙ flat_cond (same_path q e.0) e.1 (slot_at es q)

-- a slot that was written
pub tree_in-written : (m n : BTreeMap (List ℕ) (Option Node)) (k : List ℕ) (v : Option Node) → Updates (slice_cmp nat_cmp) m n k (Some v)
    → tree_in n.entries ≡ with_node (tree_in m.entries) k v
tree_in-written m n k v u = same_tree _ _ each
  where
    each : (q : List ℕ) → get (tree_in n.entries) q ≡ get (with_node (tree_in m.entries) k v) q
    each q =
        get-tree_in n.entries q ∙ ap option_flatten (u.0 q) ∙ sym (flat_cond (same_path k q) v (slot_at m.entries q))
        ∙ ap (λ (b : Bool). cond b v (option_flatten (slot_at m.entries q))) (path_turned k q)
        ∙ ap (λ (o : Option Node). cond (same_path q k) v o) (sym (get-tree_in m.entries q)) ∙ sym (get-with_node (tree_in m.entries) k v q)

-- an empty slot that was taken out
pub tree_in-swept : (m n : BTreeMap (List ℕ) (Option Node)) (k : List ℕ) → slot_at m.entries k ≡ Some None
    → UpdatesBy (slice_cmp nat_cmp) (slice_cmp nat_cmp k) m n None → tree_in n.entries ≡ tree_in m.entries
tree_in-swept m n k was u = same_tree _ _ each
  where
    each : (q : List ℕ) → get (tree_in n.entries) q ≡ get (tree_in m.entries) q
    each q = get-tree_in n.entries q ∙ ap option_flatten (u.0 q) ∙ go (cases_Bool (same_path k q)) ∙ sym (get-tree_in m.entries q)
      where
        go : (same_path k q ≡ true) ⊎ (same_path k q ≡ false)
            → option_flatten (cond (same_path k q) None (slot_at m.entries q)) ≡ option_flatten (slot_at m.entries q)
        go (inl e) =
            ap option_flatten (cond-true _ _ _ e) ∙ ap option_flatten (sym was) ∙ ap (λ (p : List ℕ). option_flatten (slot_at m.entries p)) (path_is k q e)
        go (inr e) = ap option_flatten (cond-false _ _ _ e)

-- something, or else something, is something
is_some-cond : {A : Type 0} (b : Bool) (x : A) (o : Option A) → IsTrue (is_some o) → IsTrue (is_some (cond b (Some x) o))
is_some-cond true x o h = refl
is_some-cond false x o h = h

-- a slot that was written takes none away
pub has_slot-written : (m n : BTreeMap (List ℕ) (Option Node)) (k : List ℕ) (v : Option Node) → Updates (slice_cmp nat_cmp) m n k (Some v) → (q : List ℕ)
    → has_slot m.entries q → has_slot n.entries q
has_slot-written m n k v u q h = subst (λ (o : Option (Option Node)). IsTrue (is_some o)) (sym (u.0 q)) (is_some-cond (same_path k q) v (slot_at m.entries q) h)

-- a path at which a slot is put has a slot
pub has_slot-here : (m n : BTreeMap (List ℕ) (Option Node)) (k : List ℕ) (v : Option Node) → Updates (slice_cmp nat_cmp) m n k (Some v) → has_slot n.entries k
has_slot-here m n k v u = subst (λ (o : Option (Option Node)). IsTrue (is_some o)) (sym u.1) refl

-- changes whose paths have slots have them where no slot is lost
pub Covers-kept : (es fs : List (List ℕ × Option Node)) (cs : List Change) → ((q : List ℕ) → has_slot es q → has_slot fs q) → Covers es cs → Covers fs cs
Covers-kept es fs [] keep c = tt
Covers-kept es fs (c ∷ cs) keep h = (keep c.path h.0, Covers-kept es fs cs keep h.1)

-- one more change whose path has a slot, and all of them have slots
pub Covers-more : (es : List (List ℕ × Option Node)) (cs : List Change) (c : Change) → Covers es cs → has_slot es c.path → Covers es (cs ++ c ∷ [])
Covers-more es [] c h one = (one, tt)
Covers-more es (d ∷ ds) c h one = (h.0, Covers-more es ds c h.1 one)

-- where all changes have slots, the last one has one, and so have those before it
pub Covers-fewer : (es : List (List ℕ × Option Node)) (cs : List Change) (c : Change) → Covers es (cs ++ c ∷ []) → Covers es cs × has_slot es c.path
Covers-fewer es [] c h = (tt, h.0)
Covers-fewer es (d ∷ ds) c h = let rest = Covers-fewer es ds c h.1 in ((h.0, rest.0), rest.1)

-- to go back over changes is to take back the newest one, and then those before it
pub before-more : (t : Nodes) (cs : List Change) (c : Change) → tree_before t (cs ++ c ∷ []) ≡ tree_before (with_node t c.path c.before) cs
before-more t [] c = refl
before-more t (d ∷ ds) c = ap (λ (u : Nodes). with_node u d.path d.before) (before-more t ds c)

-- a change that is noted leaves the way back
pub before-noted : (t u : Nodes) (cs ds : List Change) (p : List ℕ) (o before : Option Node) → u ≡ with_node t p o → before ≡ get t p
    → ds ≡ cs ++ (record { path = p; before = before }) ∷ [] → tree_before u ds ≡ tree_before t cs
before-noted t u cs ds p o before e b d =
    ap (tree_before u) d ∙ before-more u cs _ ∙ ap (λ (x : Nodes). tree_before (with_node x p before) cs) e
    ∙ ap (λ (x : Option Node). tree_before (with_node (with_node t p o) p x) cs) b
    ∙ ap (λ (x : Nodes). tree_before x cs) (put_back t p o)

-- the node of a path's slot is what the tree has at that path
pub found : (es : List (List ℕ × Option Node)) (q : List ℕ) (o : Option (Option Node)) (now : Nodes × Nodes) (before : Nodes)
    → ◌≡◌ {A = Nodes × Nodes} (tree_in es, before) now → o ≡ slot_at es q → option_flatten o ≡ get now.0 q
found es q o now before is e = ap option_flatten e ∙ sym (get-tree_in es q) ∙ ap (λ (t : Nodes × Nodes). get t.0 q) is

-- a slot that was written, and the change that was noted
pub noted : (m n : BTreeMap (List ℕ) (Option Node)) (key path p : List ℕ) (v before : Option Node) (old : Option (Option Node))
    (cs ds : List Change) (now : Nodes × Nodes)
    → ◌≡◌ {A = Nodes × Nodes} (tree_in m.entries, tree_before (tree_in m.entries) cs) now → key ≡ p → path ≡ p → Updates (slice_cmp nat_cmp) m n key (Some v)
    → old ≡ tree.get (slice_cmp nat_cmp) m key → before ≡ option_flatten old
    → ds ≡ cs ++ (record { path = path; before = before }) ∷ []
    → ◌≡◌ {A = Nodes × Nodes} (tree_in n.entries, tree_before (tree_in n.entries) ds) (with_node now.0 p v, now.1)
noted m n key path p v before old cs ds now is k q u o b d =
    let written : tree_in n.entries ≡ with_node (tree_in m.entries) key v = tree_in-written m n key v u in
    let was : before ≡ get (tree_in m.entries) key = b ∙ ap option_flatten o ∙ sym (get-tree_in m.entries key) in
    let note : ds ≡ cs ++ (record { path = key; before = before }) ∷ [] = d
    ∙ ap (λ (x : List ℕ). cs ++ (record { path = x; before = before }) ∷ []) (q ∙ sym k) in
    let first : tree_in n.entries ≡ with_node now.0 p v = written ∙ ap (λ (x : List ℕ). with_node (tree_in m.entries) x v) k
    ∙ ap (λ (t : Nodes × Nodes). with_node t.0 p v) is in
    let second : tree_before (tree_in n.entries) ds ≡ now.1 = before-noted (tree_in m.entries) (tree_in n.entries) cs ds key v before written was note
    ∙ ap (λ (t : Nodes × Nodes). t.1) is in
    λ i. (first i, second i)

-- after a slot is put and noted with what it had, each path that changed has a slot
pub Covers-noted : (m n : BTreeMap (List ℕ) (Option Node)) (key path p : List ℕ) (v before : Option Node) (cs ds : List Change) → Covers m.entries cs → key ≡ p
    → path ≡ p → Updates (slice_cmp nat_cmp) m n key (Some v)
    → ds ≡ cs ++ (record { path = path; before = before }) ∷ [] → Covers n.entries ds
Covers-noted m n key path p v before cs ds c k q u d =
    let here : has_slot n.entries path = subst (λ (x : List ℕ). has_slot n.entries x) (k ∙ sym q) (has_slot-here m n key v u) in
    subst (λ (t : List Change). Covers n.entries t) (sym d)
    (Covers-more n.entries cs _ (Covers-kept m.entries n.entries cs (has_slot-written m n key v u) c) here)

-- what a push leaves that had room
pub pushed : {A : Type 0} (b : Bool) (xs zs ys : List A) (x : A) → ys ≡ cond b (xs ++ x ∷ []) xs → b ≡ true → xs ≡ zs → ys ≡ zs ++ x ∷ []
pushed true xs zs ys x e t same = e ∙ ap (λ (w : List _). w ++ x ∷ []) same
pushed false xs zs ys x e t same = absurd (true≢false (sym t))

-- one step back
pub stepped_back : (es fs : List (List ℕ × Option Node)) (cs ds : List Change) (c : Change) (u : Nodes) → cs ≡ ds ++ c ∷ []
    → tree_in fs ≡ with_node (tree_in es) c.path c.before → ((q : List ℕ) → has_slot es q → has_slot fs q)
    → (tree_before (tree_in es) cs ≡ u) × Covers es cs → (tree_before (tree_in fs) ds ≡ u) × Covers fs ds
stepped_back es fs cs ds c u e back keep inv = (
  ap (λ (t : Nodes). tree_before t ds) back ∙ sym (before-more (tree_in es) ds c) ∙ ap (tree_before (tree_in es)) (sym e) ∙ inv.0,
  Covers-kept es fs ds keep (Covers-fewer es ds c (subst (λ (t : List Change). Covers es t) e inv.1)).0,
)

-- slots without those that hold no node or one that a session owns
kept_flat : (k : ℕ) (l : Option (Option Node))
    → option_flatten (option_filter (λ x. not (is_owned k x || is_none x)) l) ≡ cond (not (is_owned k (option_flatten l))) (option_flatten l) None
kept_flat k None = refl
kept_flat k (Some None) = refl
kept_flat k (Some (Some n)) = go (is_owned k (Some n))
  where
    go : (b : Bool) → option_flatten (cond (not (b || false)) (Some (Some n)) None) ≡ cond (not b) (Some n) None
    go true = refl
    go false = refl

-- slots without those that are empty or a session's stand for the tree after the session's end
pub tree_in-dropped : (es fs : List (List ℕ × Option Node)) (k : ℕ) → IsStrictlySortedBy (slice_cmp nat_cmp) (keys_of es)
    → fs ≡ filter (λ e. not (is_owned k e.1 || is_none e.1)) es → tree_in fs ≡ without_session (tree_in es) k
tree_in-dropped es fs k sorted is = same_tree _ _ each
  where
    each : (q : List ℕ) → get (tree_in fs) q ≡ get (without_session (tree_in es) k) q
    each q =
        get-tree_in fs q ∙ ap (λ (t : List (List ℕ × Option Node)). option_flatten (slot_at t q)) is
        ∙ ap option_flatten
        (lookup-filter-values (eq_by_cmp_equiv nat_list_cmp_total) (λ x. not (is_owned k x || is_none x)) q es
        (IsDistinct-from_sorted (slice_cmp nat_cmp) _ sorted))
        ∙ kept_flat k (slot_at es q) ∙ ap (λ (o : Option Node). cond (not (is_owned k o)) o None) (sym (get-tree_in es q))
        ∙ sym (get-without_session (tree_in es) k q)

-- with no change noted, slots without those that are empty or a session's stand for the tree after its end, twice
pub dropped : (es fs : List (List ℕ × Option Node)) (cs : List Change) (k : ℕ) (now : Nodes × Nodes) (before : Nodes) → cs ≡ []
    → IsStrictlySortedBy (slice_cmp nat_cmp) (keys_of es) → fs ≡ filter (λ e. not (is_owned k e.1 || is_none e.1)) es
    → ◌≡◌ {A = Nodes × Nodes} (tree_in es, before) now
    → ◌≡◌ {A = Nodes × Nodes} (tree_in fs, tree_before (tree_in fs) cs) (without_session now.0 k, without_session now.0 k)
dropped es fs cs k now before none sorted is e =
    let left : tree_in fs ≡ without_session now.0 k = tree_in-dropped es fs k sorted is ∙ ap (λ (t : Nodes × Nodes). without_session t.0 k) e in
    let way : tree_before (tree_in fs) cs ≡ without_session now.0 k = ap (tree_before (tree_in fs)) none ∙ left in
    λ i. (left i, way i)

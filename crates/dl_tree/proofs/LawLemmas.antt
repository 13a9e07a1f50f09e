-- The laws of requests on the tree.
use Rattle.std.proofs.Common.{◌≡◌, ℕ, ◌+◌, ◌≤◌, Bool, true, false, cond, not, List, [], ◌∷◌, Option}
use Rattle.std.proofs.Common.{Some, None, Ok, Err, refl, sym, ap, ◌∙◌, subst, arith, inl, inr, ◌⊎◌}
use Rattle.std.proofs.lemmas.Bool.{cond-true, cond-false, cases_Bool, ne_eqb}
use Rattle.std.proofs.lemmas.Option.{same_Some, none-some}
use Rattle.std.proofs.lemmas.Map.Lookups.{exact_bytes}
use Rattle.std.specs.FinMap.{get, get-retain_keys}
use Rattle.dl_types.specs.declared.mode.Mode.{Mode}
use Rattle.dl_types.specs.declared.mode.Mode.TheVariants.{Lasting, Ephemeral, Counted, EphemeralCounted}
use Rattle.dl_types.specs.declared.one_op.OneOp.{OneOp}
use Rattle.dl_types.specs.declared.one_op.OneOp.TheVariants.{Create, Delete, Set, Check, Get, Children}
use Rattle.dl_types.specs.declared.meta_op.MetaOp.{MetaOp}
use Rattle.dl_types.specs.declared.meta_op.MetaOp.TheVariants as op
use Rattle.dl_types.specs.declared.one_answer.OneAnswer.{OneAnswer}
use Rattle.dl_types.specs.declared.meta_answer.MetaAnswer.TheVariants as answer
use Rattle.dl_types.specs.declared.why.Why.{Why}
use Rattle.dl_tree.specs.declared.node.Node.{Node}
use Rattle.dl_tree.specs.Paths.{parent_of}
use Rattle.dl_tree.specs.Trees.{Nodes, Outcome, Run, outcome_of, run_of, after_request, after_one, after_all, then_rest, with_front}
use Rattle.dl_tree.specs.Trees.{is_owner, is_owned, without_session, made_path, parent_after, new_node, owner_of, is_counted}
use Rattle.dl_tree.specs.Slots.{with_node}
use Rattle.dl_tree.specs.Laws.{set_node, OwnsNone}
use Rattle.dl_tree.proofs.MapLemmas.{same_path, path_is, get-with_node, get-with_node_same, get-with_node_other}
use Rattle.dl_tree.proofs.Done.{set_done, IsCreated, create_done, delete_done, check_done, get_done, children_done}

-- a request of one operation that fails leaves the tree
one_whole : (t : Nodes) (r : Outcome) (place : ℕ) (why : Why) → (after_one t r).0 ≡ answer.Failed place why → (after_one t r).1 ≡ t
one_whole t (Ok r) place why e = absurd (cc)
one_whole t (Err w) place why e = refl

-- a request of many operations that fails leaves the tree
all_whole : (t : Nodes) (r : Run) (place : ℕ) (why : Why) → (after_all t r).0 ≡ answer.Failed place why → (after_all t r).1 ≡ t
all_whole t (Ok r) place why e = absurd (cc)
all_whole t (Err w) place why e = refl

-- a request that fails leaves the tree
pub whole : (t : Nodes) (session place : ℕ) (x : MetaOp) (why : Why) → (after_request t session x).0 ≡ answer.Failed place why
    → (after_request t session x).1 ≡ t
unfolding after_request
whole t session place (op.One x) why e = one_whole t (outcome_of t session x) place why e
whole t session place (op.Multi ops) why e = all_whole t (run_of t session 0 ops) place why e

-- a set that is done raises the version of its node by one, and changes no other node
pub set_law : (t : Nodes) (session : ℕ) (path bytes : List ℕ) (version : Option ℕ) (r : OneAnswer × Nodes)
    → outcome_of t session (Set path bytes version) ≡ Ok r
    → (n : Node) × (get t path ≡ Some n) × (get r.1 path ≡ Some (set_node bytes n)) × ((q : List ℕ) → (q ≡ path → ⊥) → get r.1 q ≡ get t q)
set_law t session path bytes version r e =
    let d = set_done t session path bytes version r e in (
      d.old,
      d.there,
      ap (λ (u : Nodes). get u path) d.is ∙ get-with_node_same t path (Some (set_node bytes d.old)),
      λ q apart. ap (λ (u : Nodes). get u q) d.is ∙ get-with_node_other t path (Some (set_node bytes d.old)) q apart,
    )

-- a node that is as it was, but for its bytes, or later
abbrev pub IsLater : Node → Node → Type 0
IsLater n m = (m.owner ≡ n.owner) × (n.version ≤ m.version) × (n.counter ≤ m.counter)

-- a node that stays is as it was
later_same : (t : Nodes) (q : List ℕ) (n m : Node) → get t q ≡ Some n → get t q ≡ Some m → IsLater n m
later_same t q n m a b = subst (λ (x : Node). IsLater n x) (same_Some n m (sym a ∙ b)) (refl, omega arith, omega arith)

-- one change at a path
later_put : (t : Nodes) (p : List ℕ) (x : Node) (q : List ℕ) (n m : Node) → ((y : Node) → get t p ≡ Some y → IsLater y x) → get t q ≡ Some n
    → get (with_node t p (Some x)) q ≡ Some m → IsLater n m
later_put t p x q n m there a b = go (cases_Bool (same_path q p))
  where
    go : (same_path q p ≡ true) ⊎ (same_path q p ≡ false) → IsLater n m
    go (inl e) =
        let is : x ≡ m = same_Some x m (sym (cond-true _ _ _ e) ∙ sym (get-with_node t p (Some x) q) ∙ b) in
        subst (λ (y : Node). IsLater n y) is (there n (ap (get t) (sym (path_is q p e)) ∙ a))
    go (inr e) = later_same t q n m a (sym (cond-false _ _ _ e) ∙ sym (get-with_node t p (Some x) q) ∙ b)

-- a counter that may rise by one doesn't fall
counter_later : (b : Bool) (c : ℕ) → c ≤ cond b (c + 1) c
counter_later true c = omega arith
counter_later false c = omega arith

-- a creation that is done leaves each node as it was or later
later_created : (t : Nodes) (session : ℕ) (path bytes : List ℕ) (mode : Mode) (r : OneAnswer × Nodes) (q : List ℕ) (n m : Node)
    → IsCreated t session path bytes mode r → get t q ≡ Some n → get r.1 q ≡ Some m → IsLater n m
later_created t session path bytes mode r q n m d a b =
    let made = made_path path mode d.parent in
    let u = with_node t (parent_of path) (Some (parent_after mode d.parent)) in
    let end : get (with_node u made (Some (new_node bytes mode session))) q ≡ Some m = ap (λ (v : Nodes). get v q) (sym d.is) ∙ b in
    go made u end (cases_Bool (same_path q made)) d.free
  where
    first : (k : Node) → get (with_node t (parent_of path) (Some (parent_after mode d.parent))) q ≡ Some k → IsLater n k
    first k e =
        later_put t (parent_of path) (parent_after mode d.parent) q n k
        (λ y there. subst (λ (z : Node). IsLater z (parent_after mode d.parent)) (same_Some d.parent y (sym d.there ∙ there))
        (refl, omega arith, counter_later (is_counted mode) d.parent.counter)) a e

    go : (made : List ℕ) (u : Nodes)
        → get (with_node (with_node t (parent_of path) (Some (parent_after mode d.parent))) made (Some (new_node bytes mode session))) q ≡ Some m
        → (same_path q made ≡ true) ⊎ (same_path q made ≡ false) → get t made ≡ None → IsLater n m
    go made u end (inl e) free = absurd (none-some n (sym (ap (get t) (path_is q made e) ∙ free) ∙ a))
    go made u end (inr e) free = first m (sym (cond-false _ _ _ e) ∙ sym (get-with_node _ made (Some (new_node bytes mode session)) q) ∙ end)

-- a node that a tree without a path has, the tree has too
removed_is : (t : Nodes) (p q : List ℕ) (m : Node) → get (with_node t p None) q ≡ Some m → get t q ≡ Some m
removed_is t p q m e = go (cases_Bool (same_path q p))
  where
    go : (same_path q p ≡ true) ⊎ (same_path q p ≡ false) → get t q ≡ Some m
    go (inl w) = absurd (none-some m (sym (get-with_node t p None q ∙ cond-true _ _ _ w) ∙ e))
    go (inr w) = sym (get-with_node t p None q ∙ cond-false _ _ _ w) ∙ e

-- an operation that is done leaves each node that stays as it was or later
pub owner_law : (t : Nodes) (session : ℕ) (x : OneOp) (r : OneAnswer × Nodes) (q : List ℕ) (n m : Node) → outcome_of t session x ≡ Ok r → get t q ≡ Some n
    → get r.1 q ≡ Some m → IsLater n m
owner_law t session (Create path bytes mode) r q n m e a b = later_created t session path bytes mode r q n m (create_done t session path bytes mode r e) a b
owner_law t session (Delete path version) r q n m e a b =
    later_same t q n m a (removed_is t path q m (ap (λ (u : Nodes). get u q) (sym (delete_done t session path version r e)) ∙ b))
owner_law t session (Set path bytes version) r q n m e a b =
    let d = set_done t session path bytes version r e in
    later_put t path (set_node bytes d.old) q n m
    (λ y there. subst (λ (z : Node). IsLater z (set_node bytes d.old)) (same_Some d.old y (sym d.there ∙ there)) (refl, omega arith, omega arith)) a
    (ap (λ (u : Nodes). get u q) (sym d.is) ∙ b)
owner_law t session (Check path version) r q n m e a b = later_same t q n m a (ap (λ (u : Nodes). get u q) (sym (check_done t session path version r e)) ∙ b)
owner_law t session (Get path) r q n m e a b = later_same t q n m a (ap (λ (u : Nodes). get u q) (sym (get_done t session path r e)) ∙ b)
owner_law t session (Children path) r q n m e a b = later_same t q n m a (ap (λ (u : Nodes). get u q) (sym (children_done t session path r e)) ∙ b)

-- no node of a session is put
put_owns_none : (t : Nodes) (k : ℕ) (p : List ℕ) (o : Option Node) → OwnsNone t k → is_owned k o ≡ false → OwnsNone (with_node t p o) k
put_owns_none t k p o none fresh q = ap (is_owned k) (get-with_node t p o q) ∙ go (same_path q p)
  where
    go : (b : Bool) → is_owned k (cond b o (get t q)) ≡ false
    go true = fresh
    go false = none q

-- the owner of a node that a session makes is no other session
new_is_other : (k session : ℕ) (mode : Mode) → (k ≡ session → ⊥) → is_owner k (owner_of mode session) ≡ false
new_is_other k session Lasting apart = refl
new_is_other k session Ephemeral apart = ne_eqb session k (λ e. apart (sym e))
new_is_other k session Counted apart = refl
new_is_other k session EphemeralCounted apart = ne_eqb session k (λ e. apart (sym e))

-- an operation of another session leaves a session that owns no node without one
one_owns_none : (t : Nodes) (k session : ℕ) (x : OneOp) (r : OneAnswer × Nodes) → (k ≡ session → ⊥) → OwnsNone t k → outcome_of t session x ≡ Ok r
    → OwnsNone r.1 k
one_owns_none t k session (Create path bytes mode) r apart none e =
    let d = create_done t session path bytes mode r e in
    let old : is_owned k (Some (parent_after mode d.parent)) ≡ false = ap (is_owned k) (sym d.there) ∙ none (parent_of path) in
    subst (λ (u : Nodes). OwnsNone u k) (sym d.is)
    (put_owns_none _ k (made_path path mode d.parent) (Some (new_node bytes mode session))
    (put_owns_none t k (parent_of path) (Some (parent_after mode d.parent)) none old)
    (new_is_other k session mode apart))
one_owns_none t k session (Delete path version) r apart none e =
    subst (λ (u : Nodes). OwnsNone u k) (sym (delete_done t session path version r e)) (put_owns_none t k path None none refl)
one_owns_none t k session (Set path bytes version) r apart none e =
    let d = set_done t session path bytes version r e in
    let old : is_owned k (Some (set_node bytes d.old)) ≡ false = ap (is_owned k) (sym d.there) ∙ none path in
    subst (λ (u : Nodes). OwnsNone u k) (sym d.is) (put_owns_none t k path (Some (set_node bytes d.old)) none old)
one_owns_none t k session (Check path version) r apart none e = subst (λ (u : Nodes). OwnsNone u k) (sym (check_done t session path version r e)) none
one_owns_none t k session (Get path) r apart none e = subst (λ (u : Nodes). OwnsNone u k) (sym (get_done t session path r e)) none
one_owns_none t k session (Children path) r apart none e = subst (λ (u : Nodes). OwnsNone u k) (sym (children_done t session path r e)) none

-- what a run leaves; where it fails, the tree given
abbrev pub left : Nodes → Run → Nodes
left t (Ok r) = r.1
left t (Err e) = t

-- an answer before a run's answers changes nothing of what a session owns after the run
left-front : (t : Nodes) (a : OneAnswer) (r : Run) (k : ℕ) → OwnsNone t k → ((u : Nodes) → OwnsNone u k → OwnsNone (left u r) k)
    → OwnsNone (left t (with_front a r)) k
left-front t a (Ok r) k none ih = ih t none
left-front t a (Err e) k none ih = none

-- a run of another session leaves a session that owns no node without one
all_owns_none : (t : Nodes) (k session place : ℕ) (xs : List OneOp) → (k ≡ session → ⊥) → OwnsNone t k → (u : Nodes) → OwnsNone u k
    → OwnsNone (left u (run_of t session place xs)) k
unfolding run_of
all_owns_none t k session place [] apart none u old = none
all_owns_none t k session place (x ∷ xs) apart none u old =
    go (outcome_of t session x) refl (λ v fresh. all_owns_none v k session (place + 1) xs apart fresh)
  where
    go : (o : Outcome) → outcome_of t session x ≡ o
        → ((v : Nodes) → OwnsNone v k → (w : Nodes) → OwnsNone w k → OwnsNone (left w (run_of v session (place + 1) xs)) k)
        → OwnsNone (left u (then_rest o place (λ next. run_of next session (place + 1) xs))) k
    go (Err why) e ih = old
    go (Ok r) e ih = left-front u r.0 (run_of r.1 session (place + 1) xs) k old (ih r.1 (one_owns_none t k session x r apart none e))

-- a request of one operation of another session leaves a session that owns no node without one
after_one_owns_none : (t : Nodes) (k session : ℕ) (x : OneOp) (o : Outcome) → outcome_of t session x ≡ o → (k ≡ session → ⊥) → OwnsNone t k
    → OwnsNone (after_one t o).1 k
after_one_owns_none t k session x (Ok r) e apart none = one_owns_none t k session x r apart none e
after_one_owns_none t k session x (Err why) e apart none = none

-- a request of many operations leaves a session without nodes if its run does
after_all_owns_none : (t : Nodes) (k : ℕ) (r : Run) → OwnsNone (left t r) k → OwnsNone (after_all t r).1 k
after_all_owns_none t k (Ok r) none = none
after_all_owns_none t k (Err e) none = none

-- a request of another session leaves a session that owns no node without one
pub request_owns_none : (t : Nodes) (k session : ℕ) (x : MetaOp) → (k ≡ session → ⊥) → OwnsNone t k → OwnsNone (after_request t session x).1 k
unfolding after_request
request_owns_none t k session (op.One x) apart none = after_one_owns_none t k session x (outcome_of t session x) refl apart none
request_owns_none t k session (op.Multi ops) apart none = after_all_owns_none t k (run_of t session 0 ops) (all_owns_none t k session 0 ops apart none t none)

-- after a session's end a path has its node, unless the session owned it
pub get-without_session : (t : Nodes) (session : ℕ) (q : List ℕ) → get (without_session t session) q ≡ cond (not (is_owned session (get t q))) (get t q) None
unfolding without_session
get-without_session t session q =
    get-retain_keys t (λ path. not (is_owned session (get t path))) q
    (λ x tied. ap (λ (p : List ℕ). not (is_owned session (get t p))) (sym (exact_bytes q x tied)))

-- a node that is kept unless a session owns it is not the session's
own_gone : (b : Bool) (k : ℕ) (o : Option Node) → is_owned k o ≡ b → is_owned k (cond (not b) o None) ≡ false
own_gone true k o e = refl
own_gone false k o e = e

-- a session that ended owns no node
pub ended_own : (t : Nodes) (k : ℕ) → OwnsNone (without_session t k) k
ended_own t k q = ap (is_owned k) (get-without_session t k q) ∙ own_gone (is_owned k (get t q)) k (get t q) refl

-- a node that is no session's is not the session's where it is taken away or kept
other_gone : (b : Bool) (k : ℕ) (o : Option Node) → is_owned k o ≡ false → is_owned k (cond b o None) ≡ false
other_gone true k o e = e
other_gone false k o e = refl

-- the end of a session leaves another one that owns no node without one
pub ended_other : (t : Nodes) (k other : ℕ) → OwnsNone t k → OwnsNone (without_session t other) k
ended_other t k other none q = ap (is_owned k) (get-without_session t other q) ∙ other_gone (not (is_owned other (get t q))) k (get t q) (none q)

-- What an operation that succeeded met and leaves.
use Rattle.std.proofs.Common.{◌≡◌, ℕ, ◌+◌, ◌-◌, ◌^◌, Bool, true, false, cond, not, ◌&&◌, ◌==◌, nat_le, List}
use Rattle.std.proofs.Common.{length, Option, Some, None, Result, Ok, Err, refl, sym, ap, is_some, bytes_eq}
use Rattle.std.specs.FinMap.{get, insert, remove}
use Rattle.dl_types.specs.declared.mode.Mode.{Mode}
use Rattle.dl_types.specs.declared.one_op.OneOp.TheVariants.{Create, Delete, Set, Check, Get, Children}
use Rattle.dl_types.specs.declared.one_answer.OneAnswer.{OneAnswer}
use Rattle.dl_types.specs.declared.one_answer.OneAnswer.TheVariants.{Made, Done}
use Rattle.dl_types.specs.declared.why.Why.TheVariants.{NodeExists, BadVersion, NotEmpty, EphemeralParent, Spent}
use Rattle.dl_tree.specs.declared.node.Node.{Node}
use Rattle.dl_tree.specs.Paths.{parent_of, root}
use Rattle.dl_tree.specs.Trees.{Nodes, Outcome, fits, create_outcome, child_outcome, set_outcome, delete_outcome, check_outcome, get_outcome}
use Rattle.dl_tree.specs.Trees.{children_outcome, child_names, outcome_of, made_path, is_counted, parent_after, new_node, parent_in}

-- what is done behind a guard that refuses is done without it
pub guard_ok : {A E : Type 0} (b : Bool) (d : E) (x : Result A E) (y : A) → cond b (Err d) x ≡ Ok y → x ≡ Ok y
guard_ok true d x y e = absurd (cc)
guard_ok false d x y e = e

-- what is done where a test holds, and is refused elsewhere, is done without the test
chosen_ok : {A E : Type 0} (b : Bool) (d : E) (x : Result A E) (y : A) → cond b x (Err d) ≡ Ok y → x ≡ Ok y
chosen_ok true d x y e = e
chosen_ok false d x y e = absurd (cc)

-- two equal outcomes that are done have one answer and one tree
same_ok : (x y : OneAnswer × Nodes) → ◌≡◌ {A = Outcome} (Ok x) (Ok y) → x ≡ y
same_ok x y e = cc

-- what is done only where nothing is there shows that nothing is there
none_of : {A E B : Type 0} (o : Option A) (d : E) (x : Result B E) (y : B) → cond (is_some o) (Err d) x ≡ Ok y → o ≡ None
none_of None d x y e = refl
none_of (Some a) d x y e = absurd (cc)

-- a set that succeeded
pub record IsSet (t : Nodes) (path bytes : List ℕ) (u : Nodes) : Type 0 where
  pub old : Node
  pub there : get t path ≡ Some old
  pub is : u ≡ insert t path (record old { bytes = bytes; version = old.version + 1 })

-- a set that is done, of the node that is there or not, is what a set is
set_is : (t : Nodes) (path bytes : List ℕ) (version : Option ℕ) (r : OneAnswer × Nodes) (o : Option Node) → get t path ≡ o
    → set_outcome t path bytes version o ≡ Ok r → IsSet t path bytes r.1
set_is t path bytes version r None k e = absurd (cc)
set_is t path bytes version r (Some n) k e =
    let a = guard_ok (not (fits version n)) (BadVersion n.version) _ r e in
    let b = guard_ok (n.version == 2 ^ 64 - 1) Spent _ r a in
    record { old = n; there = k; is = ap (λ (x : OneAnswer × Nodes). x.1) (sym (same_ok _ _ b)) }

-- a set that is done is what a set is
pub set_done : (t : Nodes) (session : ℕ) (path bytes : List ℕ) (version : Option ℕ) (r : OneAnswer × Nodes)
    → outcome_of t session (Set path bytes version) ≡ Ok r → IsSet t path bytes r.1
unfolding outcome_of
set_done t session path bytes version r e = set_is t path bytes version r (get t path) refl e

-- a creation that succeeded
pub record IsCreated (t : Nodes) (session : ℕ) (path bytes : List ℕ) (mode : Mode) (r : OneAnswer × Nodes) : Type 0 where
  pub parent : Node
  pub there : get t (parent_of path) ≡ Some parent
  pub free : get t (made_path path mode parent) ≡ None
  pub answer : r.0 ≡ Made (made_path path mode parent)
  pub is : r.1 ≡ insert (insert t (parent_of path) (parent_after mode parent)) (made_path path mode parent) (new_node bytes mode session)

-- a parent that is found behind a guard is the one that is there
parent_is : {A : Type 0} (b : Bool) (o : Option A) (x : A) → cond b None o ≡ Some x → o ≡ Some x
parent_is true o x e = absurd (cc)
parent_is false o x e = e

-- a creation that is done, below the parent that is there or not, is what a creation is
create_is : (t : Nodes) (session : ℕ) (path bytes : List ℕ) (mode : Mode) (r : OneAnswer × Nodes) (o : Option Node) → parent_in t path mode ≡ o
    → create_outcome t session path bytes mode o ≡ Ok r → IsCreated t session path bytes mode r
unfolding child_outcome
create_is t session path bytes mode r None k e = absurd (cc)
create_is t session path bytes mode r (Some n) k e =
    let a = guard_ok (is_some n.owner) EphemeralParent _ r e in
    let b = guard_ok (is_counted mode && nat_le (10 ^ 10) n.counter) Spent _ r a in
    let c = guard_ok (is_some (get t (made_path path mode n))) NodeExists _ r b in
    let same = same_ok _ _ c in
    record {
      parent = n;
      there = parent_is _ _ _ k;
      free = none_of (get t (made_path path mode n)) NodeExists _ r b;
      answer = ap (λ (x : OneAnswer × Nodes). x.0) (sym same);
      is = ap (λ (x : OneAnswer × Nodes). x.1) (sym same);
    }

-- a creation that is done is what a creation is
pub create_done : (t : Nodes) (session : ℕ) (path bytes : List ℕ) (mode : Mode) (r : OneAnswer × Nodes) → outcome_of t session (Create path bytes mode) ≡ Ok r
    → IsCreated t session path bytes mode r
unfolding outcome_of
create_done t session path bytes mode r e = create_is t session path bytes mode r (parent_in t path mode) refl e

-- a deletion that is done, of the node that is there or not, leaves the tree without that path
delete_is : (t : Nodes) (path : List ℕ) (version : Option ℕ) (r : OneAnswer × Nodes) (o : Option Node) → delete_outcome t path version o ≡ Ok r
    → r.1 ≡ remove t path
delete_is t path version r None e = absurd (cc)
delete_is t path version r (Some n) e =
    let a = guard_ok (bytes_eq path root) (NotEmpty (length (child_names t path))) _ r e in
    let b = guard_ok (not (fits version n)) (BadVersion n.version) _ r a in
    let c = guard_ok (not (length (child_names t path) == 0)) (NotEmpty (length (child_names t path))) (Ok (Done, remove t path)) r b in
    ap (λ (x : OneAnswer × Nodes). x.1) (sym (same_ok _ _ c))

-- a deletion that is done leaves the tree without that path
pub delete_done : (t : Nodes) (session : ℕ) (path : List ℕ) (version : Option ℕ) (r : OneAnswer × Nodes) → outcome_of t session (Delete path version) ≡ Ok r
    → r.1 ≡ remove t path
unfolding outcome_of
delete_done t session path version r e = delete_is t path version r (get t path) e

-- a check that is done, of the node that is there or not, leaves the tree
check_is : (t : Nodes) (version : Option ℕ) (r : OneAnswer × Nodes) (o : Option Node) → check_outcome t version o ≡ Ok r → r.1 ≡ t
check_is t version r None e = absurd (cc)
check_is t version r (Some n) e = ap (λ (x : OneAnswer × Nodes). x.1) (sym (same_ok _ _ (chosen_ok (fits version n) (BadVersion n.version) _ r e)))

-- a check that is done leaves the tree
pub check_done : (t : Nodes) (session : ℕ) (path : List ℕ) (version : Option ℕ) (r : OneAnswer × Nodes) → outcome_of t session (Check path version) ≡ Ok r
    → r.1 ≡ t
unfolding outcome_of
check_done t session path version r e = check_is t version r (get t path) e

-- a read that is done, of the node that is there or not, leaves the tree
get_is : (t : Nodes) (r : OneAnswer × Nodes) (o : Option Node) → get_outcome t o ≡ Ok r → r.1 ≡ t
get_is t r None e = absurd (cc)
get_is t r (Some n) e = ap (λ (x : OneAnswer × Nodes). x.1) (sym (same_ok _ _ e))

-- a read that is done leaves the tree
pub get_done : (t : Nodes) (session : ℕ) (path : List ℕ) (r : OneAnswer × Nodes) → outcome_of t session (Get path) ≡ Ok r → r.1 ≡ t
unfolding outcome_of
get_done t session path r e = get_is t r (get t path) e

-- a listing that is done, of the node that is there or not, leaves the tree
names_is : (t : Nodes) (path : List ℕ) (r : OneAnswer × Nodes) (o : Option Node) → children_outcome t path o ≡ Ok r → r.1 ≡ t
names_is t path r None e = absurd (cc)
names_is t path r (Some n) e = ap (λ (x : OneAnswer × Nodes). x.1) (sym (same_ok _ _ e))

-- a listing that is done leaves the tree
pub children_done : (t : Nodes) (session : ℕ) (path : List ℕ) (r : OneAnswer × Nodes) → outcome_of t session (Children path) ≡ Ok r → r.1 ≡ t
unfolding outcome_of
children_done t session path r e = names_is t path r (get t path) e

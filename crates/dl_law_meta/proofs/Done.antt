-- What an operation that succeeded met and leaves, whole: also the version that fitted, and what a deletion found.
use Rattle.std.proofs.Common.{◌≡◌, ℕ, ◌+◌, ◌-◌, ◌^◌, Bool, true, false, cond, not, ◌&&◌, ◌==◌, nat_le, List, [], ◌∷◌, length, Option, Some, None, Result}
use Rattle.std.proofs.Common.{Ok, Err, refl, sym, ap, ◌∙◌, subst, arith, is_some, bytes_eq, eqb-true}
use Rattle.std.proofs.lemmas.Bool.{not-false, true≢false}
use Rattle.std.proofs.lemmas.Option.{same_Some}
use Rattle.std.proofs.lemmas.Bool.Decides.{nat_tests}
use Rattle.std.specs.FinMap.{get, insert, remove}
use Rattle.dl_types.specs.declared.mode.Mode.{Mode}
use Rattle.dl_types.specs.declared.one_op.OneOp.{OneOp}
use Rattle.dl_types.specs.declared.one_op.OneOp.TheVariants.{Create, Delete, Set, Check}
use Rattle.dl_types.specs.declared.one_answer.OneAnswer.{OneAnswer}
use Rattle.dl_types.specs.declared.one_answer.OneAnswer.TheVariants.{Made, Done, Version}
use Rattle.dl_types.specs.declared.why.Why.TheVariants.{NodeExists, BadVersion, NotEmpty, EphemeralParent, Spent}
use Rattle.dl_tree.specs.declared.node.Node.{Node}
use Rattle.dl_tree.specs.Paths.{parent_of, root}
use Rattle.dl_tree.specs.Laws.{set_node}
use Rattle.dl_tree.specs.Trees.{Nodes, Outcome, Run, fits, create_outcome, child_outcome, set_outcome, delete_outcome, check_outcome, child_names}
use Rattle.dl_tree.specs.Trees.{outcome_of, run_of, then_rest, with_front, made_path, is_counted, parent_after, new_node, parent_in}
use Rattle.dl_law_meta.specs.Keyed.{HasVersion}

-- a test that would have given an error did not hold
pub guard_ok : {A E : Type 0} (b : Bool) (d : E) (x : Result A E) (y : A) → cond b (Err d) x ≡ Ok y → (b ≡ false) × (x ≡ Ok y)
guard_ok true d x y e = absurd (cc)
guard_ok false d x y e = (refl, e)

-- a choice that gives a value was made, and gives that value
chosen_ok : {A E : Type 0} (b : Bool) (d : E) (x : Result A E) (y : A) → cond b x (Err d) ≡ Ok y → (b ≡ true) × (x ≡ Ok y)
chosen_ok true d x y e = (refl, e)
chosen_ok false d x y e = absurd (cc)

-- outcomes that are the same have the same value
same_ok : (x y : OneAnswer × Nodes) → ◌≡◌ {A = Outcome} (Ok x) (Ok y) → x ≡ y
same_ok x y e = cc

-- a value that is not there is none
none_of : {A : Type 0} (o : Option A) → is_some o ≡ false → o ≡ None
none_of None e = refl
none_of (Some a) e = absurd (true≢false e)

-- a version that fits is the one that is named
fitting_is : (named : Option ℕ) (n : Node) → fits named n ≡ true → HasVersion named n
fitting_is None n e = tt
fitting_is (Some v) n e = sym (eqb-true v n.version e)

-- a set that succeeded
pub record IsSetAt (t : Nodes) (path bytes : List ℕ) (named : Option ℕ) (u : Nodes) : Type 0 where
  pub old : Node
  pub there : get t path ≡ Some old
  pub fitting : HasVersion named old
  pub is : u ≡ insert t path (set_node bytes old)

-- a set that is done has set its node
set_is : (t : Nodes) (path bytes : List ℕ) (named : Option ℕ) (r : OneAnswer × Nodes) (o : Option Node) → get t path ≡ o
    → set_outcome t path bytes named o ≡ Ok r
    → IsSetAt t path bytes named r.1
set_is t path bytes named r None k e = absurd (cc)
set_is t path bytes named r (Some n) k e =
    let a = guard_ok (not (fits named n)) (BadVersion n.version) _ r e in
    let b = guard_ok (n.version == 2 ^ 64 - 1) Spent _ r a.1 in
    record { old = n; there = k; fitting = fitting_is named n (not-false _ a.0); is = ap (λ (x : OneAnswer × Nodes). x.1) (sym (same_ok _ _ b.1)) }

-- the same of a set as an operation
pub set_done : (t : Nodes) (session : ℕ) (path bytes : List ℕ) (named : Option ℕ) (r : OneAnswer × Nodes) → outcome_of t session (Set path bytes named) ≡ Ok r
    → IsSetAt t path bytes named r.1
unfolding outcome_of
set_done t session path bytes named r e = set_is t path bytes named r (get t path) refl e

-- the answer tells the version of the node that was set
set_tells : (t : Nodes) (path bytes : List ℕ) (named : Option ℕ) (r : OneAnswer × Nodes) (o : Option Node) → get t path ≡ o
    → set_outcome t path bytes named o ≡ Ok r
    → (n : Node) → get t path ≡ Some n → r.0 ≡ Version (n.version + 1)
set_tells t path bytes named r None k e n f = absurd (cc)
set_tells t path bytes named r (Some m) k e n f =
    let a = guard_ok (not (fits named m)) (BadVersion m.version) _ r e in
    let b = guard_ok (m.version == 2 ^ 64 - 1) Spent _ r a.1 in
    ap (λ (x : OneAnswer × Nodes). x.0) (sym (same_ok _ _ b.1)) ∙ ap (λ (x : Node). Version (x.version + 1)) (same_Some m n (sym k ∙ f))

-- a set answers with the version that comes next
pub set_told : (t : Nodes) (session : ℕ) (path bytes : List ℕ) (named : Option ℕ) (r : OneAnswer × Nodes) → outcome_of t session (Set path bytes named) ≡ Ok r
    → (n : Node) → get t path ≡ Some n → r.0 ≡ Version (n.version + 1)
unfolding outcome_of
set_told t session path bytes named r e n f = set_tells t path bytes named r (get t path) refl e n f

-- a creation that succeeded
pub record IsCreatedAt (t : Nodes) (session : ℕ) (path bytes : List ℕ) (mode : Mode) (r : OneAnswer × Nodes) : Type 0 where
  pub parent : Node
  pub there : get t (parent_of path) ≡ Some parent
  pub lasts : parent.owner ≡ None
  pub room : (is_counted mode && nat_le (10 ^ 10) parent.counter) ≡ false
  pub free : get t (made_path path mode parent) ≡ None
  pub told : r.0 ≡ Made (made_path path mode parent)
  pub is : r.1 ≡ insert (insert t (parent_of path) (parent_after mode parent)) (made_path path mode parent) (new_node bytes mode session)

-- a parent that a choice gives is the one that is there
parent_is : {A : Type 0} (b : Bool) (o : Option A) (x : A) → cond b None o ≡ Some x → o ≡ Some x
parent_is true o x e = absurd (cc)
parent_is false o x e = e

-- a create that is done has made its node
create_is : (t : Nodes) (session : ℕ) (path bytes : List ℕ) (mode : Mode) (r : OneAnswer × Nodes) (o : Option Node) → parent_in t path mode ≡ o
    → create_outcome t session path bytes mode o ≡ Ok r → IsCreatedAt t session path bytes mode r
unfolding child_outcome
create_is t session path bytes mode r None k e = absurd (cc)
create_is t session path bytes mode r (Some n) k e =
    let a = guard_ok (is_some n.owner) EphemeralParent _ r e in
    let b = guard_ok (is_counted mode && nat_le (10 ^ 10) n.counter) Spent _ r a.1 in
    let c = guard_ok (is_some (get t (made_path path mode n))) NodeExists _ r b.1 in
    let same = same_ok _ _ c.1 in
    record {
      parent = n;
      there = parent_is _ _ _ k;
      lasts = none_of n.owner a.0;
      room = b.0;
      free = none_of (get t (made_path path mode n)) c.0;
      told = ap (λ (x : OneAnswer × Nodes). x.0) (sym same);
      is = ap (λ (x : OneAnswer × Nodes). x.1) (sym same);
    }

-- the same of a create as an operation
pub create_done : (t : Nodes) (session : ℕ) (path bytes : List ℕ) (mode : Mode) (r : OneAnswer × Nodes) → outcome_of t session (Create path bytes mode) ≡ Ok r
    → IsCreatedAt t session path bytes mode r
unfolding outcome_of
create_done t session path bytes mode r e = create_is t session path bytes mode r (parent_in t path mode) refl e

-- a deletion that succeeded
pub record IsDeletedAt (t : Nodes) (path : List ℕ) (named : Option ℕ) (u : Nodes) : Type 0 where
  pub old : Node
  pub there : get t path ≡ Some old
  pub fitting : HasVersion named old
  pub childless : child_names t path ≡ []
  pub is : u ≡ remove t path

-- a list that is not said to have items has none
nil_of : {A : Type 0} (xs : List A) → not (length xs == 0) ≡ false → xs ≡ []
nil_of [] e = refl
nil_of (x ∷ xs) e = absurd (grind (arith, nat_tests, e))

-- a delete that is done has removed its node
delete_is : (t : Nodes) (path : List ℕ) (named : Option ℕ) (r : OneAnswer × Nodes) (o : Option Node) → get t path ≡ o → delete_outcome t path named o ≡ Ok r
    → IsDeletedAt t path named r.1
delete_is t path named r None k e = absurd (cc)
delete_is t path named r (Some n) k e =
    let a = guard_ok (bytes_eq path root) (NotEmpty (length (child_names t path))) _ r e in
    let b = guard_ok (not (fits named n)) (BadVersion n.version) _ r a.1 in
    let c = guard_ok (not (length (child_names t path) == 0)) (NotEmpty (length (child_names t path))) (Ok (Done, remove t path)) r b.1 in
    record {
      old = n;
      there = k;
      fitting = fitting_is named n (not-false _ b.0);
      childless = nil_of (child_names t path) c.0;
      is = ap (λ (x : OneAnswer × Nodes). x.1) (sym (same_ok _ _ c.1));
    }

-- the same of a delete as an operation
pub delete_done : (t : Nodes) (session : ℕ) (path : List ℕ) (named : Option ℕ) (r : OneAnswer × Nodes) → outcome_of t session (Delete path named) ≡ Ok r
    → IsDeletedAt t path named r.1
unfolding outcome_of
delete_done t session path named r e = delete_is t path named r (get t path) refl e

-- a check that succeeded
pub record IsCheckedAt (t : Nodes) (path : List ℕ) (named : Option ℕ) (u : Nodes) : Type 0 where
  pub old : Node
  pub there : get t path ≡ Some old
  pub fitting : HasVersion named old
  pub is : u ≡ t

-- a check that is done has found its node
check_is : (t : Nodes) (path : List ℕ) (named : Option ℕ) (r : OneAnswer × Nodes) (o : Option Node) → get t path ≡ o → check_outcome t named o ≡ Ok r
    → IsCheckedAt t path named r.1
check_is t path named r None k e = absurd (cc)
check_is t path named r (Some n) k e =
    let a = chosen_ok (fits named n) (BadVersion n.version) _ r e in
    record { old = n; there = k; fitting = fitting_is named n a.0; is = ap (λ (x : OneAnswer × Nodes). x.1) (sym (same_ok _ _ a.1)) }

-- the same of a check as an operation
pub check_done : (t : Nodes) (session : ℕ) (path : List ℕ) (named : Option ℕ) (r : OneAnswer × Nodes) → outcome_of t session (Check path named) ≡ Ok r
    → IsCheckedAt t path named r.1
unfolding outcome_of
check_done t session path named r e = check_is t path named r (get t path) refl e

-- operations that all succeeded: what the first one met and leaves, and the others on that tree
pub record Goes (A : Nodes → Type 0) (session place : ℕ) (xs : List OneOp) (u : Nodes) : Type 0 where
  pub next : Nodes
  pub met : A next
  pub answers : List OneAnswer
  pub rest : run_of next session place xs ≡ Ok (answers, u)

-- operations behind one that is done go on from the tree that it leaves
goes_by : (A : Nodes → Type 0) (session place : ℕ) (xs : List OneOp) (a : OneAnswer × Nodes) (r : List OneAnswer × Nodes) → A a.1 → (o : Run)
    → run_of a.1 session place xs ≡ o → with_front a.0 o ≡ Ok r → Goes A session place xs r.1
goes_by A session place xs a r met (Err w) j e = absurd (cc)
goes_by A session place xs a r met (Ok b) j e =
    let same : ◌≡◌ {A = List OneAnswer × Nodes} (a.0 ∷ b.0, b.1) r = cc in
    record { next = a.1; met = met; answers = b.0; rest = j ∙ ap (λ (x : List OneAnswer × Nodes). Ok (b.0, x.1)) same }

-- where operations are done, the first of them is, and the others go on behind it
first_goes : (A : Nodes → Type 0) (t : Nodes) (session place : ℕ) (x : OneOp) (xs : List OneOp) (r : List OneAnswer × Nodes)
    → ((a : OneAnswer × Nodes) → outcome_of t session x ≡ Ok a → A a.1) → (o : Outcome) → outcome_of t session x ≡ o
    → then_rest o place (λ next. run_of next session (place + 1) xs) ≡ Ok r → Goes A session (place + 1) xs r.1
first_goes A t session place x xs r each (Err why) k e = absurd (cc)
first_goes A t session place x xs r each (Ok a) k e = goes_by A session (place + 1) xs a r (each a k) (run_of a.1 session (place + 1) xs) refl e

-- the same of a request's operations
pub goes : (A : Nodes → Type 0) (t : Nodes) (session place : ℕ) (x : OneOp) (xs : List OneOp) (r : List OneAnswer × Nodes)
    → ((a : OneAnswer × Nodes) → outcome_of t session x ≡ Ok a → A a.1)
    → run_of t session place (x ∷ xs) ≡ Ok r → Goes A session (place + 1) xs r.1
unfolding run_of
goes A t session place x xs r each e = first_goes A t session place x xs r each (outcome_of t session x) refl e

-- the same, with the first answer
pub record GoesTold (A : OneAnswer × Nodes → Type 0) (session place : ℕ) (xs : List OneOp) (r : List OneAnswer × Nodes) : Type 0 where
  pub first : OneAnswer × Nodes
  pub met : A first
  pub others : List OneAnswer × Nodes
  pub rest : run_of first.1 session place xs ≡ Ok others
  pub is : r ≡ (first.0 ∷ others.0, others.1)

-- the answers behind that of an operation are those of the others
told_by : (A : OneAnswer × Nodes → Type 0) (session place : ℕ) (xs : List OneOp) (a : OneAnswer × Nodes) (r : List OneAnswer × Nodes) → A a → (o : Run)
    → run_of a.1 session place xs ≡ o → with_front a.0 o ≡ Ok r → GoesTold A session place xs r
told_by A session place xs a r met (Err w) j e = absurd (cc)
told_by A session place xs a r met (Ok b) j e =
    let same : ◌≡◌ {A = List OneAnswer × Nodes} (a.0 ∷ b.0, b.1) r = cc in record { first = a; met = met; others = b; rest = j; is = sym same }

-- where operations are done, the first is answered, and the others behind it
first_told : (A : OneAnswer × Nodes → Type 0) (t : Nodes) (session place : ℕ) (x : OneOp) (xs : List OneOp) (r : List OneAnswer × Nodes)
    → ((a : OneAnswer × Nodes) → outcome_of t session x ≡ Ok a → A a) → (o : Outcome) → outcome_of t session x ≡ o
    → then_rest o place (λ next. run_of next session (place + 1) xs) ≡ Ok r → GoesTold A session (place + 1) xs r
first_told A t session place x xs r each (Err why) k e = absurd (cc)
first_told A t session place x xs r each (Ok a) k e = told_by A session (place + 1) xs a r (each a k) (run_of a.1 session (place + 1) xs) refl e

-- the same of a request's operations
pub goes_told : (A : OneAnswer × Nodes → Type 0) (t : Nodes) (session place : ℕ) (x : OneOp) (xs : List OneOp) (r : List OneAnswer × Nodes)
    → ((a : OneAnswer × Nodes) → outcome_of t session x ≡ Ok a → A a)
    → run_of t session place (x ∷ xs) ≡ Ok r → GoesTold A session (place + 1) xs r
unfolding run_of
goes_told A t session place x xs r each e = first_told A t session place x xs r each (outcome_of t session x) refl e

-- no operations answer nothing and leave the tree
pub none_told : (t : Nodes) (session place : ℕ) (r : List OneAnswer × Nodes) → run_of t session place [] ≡ Ok r → r ≡ ([], t)
unfolding run_of
none_told t session place r e = let same : ◌≡◌ {A = List OneAnswer × Nodes} ([], t) r = cc in sym same

-- no operation is left
pub goes_no_more : (t : Nodes) (session place : ℕ) (r : List OneAnswer × Nodes) → run_of t session place [] ≡ Ok r → r.1 ≡ t
unfolding run_of
goes_no_more t session place r e = let same : ◌≡◌ {A = List OneAnswer × Nodes} ([], t) r = cc in ap (λ (x : List OneAnswer × Nodes). x.1) (sym same)

-- behind the last operation the tree is what it was
pub ends : (A : Nodes → Type 0) (t : Nodes) (session place : ℕ) (answers : List OneAnswer) (u : Nodes) → A t → run_of t session place [] ≡ Ok (answers, u) → A u
ends A t session place answers u met e = subst A (sym (goes_no_more t session place (answers, u) e)) met

-- The metadata tree: its nodes stand at paths of keys, hold bytes, and have versions of 64 bits; and there are no more than were made.
use Rattle.std.proofs.Common.{◌≡◌, ℕ, suc, ◌+◌, ◌*◌, ◌-◌, ◌^◌, ◌≤◌, Bool, true, false, cond, not, ◌&&◌, ◌||◌, ◌==◌, nat_le, T, List, [], ◌∷◌, ◌++◌}
use Rattle.std.proofs.Common.{length, map, Option, Some, None, is_some, Ok, Err, refl, sym, ap, ◌∙◌, subst, inl, inr, ◌⊎◌, arith, lit<, bytes_eq}
use Rattle.std.specs.List.{AllByRecursion, IsDistinct, list_any}
use Rattle.std.specs.Cmp.{eq_by_cmp_equiv}
use Rattle.std.specs.Cmp.Lexicographic.{slice_cmp, nat_list_cmp_total}
use Rattle.std.specs.Ordering.{nat_cmp, is_lt, is_eq}
use Rattle.std.specs.declared.cmp.Ordering.{Ordering}
use Rattle.std.specs.declared.cmp.Ordering.TheVariants.{Less, Equal, Greater}
use Rattle.std.specs.FinMap.{empty, get, insert, remove, keys, entries, entries_sorted, contains_key-keys, get-empty, get-insert, get-remove}
use Rattle.std.specs.FinMap.Entries.{below_all, is_sorted}
use Rattle.std.proofs.lemmas.Bool.{true≢false, eqb-false}
use Rattle.std.proofs.lemmas.List.{length-map}
use Rattle.std.proofs.lemmas.List.Sums.{length-filter, count_by-le-length}
use Rattle.std.proofs.lemmas.Map.Made.{length-le_from_is_member}
use Rattle.std.proofs.lemmas.Option.{same_Some, none-some}
use Rattle.dl_types.specs.declared.meta_answer.MetaAnswer.{MetaAnswer}
use Rattle.dl_types.specs.declared.meta_op.MetaOp.{MetaOp}
use Rattle.dl_types.specs.declared.meta_op.MetaOp.TheVariants as op
use Rattle.dl_types.specs.declared.mode.Mode.{Mode}
use Rattle.dl_types.specs.declared.one_answer.OneAnswer.{OneAnswer}
use Rattle.dl_types.specs.declared.one_answer.OneAnswer.TheVariants.{Done, Version}
use Rattle.dl_types.specs.declared.one_op.OneOp.{OneOp}
use Rattle.dl_types.specs.declared.one_op.OneOp.TheVariants.{Create, Delete, Set, Check, Get, Children}
use Rattle.dl_types.specs.declared.why.Why.TheVariants.{BadVersion, NotEmpty, EphemeralParent, NodeExists, Spent}
use Rattle.dl_codec.specs.Fields.{IsBytes}
use Rattle.dl_fields.specs.Paths.{IsPathField}
use Rattle.dl_text.specs.Numbers.{most_u64}
use Rattle.dl_tree.specs.declared.node.Node.{Node}
use Rattle.dl_tree.specs.Paths.{root, name_of, parent_of, is_child}
use Rattle.dl_tree.specs.Trees.{Nodes, children, child_names, is_counted, fits, made_path, parent_after, new_node, child_outcome, parent_in}
use Rattle.dl_tree.specs.Trees.{Outcome, create_outcome, delete_outcome, set_outcome, check_outcome, get_outcome, children_outcome, outcome_of, Run, with_front}
use Rattle.dl_tree.specs.Trees.{then_rest, run_of, after_one, after_all, after_request, is_owned, without_session}
use Rattle.dl_tree.proofs.LawLemmas.{get-without_session}
use Rattle.dl_tree.proofs.MapLemmas.{same_path, path_is}
use Rattle.dl_transcript.specs.Ranges.{IsU64}
use Rattle.dl_rules_client.specs.EventRanges.{OneAnswerFits, WhyFits, AnswerFits}
use Rattle.dl_rules_client.proofs.PathRanges.{IsKeyPath, path_has_form}
use Rattle.dl_machine.specs.Growth.{ops_of}
use Rattle.dl_machine.proofs.Movements.{cond_both}

-- ---- trees

-- a path at which a node may stand
abbrev pub IsTreePath : List ℕ → Type 0
IsTreePath path = (path ≡ root) ⊎ IsKeyPath path

-- such a path has the form of paths
pub tree_path_has_form : (path : List ℕ) → IsTreePath path → IsPathField path
tree_path_has_form path (inl e) = subst IsPathField (sym e) (([], tt, refl), lit< tt)
tree_path_has_form path (inr is) = path_has_form path is

-- A node at a path.
pub record EntryFits (path : List ℕ) (n : Node) : Type 0 where
  pub at : IsTreePath path
  pub bytes : IsBytes n.bytes
  pub version : n.version ≤ most_u64

-- The nodes of a tree, and paths, at most so many, among which all of theirs are.
pub record TreeFits (most : ℕ) (t : Nodes) : Type 0 where
  pub each : (path : List ℕ) (n : Node) → get t path ≡ Some n → EntryFits path n
  pub paths : List (List ℕ)
  pub few : length paths ≤ most
  pub within : (path : List ℕ) → is_some (get t path) ≡ true → list_any (same_path path) paths ≡ true

-- a greater bound holds too
pub tree_more : (m k : ℕ) (t : Nodes) → m ≤ k → TreeFits m t → TreeFits k t
tree_more m k t h fit = record { each = fit.each; paths = fit.paths; few = omega (arith, h, fit.few); within = fit.within }

-- a tree without nodes
abbrev pub no_nodes : Nodes
no_nodes = empty

-- no node stands in it
none_there : (path : List ℕ) → get no_nodes path ≡ None
none_there path = get-empty (slice_cmp nat_cmp) path

-- it fits
pub empty_fits : TreeFits 0 no_nodes
empty_fits = record {
  each = λ path n e. absurd (none-some n (sym (none_there path) ∙ e));
  paths = [];
  few = omega arith;
  within = λ path some. absurd (true≢false (sym some ∙ ap is_some (none_there path)));
}

-- ---- changes

-- a node that is put at a path
pub insert_fits : (most : ℕ) (t : Nodes) (p : List ℕ) (n : Node) → EntryFits p n → TreeFits most t → TreeFits (suc most) (insert t p n)
insert_fits most t p n is fit = record {
  each = λ q m e. entry q m (same_path q p) refl (sym (get-insert nat_list_cmp_total t p n q) ∙ e);
  paths = p ∷ fit.paths;
  few = omega (arith, fit.few);
  within = λ q some. among q (same_path q p) (sym (ap is_some (get-insert nat_list_cmp_total t p n q)) ∙ some);
}
  where
    entry : (q : List ℕ) (m : Node) (b : Bool) → same_path q p ≡ b → cond b (Some n) (get t q) ≡ Some m → EntryFits q m
    entry q m true same e = subst (λ (x : List ℕ). EntryFits x m) (sym (path_is q p same)) (subst (EntryFits p) (same_Some n m e) is)
    entry q m false other e = fit.each q m e

    among : (q : List ℕ) (b : Bool) → is_some (cond b (Some n) (get t q)) ≡ true → (b || list_any (same_path q) fit.paths) ≡ true
    among q true some = refl
    among q false some = fit.within q some

-- nodes that are kept, or taken away
kept_fits : (most : ℕ) (t u : Nodes) (keeps : List ℕ → Bool) → ((q : List ℕ) → get u q ≡ cond (keeps q) (get t q) None) → TreeFits most t → TreeFits most u
kept_fits most t u keeps is fit = record {
  each = λ q n e. entry q n (keeps q) (sym (is q) ∙ e);
  paths = fit.paths;
  few = fit.few;
  within = λ q some. among q (keeps q) (sym (ap is_some (is q)) ∙ some);
}
  where
    entry : (q : List ℕ) (n : Node) (b : Bool) → cond b (get t q) None ≡ Some n → EntryFits q n
    entry q n true e = fit.each q n e
    entry q n false e = absurd (none-some n e)

    among : (q : List ℕ) (b : Bool) → is_some (cond b (get t q) None) ≡ true → list_any (same_path q) fit.paths ≡ true
    among q true some = fit.within q some
    among q false some = absurd (true≢false (sym some))

-- a choice, and the same turned
turned : {A : Type 0} (b : Bool) (x y : A) → cond b x y ≡ cond (not b) y x
turned true x y = refl
turned false x y = refl

-- a node that is taken away
remove_fits : (most : ℕ) (t : Nodes) (p : List ℕ) → TreeFits most t → TreeFits most (remove t p)
remove_fits most t p fit =
    kept_fits most t (remove t p) (λ q. not (same_path q p))
    (λ q. get-remove nat_list_cmp_total t p q ∙ turned (same_path q p) None (get t q)) fit

-- the nodes of a session that ends are taken away
pub without_fits : (most : ℕ) (t : Nodes) (session : ℕ) → TreeFits most t → TreeFits most (without_session t session)
without_fits most t session fit =
    kept_fits most t (without_session t session) (λ q. not (is_owned session (get t q))) (get-without_session t session) fit

-- ---- children

-- a path that is below others is none of them
first_apart : (o : Ordering) (b : Bool) → T (is_lt o && b) → (is_eq o ≡ false) × T b
first_apart Less b h = (refl, h)
first_apart Equal b h = absurd h
first_apart Greater b h = absurd h

-- the same of the paths of entries
others_apart : (x : List ℕ) (es : List (List ℕ × Node)) → T (below_all (slice_cmp nat_cmp) x es)
    → AllByRecursion (λ y. same_path x y ≡ false) (map (λ (e : List ℕ × Node). e.0) es)
others_apart x [] h = tt
others_apart x (e ∷ es) h =
    let both = first_apart (slice_cmp nat_cmp x e.0) (below_all (slice_cmp nat_cmp) x es) h in (both.0, others_apart x es both.1)

-- two tests that both hold
both_hold : (a b : Bool) → T (a && b) → T a × T b
both_hold true b h = (tt, h)
both_hold false b h = absurd h

-- the paths of entries in order are different
paths_apart : (es : List (List ℕ × Node)) → T (is_sorted (slice_cmp nat_cmp) es) → IsDistinct same_path (map (λ (e : List ℕ × Node). e.0) es)
unfolding IsDistinct
paths_apart [] h = tt
paths_apart (e ∷ es) h =
    let both = both_hold (below_all (slice_cmp nat_cmp) e.0 es) (is_sorted (slice_cmp nat_cmp) es) h in
    (others_apart e.0 es both.0, paths_apart es both.1)

-- a node has no more children than paths were made
children_few : (most : ℕ) (t : Nodes) (path : List ℕ) → TreeFits most t → length (child_names t path) ≤ most
children_few most t path fit =
    let all = length-le_from_is_member (eq_by_cmp_equiv nat_list_cmp_total) (keys t) fit.paths (paths_apart (entries t) (entries_sorted t))
    (λ q among. fit.within q (contains_key-keys t q ∙ among)) in
    omega (arith, length-map (children t path) name_of, length-filter (is_child path) (keys t), count_by-le-length (is_child path) (keys t), all, fit.few)

-- ---- operations

-- what an operation makes has a path of a key, and what it stores is bytes
abbrev pub OneOpFits : OneOp → Type 0
OneOpFits (Create path bytes mode) = ((parent : Node) → IsTreePath (made_path path mode parent)) × IsBytes bytes
OneOpFits (Delete path version) = Unit {0}
OneOpFits (Set path bytes version) = IsBytes bytes
OneOpFits (Check path version) = Unit {0}
OneOpFits (Get path) = Unit {0}
OneOpFits (Children path) = Unit {0}

-- an answer, and the tree that is left; or why there is none
abbrev DoneFits : ℕ → Outcome → Type 0
DoneFits most (Ok r) = OneAnswerFits r.0 × TreeFits most r.1
DoneFits most (Err why) = WhyFits why

-- a creation below a parent
child_fits : (most : ℕ) (t : Nodes) (session : ℕ) (path bytes : List ℕ) (mode : Mode) (parent : Node) → OneOpFits (Create path bytes mode)
    → get t (parent_of path) ≡ Some parent → TreeFits most t → DoneFits (suc (suc most)) (child_outcome t session path bytes mode parent)
unfolding child_outcome
child_fits most t session path bytes mode parent is there fit =
    let D : Outcome → Type 0 = DoneFits (suc (suc most)) in
    let old = fit.each (parent_of path) parent there in
    let made : List ℕ = made_path path mode parent in
    cond_both D (is_some parent.owner) (Err EphemeralParent) _ tt
    (cond_both D (is_counted mode && nat_le (10 ^ 10) parent.counter) (Err Spent) _ tt
    (cond_both D (is_some (get t made)) (Err NodeExists) _ tt (
      tree_path_has_form made (is.0 parent),
      insert_fits (suc most) (insert t (parent_of path) (parent_after mode parent)) made (new_node bytes mode session)
          (record { at = is.0 parent; bytes = is.1; version = omega arith })
          (insert_fits most t (parent_of path) (parent_after mode parent) (record { at = old.at; bytes = old.bytes; version = old.version }) fit),
    )))

-- a creation, below the parent that is there or not
create_fits : (most : ℕ) (t : Nodes) (session : ℕ) (path bytes : List ℕ) (mode : Mode) → OneOpFits (Create path bytes mode) → TreeFits most t
    → DoneFits (suc (suc most)) (create_outcome t session path bytes mode (parent_in t path mode))
create_fits most t session path bytes mode is fit = go (bytes_eq path root && not (is_counted mode))
  where
    below : (o : Option Node) → get t (parent_of path) ≡ o → DoneFits (suc (suc most)) (create_outcome t session path bytes mode o)
    below None there = tt
    below (Some parent) there = child_fits most t session path bytes mode parent is there fit

    go : (b : Bool) → DoneFits (suc (suc most)) (create_outcome t session path bytes mode (cond b None (get t (parent_of path))))
    go true = tt
    go false = below (get t (parent_of path)) refl

-- a deletion
delete_fits : (most : ℕ) (t : Nodes) (path : List ℕ) (version : Option ℕ) (o : Option Node) → get t path ≡ o → most ≤ most_u64 → TreeFits most t
    → DoneFits (suc (suc most)) (delete_outcome t path version o)
delete_fits most t path version None there small fit = tt
delete_fits most t path version (Some n) there small fit =
    let D : Outcome → Type 0 = DoneFits (suc (suc most)) in
    let old = fit.each path n there in
    let count : IsU64 (length (child_names t path)) = (omega arith, omega (arith, children_few most t path fit, small)) in
    cond_both D (bytes_eq path root) (Err (NotEmpty (length (child_names t path)))) _ count
    (cond_both D (not (fits version n)) (Err (BadVersion n.version)) _ (omega arith, old.version)
    (cond_both D (not (length (child_names t path) == 0)) (Err (NotEmpty (length (child_names t path)))) _ count
    (tt, tree_more most (suc (suc most)) (remove t path) (omega arith) (remove_fits most t path fit))))

-- a set
set_fits : (most : ℕ) (t : Nodes) (path bytes : List ℕ) (version : Option ℕ) (o : Option Node) → get t path ≡ o → IsBytes bytes → TreeFits most t
    → DoneFits (suc (suc most)) (set_outcome t path bytes version o)
set_fits most t path bytes version None there are fit = tt
set_fits most t path bytes version (Some n) there are fit =
    cond_both (DoneFits (suc (suc most))) (not (fits version n)) (Err (BadVersion n.version)) _ (omega arith, old.version) (go (n.version == 2 ^ 64 - 1) refl)
  where
    old : EntryFits path n
    old = fit.each path n there

    go : (b : Bool) → (n.version == 2 ^ 64 - 1) ≡ b
        → DoneFits (suc (suc most)) (cond b (Err Spent) (Ok (Version (n.version + 1), insert t path (record n { bytes = bytes; version = n.version + 1 }))))
    go true last = tt
    go false more =
        let other : n.version ≡ 18446744073709551615 → ⊥ = eqb-false n.version (2 ^ 64 - 1) more in (
          tt,
          tree_more (suc most) (suc (suc most)) (insert t path (record n { bytes = bytes; version = n.version + 1 })) (omega arith)
              (insert_fits most t path (record n { bytes = bytes; version = n.version + 1 })
              (record { at = old.at; bytes = are; version = omega (arith, other, old.version) }) fit),
        )

-- a tree that is left as it is
same_fits : (most : ℕ) (t : Nodes) → TreeFits most t → TreeFits (suc (suc most)) t
same_fits most t fit = tree_more most (suc (suc most)) t (omega arith) fit

-- a check
check_fits : (most : ℕ) (t : Nodes) (path : List ℕ) (version : Option ℕ) (o : Option Node) → get t path ≡ o → TreeFits most t
    → DoneFits (suc (suc most)) (check_outcome t version o)
check_fits most t path version None there fit = tt
check_fits most t path version (Some n) there fit =
    cond_both (DoneFits (suc (suc most))) (fits version n) (Ok (Done, t)) (Err (BadVersion n.version)) (tt, same_fits most t fit)
    (omega arith, (fit.each path n there).version)

-- a read
get_fits : (most : ℕ) (t : Nodes) (path : List ℕ) (o : Option Node) → get t path ≡ o → TreeFits most t → DoneFits (suc (suc most)) (get_outcome t o)
get_fits most t path None there fit = tt
get_fits most t path (Some n) there fit = ((fit.each path n there).bytes, same_fits most t fit)

-- a listing
listing_fits : (most : ℕ) (t : Nodes) (path : List ℕ) (o : Option Node) → TreeFits most t → DoneFits (suc (suc most)) (children_outcome t path o)
listing_fits most t path None fit = tt
listing_fits most t path (Some n) fit = (tt, same_fits most t fit)

-- an operation
one_fits : (most : ℕ) (t : Nodes) (session : ℕ) (x : OneOp) → OneOpFits x → most ≤ most_u64 → TreeFits most t
    → DoneFits (suc (suc most)) (outcome_of t session x)
unfolding outcome_of
one_fits most t session (Create path bytes mode) is small fit = create_fits most t session path bytes mode is fit
one_fits most t session (Delete path version) is small fit = delete_fits most t path version (get t path) refl small fit
one_fits most t session (Set path bytes version) is small fit = set_fits most t path bytes version (get t path) refl is fit
one_fits most t session (Check path version) is small fit = check_fits most t path version (get t path) refl fit
one_fits most t session (Get path) is small fit = get_fits most t path (get t path) refl fit
one_fits most t session (Children path) is small fit = listing_fits most t path (get t path) fit

-- ---- requests

-- the answers of operations, and the tree that is left; or why there are none
abbrev RunFits : ℕ → Run → Type 0
RunFits most (Ok r) = AllByRecursion OneAnswerFits r.0 × TreeFits most r.1
RunFits most (Err e) = WhyFits e.1

-- one answer more before them
front_fits : (most : ℕ) (a : OneAnswer) (r : Run) → OneAnswerFits a → RunFits most r → RunFits most (with_front a r)
front_fits most a (Ok r) is fit = ((is, fit.0), fit.1)
front_fits most a (Err e) is fit = fit

-- an operation, and those behind it
rest_fits : (few most : ℕ) (o : Outcome) (place : ℕ) (rest : Nodes → Run) → DoneFits few o → ((t : Nodes) → TreeFits few t → RunFits most (rest t))
    → RunFits most (then_rest o place rest)
rest_fits few most (Ok r) place rest is later = front_fits most r.0 (rest r.1) is.0 (later r.1 is.1)
rest_fits few most (Err why) place rest is later = is

-- operations in order
run_fits : (most : ℕ) (t : Nodes) (session place : ℕ) (xs : List OneOp) → AllByRecursion OneOpFits xs → most + 2 * length xs ≤ most_u64 → TreeFits most t
    → RunFits (most + 2 * length xs) (run_of t session place xs)
unfolding run_of
run_fits most t session place [] each small fit = (tt, tree_more most (most + 2 * length {A = OneOp} []) t (omega arith) fit)
run_fits most t session place (x ∷ xs) each small fit =
    let here : most ≤ most_u64 = omega (arith, small) in
    let later : suc (suc most) + 2 * length xs ≤ most_u64 = omega (arith, small) in
    let same : suc (suc most) + 2 * length xs ≡ most + 2 * length (x ∷ xs) = omega arith in
    rest_fits (suc (suc most)) (most + 2 * length (x ∷ xs)) (outcome_of t session x) place (λ next. run_of next session (place + 1) xs)
    (one_fits most t session x each.0 here fit)
    (λ next its. subst (λ m. RunFits m (run_of next session (place + 1) xs)) same (run_fits (suc (suc most)) next session (place + 1) xs each.1 later its))

-- What a request answers, and the tree that it leaves.
pub record RequestLeaves (most : ℕ) (now : MetaAnswer × Nodes) : Type 0 where
  pub answer : AnswerFits now.0
  pub tree : TreeFits most now.1

-- a request of one operation
after_one_fits : (most : ℕ) (t : Nodes) (o : Outcome) → TreeFits most t → DoneFits (suc (suc most)) o → RequestLeaves (suc (suc most)) (after_one t o)
after_one_fits most t (Ok r) fit is = record { answer = is.0; tree = is.1 }
after_one_fits most t (Err why) fit is = record { answer = is; tree = same_fits most t fit }

-- a request of many
after_all_fits : (few most : ℕ) (t : Nodes) (r : Run) → few ≤ most → TreeFits few t → RunFits most r → RequestLeaves most (after_all t r)
after_all_fits few most t (Ok r) h fit is = record { answer = is.0; tree = is.1 }
after_all_fits few most t (Err e) h fit is = record { answer = is; tree = tree_more few most t h fit }

-- more nodes may be there
leaves_more : (few most : ℕ) (now : MetaAnswer × Nodes) → few ≤ most → RequestLeaves few now → RequestLeaves most now
leaves_more few most now h is = record { answer = is.answer; tree = tree_more few most now.1 h is.tree }

-- a request of at most 6 operations
pub request_leaves : (most : ℕ) (t : Nodes) (session : ℕ) (x : MetaOp) → AllByRecursion OneOpFits (ops_of x) → length (ops_of x) ≤ 6
    → most + 12 ≤ most_u64 → TreeFits most t → RequestLeaves (most + 12) (after_request t session x)
unfolding after_request
request_leaves most t session (op.One x) each few small fit =
    leaves_more (suc (suc most)) (most + 12) (after_one t (outcome_of t session x)) (omega arith)
    (after_one_fits most t (outcome_of t session x) fit (one_fits most t session x each.0 (omega (arith, small)) fit))
request_leaves most t session (op.Multi xs) each few small fit =
    leaves_more (most + 2 * length xs) (most + 12) (after_all t (run_of t session 0 xs)) (omega (arith, few))
    (after_all_fits most (most + 2 * length xs) t (run_of t session 0 xs) (omega arith) fit (run_fits most t session 0 xs each (omega (arith, few, small)) fit))

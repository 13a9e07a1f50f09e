-- What an operation at a key that succeeded met and leaves, by keys.
use Rattle.std.proofs.Common.{◌≡◌, ℕ, ◌+◌, ◌^◌, ◌<◌, Bool, true, false, cond, not, ◌&&◌, nat_le, List, [], ◌∷◌, ◌++◌, codes, Option, Some, None, Ok, refl}
use Rattle.std.proofs.Common.{sym, ap, ap₂, ◌∙◌, arith}
use Rattle.std.proofs.lemmas.Bool.{cond-true, cond-false, and_parts, not-true, true≢false}
use Rattle.std.proofs.lemmas.Bool.Decides.{nat_tests}
use Rattle.std.specs.FinMap.{get, insert}
use Rattle.dl_types.specs.declared.mode.Mode.{Mode}
use Rattle.dl_types.specs.declared.mode.Mode.TheVariants.{Lasting, Counted, EphemeralCounted}
use Rattle.dl_types.specs.declared.one_op.OneOp.TheVariants.{Create, Delete, Set, Check}
use Rattle.dl_types.specs.declared.one_answer.OneAnswer.{OneAnswer}
use Rattle.dl_types.specs.declared.one_answer.OneAnswer.TheVariants.{Made}
use Rattle.dl_fields.specs.Digits.{digits, HasTenDigits}
use Rattle.dl_tree.specs.declared.node.Node.{Node}
use Rattle.dl_tree.specs.Paths.{parent_of, or_root}
use Rattle.dl_tree.specs.Laws.{set_node}
use Rattle.dl_tree.specs.Trees.{Nodes, outcome_of, child_names, is_counted, made_path, parent_after, new_node}
use Rattle.dl_tree.proofs.PartLemmas.{parts_found}
use Rattle.dl_formats.specs.Keys.{Key, Conf, Streams, Ledgers, Ledger, Stream, MaxSeq, Cut, Alloc, Locks, Member, Segs, Progress, Completed, path_of}
use Rattle.dl_formats.specs.Keys.{parts_of, ledger_stem, member_stem, is_key, NoSlash, IsKey, parent_key, name_of, front_of}
use Rattle.dl_formats.proofs.KeyLemmas.{insert_by_key, remove_by_key, keys_told, by_parents, with_slashes_more}
use Rattle.dl_rules_stream.specs.Requests.{makes}
use Rattle.dl_law_meta.specs.Keyed.{node, is_apart, OthersStay, lasting, ephemeral, with_count, HasVersion, IsThere, IsParent, IsNew, IsSet, IsCounted, IsGone}
use Rattle.dl_law_meta.proofs.Done.{set_done, create_done, delete_done, check_done}

-- a key is the same as itself
pub same_key : (k : Key) → is_key k k ≡ true
same_key k = (keys_told k k).1 refl

-- keys that the test takes for the same are the same
pub key_is : (m k : Key) → is_key m k ≡ true → m ≡ k
key_is m k e = (keys_told m k).0 e

-- ---- one key changes

-- at a key a node, or none, is put, and elsewhere stands what stood there
pub record Puts (t u : Nodes) (k : Key) (o : Option Node) : Type 0 where
  pub at : (m : Key) → IsKey m → node u m ≡ cond (is_key m k) o (node t m)

-- a node that is put at a key stands there
put_here : {t u : Nodes} {k : Key} {o : Option Node} → Puts t u k o → IsKey k → node u k ≡ o
put_here {k = k} p h = p.at k h ∙ cond-true _ _ _ (same_key k)

-- what stays elsewhere, change by change
pub nothing_changed : {t : Nodes} → OthersStay t t []
nothing_changed = record { same = λ m h a. refl }

-- a put, and then changes of other keys alone
pub put_before : {t u v : Nodes} {k : Key} {o : Option Node} {ks : List Key} → Puts t u k o → OthersStay u v ks → OthersStay t v (k ∷ ks)
put_before {t = t} {v = v} {k = k} {ks = ks} p rest = record { same = λ m h a. by m h (and_parts (not (is_key m k)) (is_apart m ks) a) }
  where
    by : (m : Key) → IsKey m → (not (is_key m k) ≡ true) × (is_apart m ks ≡ true) → node v m ≡ node t m
    by m h parts = rest.same m h parts.1 ∙ p.at m h ∙ cond-false _ _ _ (not-true (is_key m k) parts.0)

-- changes of some keys alone, and then a put
pub put_behind : {t u v : Nodes} {k : Key} {o : Option Node} {ks : List Key} → OthersStay t u ks → Puts u v k o → OthersStay t v (k ∷ ks)
put_behind {t = t} {v = v} {k = k} {ks = ks} rest p = record { same = λ m h a. by m h (and_parts (not (is_key m k)) (is_apart m ks) a) }
  where
    by : (m : Key) → IsKey m → (not (is_key m k) ≡ true) × (is_apart m ks ≡ true) → node v m ≡ node t m
    by m h parts = p.at m h ∙ cond-false _ _ _ (not-true (is_key m k) parts.0) ∙ rest.same m h parts.1

-- ---- parents

-- the path of a key is not the root's
path_some : (k : Key) → or_root (path_of k) ≡ path_of k
unfolding path_of
path_some Conf = refl
path_some Streams = refl
path_some Ledgers = refl
path_some (Ledger n) = refl
path_some (Stream s) = refl
path_some (MaxSeq s) = refl
path_some (Cut s) = refl
path_some (Alloc s) = refl
path_some (Locks s) = refl
path_some (Member s n) = refl
path_some (Segs s) = refl
path_some (Progress s k) = refl
path_some (Completed s k) = refl

-- the parent of a path that goes on from a key's by one part is that key
below_is : (p : Key) (path name : List ℕ) → path ≡ path_of p ++ 47 ∷ name → NoSlash name → parent_of path ≡ path_of p
below_is p path name e free = ap parent_of e ∙ (parts_found (path_of p) name free).0 ∙ path_some p

-- the parent of a key's path is the path of the key above
pub parent_path : (k p : Key) → IsKey k → parent_key k ≡ Some p → parent_of (path_of k) ≡ path_of p
parent_path k p h e = below_is p (path_of k) (name_of k) (by_parents.parent k ∙ ap (λ (o : Option Key). front_of o ++ 47 ∷ name_of k) e) (by_parents.name k h)

-- the parent of a ledger's path is the node of ledgers
ledger_parent : parent_of ledger_stem ≡ path_of Ledgers
unfolding ledger_stem path_of
ledger_parent = below_is Ledgers ledger_stem (codes "L") (with_slashes_more (parts_of Ledgers) (codes "L")) (λ e. absurd (omega (arith, e)), tt)

-- the parent of a member's path is the lock's
member_parent : (s : List ℕ) → parent_of (member_stem s) ≡ path_of (Locks s)
unfolding member_stem path_of
member_parent s =
    below_is (Locks s) (member_stem s) (codes "m-") (with_slashes_more (parts_of (Locks s)) (codes "m-"))
    (λ e. absurd (omega (arith, e)), (λ e. absurd (omega (arith, e)), tt))

-- ---- operations at keys

-- a set of the node at a key
pub record SetAt (t u : Nodes) (k : Key) (named : Option ℕ) (bytes : List ℕ) : Type 0 where
  pub old : Node
  pub was : node t k ≡ Some old
  pub fitting : HasVersion named old
  pub puts : Puts t u k (Some (set_node bytes old))

-- what a set at a key leaves
pub set_at : (t : Nodes) (session : ℕ) (k : Key) (bytes : List ℕ) (named : Option ℕ) → IsKey k → (a : OneAnswer × Nodes)
    → outcome_of t session (Set (path_of k) bytes named) ≡ Ok a → SetAt t a.1 k named bytes
set_at t session k bytes named h a e =
    let d = set_done t session (path_of k) bytes named a e in
    record {
      old = d.old;
      was = d.there;
      fitting = d.fitting;
      puts = record { at = λ m g. ap (λ (x : Nodes). node x m) d.is ∙ insert_by_key t k (set_node bytes d.old) m h g };
    }

-- a node is made at a key, below another
pub record MadeAt (t u : Nodes) (k p : Key) (new : Node) : Type 0 where
  pub parent : IsParent t p
  pub free : node t k ≡ None
  pub puts : Puts t u k (Some new)

-- the same node is put where it stood
put_same : (t : Nodes) (p : Key) (n : Node) (m : Key) → IsKey p → IsKey m → node t p ≡ Some n → node (insert t (path_of p) n) m ≡ node t m
put_same t p n m h g there = insert_by_key t p n m h g ∙ go (is_key m p) refl
  where
    go : (b : Bool) → is_key m p ≡ b → cond b (Some n) (node t m) ≡ node t m
    go true e = sym there ∙ ap (node t) (sym (key_is m p e))
    go false e = refl

-- what a create at a key leaves
pub make_at : (t : Nodes) (session : ℕ) (k p : Key) (bytes : List ℕ) → IsKey k → IsKey p → parent_key k ≡ Some p → (a : OneAnswer × Nodes)
    → outcome_of t session (makes k bytes) ≡ Ok a → MadeAt t a.1 k p (lasting bytes)
make_at t session k p bytes h g below a e =
    let d = create_done t session (path_of k) bytes Lasting a e in
    let up = parent_path k p h below in
    let there : node t p ≡ Some d.parent = ap (get t) (sym up) ∙ d.there in
    record {
      parent = record { found = d.parent; there = there; lasts = d.lasts };
      free = d.free;
      puts = record {
        at = λ m i.
            ap (λ (x : Nodes). node x m) (d.is ∙ ap (λ (q : List ℕ). insert (insert t q d.parent) (path_of k) (lasting bytes)) up)
            ∙ insert_by_key (insert t (path_of p) d.parent) k (lasting bytes) m h i
            ∙ ap (cond (is_key m k) (Some (lasting bytes))) (put_same t p d.parent m g i there);
      };
    }

-- a node whose name is counted is made at the key of the next number below another
pub record CountedAt (t u : Nodes) (p : Key) (kid : ℕ → Key) (new : Node) (told : OneAnswer) : Type 0 where
  pub number : ℕ
  pub old : Node
  pub was : node t p ≡ Some old
  pub lasts : old.owner ≡ None
  pub given : old.counter ≡ number
  pub room : HasTenDigits number
  pub free : node t (kid number) ≡ None
  pub answer : told ≡ Made (path_of (kid number))
  pub parent : Nodes
  pub counts : Puts t parent p (Some (with_count old))
  pub puts : Puts parent u (kid number) (Some new)

-- a counter that a counted node may have has ten digits
small_is : (b : Bool) (n : ℕ) → b ≡ true → (b && nat_le (10 ^ 10) n) ≡ false → n < 10 ^ 10
small_is true n c e = grind (arith, nat_tests, e)
small_is false n c e = absurd (true≢false (sym c))

-- a counted node's path is its stem and the counter
counted_path : (stem : List ℕ) (mode : Mode) (n : Node) → is_counted mode ≡ true → made_path stem mode n ≡ stem ++ digits 10 n.counter
counted_path stem mode n c = cond-true (is_counted mode) (stem ++ digits 10 n.counter) stem c

-- a counted node makes its parent count on
counted_node : (mode : Mode) (n : Node) → is_counted mode ≡ true → parent_after mode n ≡ with_count n
counted_node mode n c = ap (λ (b : Bool). record n { counter = cond b (n.counter + 1) n.counter }) c

-- what a counted create leaves
pub count_at : (t : Nodes) (session : ℕ) (stem : List ℕ) (mode : Mode) (bytes : List ℕ) (p : Key) (kid : ℕ → Key) → IsKey p → is_counted mode ≡ true
    → parent_of stem ≡ path_of p → ((n : ℕ) → path_of (kid n) ≡ stem ++ digits 10 n)
    → ((n : ℕ) → HasTenDigits n → IsKey (kid n)) → (a : OneAnswer × Nodes) → outcome_of t session (Create stem bytes mode) ≡ Ok a
    → CountedAt t a.1 p kid (new_node bytes mode session) a.0
count_at t session stem mode bytes p kid h c up named each a e =
    let d = create_done t session stem bytes mode a e in
    let path : made_path stem mode d.parent ≡ path_of (kid d.parent.counter) = counted_path stem mode d.parent c ∙ sym (named d.parent.counter) in
    let small = small_is (is_counted mode) d.parent.counter c d.room in
    let key = each d.parent.counter small in
    record {
      number = d.parent.counter;
      old = d.parent;
      was = ap (get t) (sym up) ∙ d.there;
      lasts = d.lasts;
      given = refl;
      room = small;
      free = ap (get t) (sym path) ∙ d.free;
      answer = d.told ∙ ap Made path;
      parent = insert t (path_of p) (with_count d.parent);
      counts = record { at = λ m i. insert_by_key t p (with_count d.parent) m h i };
      puts = record {
        at = λ m i.
            ap (λ (x : Nodes). node x m)
            (d.is ∙ ap₂ (λ (q : List ℕ) (n : Node). insert (insert t q n) (made_path stem mode d.parent) (new_node bytes mode session)) up
            (counted_node mode d.parent c)
            ∙ ap (λ (q : List ℕ). insert (insert t (path_of p) (with_count d.parent)) q (new_node bytes mode session)) path)
            ∙ insert_by_key (insert t (path_of p) (with_count d.parent)) (kid d.parent.counter) (new_node bytes mode session) m key i;
      };
    }

-- what the making of a ledger leaves
pub ledger_at : (t : Nodes) (session : ℕ) (bytes : List ℕ) (a : OneAnswer × Nodes) → outcome_of t session (Create ledger_stem bytes Counted) ≡ Ok a
    → CountedAt t a.1 Ledgers Ledger (lasting bytes) a.0
ledger_at t session bytes a e = count_at t session ledger_stem Counted bytes Ledgers Ledger tt refl ledger_parent by_parents.ledger (λ n h. h) a e

-- what the making of a member leaves
pub member_at : (t : Nodes) (session : ℕ) (s : List ℕ) → NoSlash s → (a : OneAnswer × Nodes)
    → outcome_of t session (Create (member_stem s) [] EphemeralCounted) ≡ Ok a → CountedAt t a.1 (Locks s) (Member s) (ephemeral session) a.0
member_at t session s name a e =
    count_at t session (member_stem s) EphemeralCounted [] (Locks s) (Member s) name refl (member_parent s) (by_parents.member s) (λ n h. (name, h)) a e

-- the node at a key is deleted, and none stood below it
pub record DeletedAt (t u : Nodes) (k : Key) (named : Option ℕ) : Type 0 where
  pub old : Node
  pub was : node t k ≡ Some old
  pub fitting : HasVersion named old
  pub childless : child_names t (path_of k) ≡ []
  pub puts : Puts t u k None

-- what a delete at a key leaves
pub delete_at : (t : Nodes) (session : ℕ) (k : Key) (named : Option ℕ) → IsKey k → (a : OneAnswer × Nodes)
    → outcome_of t session (Delete (path_of k) named) ≡ Ok a
    → DeletedAt t a.1 k named
delete_at t session k named h a e =
    let d = delete_done t session (path_of k) named a e in
    record {
      old = d.old;
      was = d.there;
      fitting = d.fitting;
      childless = d.childless;
      puts = record { at = λ m g. ap (λ (x : Nodes). node x m) d.is ∙ remove_by_key t k m h g };
    }

-- a node at a path was found, and the tree is as it was
pub record FoundAt (t u : Nodes) (path : List ℕ) (named : Option ℕ) : Type 0 where
  pub old : Node
  pub there : get t path ≡ Some old
  pub fitting : HasVersion named old
  pub same : u ≡ t

-- what a check leaves
pub check_at : (t : Nodes) (session : ℕ) (path : List ℕ) (named : Option ℕ) (a : OneAnswer × Nodes) → outcome_of t session (Check path named) ≡ Ok a
    → FoundAt t a.1 path named
check_at t session path named a e =
    let d = check_done t session path named a e in record { old = d.old; there = d.there; fitting = d.fitting; same = d.is }

-- the node at a key was found
pub found_there : (t u : Nodes) (path : List ℕ) (named : Option ℕ) → FoundAt t u path named → (k : Key) → path ≡ path_of k → IsThere t k named
found_there t u path named d k e = record { found = d.old; there = ap (get t) (sym e) ∙ d.there; fitting = d.fitting }

-- ---- operations within a request: what stood at the key before it, and what stands there after it

-- a node that was made is new, where other operations don't touch it
pub new_by : {t u v w : Nodes} {k p : Key} {n : Node} {ks ls : List Key} → OthersStay t u ks → MadeAt u v k p n → OthersStay v w ls → IsKey k
    → is_apart k ks ≡ true → is_apart k ls ≡ true → IsNew t w k n
new_by {k = k} before x after h a b = record { free = sym (before.same k h a) ∙ x.free; now = after.same k h b ∙ put_here x.puts h }

-- a node that was set is so, where other operations don't touch it
pub set_by : {t u v w : Nodes} {k : Key} {named : ℕ} {bytes : List ℕ} {ks ls : List Key} → OthersStay t u ks → SetAt u v k (Some named) bytes
    → OthersStay v w ls → IsKey k → is_apart k ks ≡ true → is_apart k ls ≡ true → IsSet t w k named bytes
set_by {k = k} before x after h a b =
    record { old = x.old; was = sym (before.same k h a) ∙ x.was; fitting = x.fitting; now = after.same k h b ∙ put_here x.puts h }

-- a node that was deleted is gone, where other operations don't touch it
pub gone_by : {t u v w : Nodes} {k : Key} {named : Option ℕ} {ks ls : List Key} → OthersStay t u ks → DeletedAt u v k named → OthersStay v w ls → IsKey k
    → is_apart k ks ≡ true → is_apart k ls ≡ true → IsGone t w k named
gone_by {k = k} before x after h a b =
    record { old = x.old; was = sym (before.same k h a) ∙ x.was; fitting = x.fitting; now = after.same k h b ∙ put_here x.puts h }

-- the parent of a node that was made was there
pub parent_by : {t u v : Nodes} {k p : Key} {n : Node} {ks : List Key} → OthersStay t u ks → MadeAt u v k p n → IsKey p → is_apart p ks ≡ true → IsParent t p
parent_by {p = p} before x h a = record { found = x.parent.found; there = sym (before.same p h a) ∙ x.parent.there; lasts = x.parent.lasts }

-- a node that was checked was there
pub there_by : {t u v : Nodes} {k : Key} {named : Option ℕ} {ks : List Key} → OthersStay t u ks → FoundAt u v (path_of k) named → IsKey k
    → is_apart k ks ≡ true → IsThere t k named
there_by {k = k} before x h a = record { found = x.old; there = sym (before.same k h a) ∙ x.there; fitting = x.fitting }

-- the parent of a counted node has counted on
pub counted_by : {t u : Nodes} {p : Key} {kid : ℕ → Key} {new : Node} {told : OneAnswer} (x : CountedAt t u p kid new told) → IsKey p
    → is_key p (kid x.number) ≡ false → IsCounted t u p x.number
counted_by {p = p} x h a =
    record { old = x.old; was = x.was; lasts = x.lasts; given = x.given; room = x.room; now = x.puts.at p h ∙ cond-false _ _ _ a ∙ put_here x.counts h }

-- a counted node is new
pub kid_by : {t u : Nodes} {p : Key} {kid : ℕ → Key} {new : Node} {told : OneAnswer} (x : CountedAt t u p kid new told) → IsKey (kid x.number)
    → IsNew t u (kid x.number) new
kid_by x h = record { free = x.free; now = put_here x.puts h }

-- a counted create changes its parent and the new node alone
pub counted_others : {t u : Nodes} {p : Key} {kid : ℕ → Key} {new : Node} {told : OneAnswer} (x : CountedAt t u p kid new told)
    → OthersStay t u (p ∷ kid x.number ∷ [])
counted_others x = put_before x.counts (put_before x.puts nothing_changed)

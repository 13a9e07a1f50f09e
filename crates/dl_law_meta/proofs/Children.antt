-- Where a deletion found no children of a node, no node stands below it.
use Rattle.std.proofs.Common.{◌≡◌, ℕ, ◌-◌, Bool, true, false, cond, not, ◌||◌, ◌==◌, List, [], ◌∷◌, ◌++◌, length, take, drop, map, filter, Option, Some}
use Rattle.std.proofs.Common.{None, is_some, refl, sym, ap, ◌∙◌, arith, bytes_eq, append_assoc}
use Rattle.std.proofs.lemmas.Bool.{true≢false, and_from}
use Rattle.std.proofs.lemmas.Bool.Decides.{nat_tests}
use Rattle.std.proofs.lemmas.List.{append_cancel_right, take-append-drop}
use Rattle.std.specs.List.{list_any}
use Rattle.std.specs.Cmp.Lexicographic.{bytes_decides}
use Rattle.std.specs.FinMap.{get, keys, contains_key-keys}
use Rattle.dl_fields.specs.Paths.{last_length, NoSlash}
use Rattle.dl_tree.specs.Paths.{root, name_of, front_of, below, is_below, is_child}
use Rattle.dl_tree.specs.Trees.{Nodes, child_names}
use Rattle.dl_tree.proofs.MapLemmas.{same_path, path_is}
use Rattle.dl_tree.proofs.PartLemmas.{parts_found}
use Rattle.dl_formats.specs.Keys.{Key, Conf, Streams, Ledgers, Ledger, Stream, MaxSeq, Cut, Alloc, Locks, Member, Segs, Progress, Completed, IsKey}
use Rattle.dl_formats.specs.Keys.{parent_key, path_of, front_of as front_key, name_of as name_key}
use Rattle.dl_formats.proofs.KeyLemmas.{by_parents}
use Rattle.dl_law_meta.specs.Keyed.{node}

-- no path among these is below another, where a list of the children's names is empty
none_found : (xs : List (List ℕ)) (path q : List ℕ) → is_child path q ≡ true → map name_of (filter (is_child path) xs) ≡ [] → list_any (same_path q) xs ≡ false
none_found [] path q child e = refl
none_found (x ∷ xs) path q child e = go (is_child path x) refl e (λ f. none_found xs path q child f)
  where
    apart : is_child path x ≡ false → (b : Bool) → same_path q x ≡ b → list_any (same_path q) xs ≡ false → (b || list_any (same_path q) xs) ≡ false
    apart other true w ih = absurd (true≢false (sym child ∙ ap (is_child path) (path_is q x w) ∙ other))
    apart other false w ih = ih

    go : (b : Bool) → is_child path x ≡ b → map name_of (cond b (x ∷ filter (is_child path) xs) (filter (is_child path) xs)) ≡ []
        → (map name_of (filter (is_child path) xs) ≡ [] → list_any (same_path q) xs ≡ false) → list_any (same_path q) (x ∷ xs) ≡ false
    go true w f ih = absurd (cc)
    go false w f ih = apart w (same_path q x) refl (ih f)

-- what stands before the last part
front_is : (front part : List ℕ) → NoSlash part → front_of (front ++ 47 ∷ part) ≡ front ++ 47 ∷ []
unfolding front_of name_of
front_is front part free =
    let path = front ++ 47 ∷ part in
    let whole : take (length path - last_length path) path ++ drop (length path - last_length path) path ≡ path = take-append-drop
    (length path - last_length path) path in
    let last : drop (length path - last_length path) path ≡ part = (parts_found front part free).1 in
    append_cancel_right (take (length path - last_length path) path) (front ++ 47 ∷ []) part
    (ap (λ (x : List ℕ). take (length path - last_length path) path ++ x) (sym last) ∙ whole ∙ sym (append_assoc front (47 ∷ []) part))

-- no key has the root's path
second : List ℕ → ℕ
second [] = 0
second (c ∷ []) = 0
second (c ∷ d ∷ rest) = d

-- no key has the path of the root
pub no_root : (k : Key) → path_of k ≡ root → ⊥
unfolding path_of second
no_root Conf e = absurd (omega (arith, ap second e))
no_root Streams e = absurd (omega (arith, ap second e))
no_root Ledgers e = absurd (omega (arith, ap second e))
no_root (Ledger n) e = absurd (omega (arith, ap second e))
no_root (Stream s) e = absurd (omega (arith, ap second e))
no_root (MaxSeq s) e = absurd (omega (arith, ap second e))
no_root (Cut s) e = absurd (omega (arith, ap second e))
no_root (Alloc s) e = absurd (omega (arith, ap second e))
no_root (Locks s) e = absurd (omega (arith, ap second e))
no_root (Member s n) e = absurd (omega (arith, ap second e))
no_root (Segs s) e = absurd (omega (arith, ap second e))
no_root (Progress s k) e = absurd (omega (arith, ap second e))
no_root (Completed s k) e = absurd (omega (arith, ap second e))

-- what stands below a key begins with its path and a slash
below_is : (p : Key) → below (path_of p) ≡ path_of p ++ 47 ∷ []
below_is p = go (bytes_eq (path_of p) root) refl
  where
    go : (b : Bool) → bytes_eq (path_of p) root ≡ b → cond b (47 ∷ []) (path_of p ++ 47 ∷ []) ≡ path_of p ++ 47 ∷ []
    go true w = absurd (no_root p ((bytes_decides (path_of p) root).0 w))
    go false w = refl

-- a list with an item is not empty
some_length : (c : ℕ) (cs : List ℕ) → not (length (c ∷ cs) == 0) ≡ true
some_length c cs = grind (arith, nat_tests)

-- the path of a key with a name is that of a child of the key above
child_is : (path front part : List ℕ) (c : ℕ) (cs : List ℕ) → path ≡ front ++ 47 ∷ part → part ≡ c ∷ cs → NoSlash part → (prefix : List ℕ)
    → prefix ≡ front ++ 47 ∷ [] → is_below prefix path ≡ true
child_is path front part c cs e some free prefix f =
    and_from (bytes_eq (front_of path) prefix) (not (length (name_of path) == 0))
    ((bytes_decides (front_of path) prefix).1 (ap front_of e ∙ front_is front part free ∙ sym f))
    (ap (λ (x : List ℕ). not (length x == 0)) (ap name_of e ∙ (parts_found front part free).1 ∙ some) ∙ some_length c cs)

-- a value that is not there is none
none_of : {A : Type 0} (o : Option A) → is_some o ≡ false → o ≡ None
none_of None e = refl
none_of (Some a) e = absurd (true≢false e)

-- where a node has no children, no key below it has a node
pub none_below : (t : Nodes) (k p : Key) (c : ℕ) (cs : List ℕ) → IsKey k → parent_key k ≡ Some p → name_key k ≡ c ∷ cs → child_names t (path_of p) ≡ []
    → node t k ≡ None
none_below t k p c cs h up some e =
    let path : path_of k ≡ path_of p ++ 47 ∷ name_key k = by_parents.parent k ∙ ap (λ (o : Option Key). front_key o ++ 47 ∷ name_key k) up in
    let child : is_child (path_of p) (path_of k) ≡ true = child_is (path_of k) (path_of p) (name_key k) c cs path some (by_parents.name k h)
    (below (path_of p)) (below_is p) in
    none_of (get t (path_of k)) (contains_key-keys t (path_of k) ∙ none_found (keys t) (path_of p) (path_of k) child e)

-- The slots below a path stand together in byte order.
use Rattle.std.proofs.Common.{◌≡◌, ℕ, Bool, true, false, cond, not, ◌&&◌, List, [], ◌∷◌, ◌++◌, length, Option}
use Rattle.std.proofs.Common.{is_some, refl, sym, ap, ◌∙◌, arith, inl, inr, ◌⊎◌, ap₂, append_assoc, bytes_eq, ◌-◌}
use Rattle.std.proofs.lemmas.Bool.{cond-true, cond-false, cases_Bool, true≢false}
use Rattle.std.proofs.lemmas.List.{take-append-drop}
use Rattle.std.proofs.lemmas.Slice.Eq.{bytes_eq-Decides}
use Rattle.std.specs.Cmp.Lexicographic.{slice_cmp}
use Rattle.std.specs.Ordering.{nat_cmp, is_le, is_gt, ordering_then}
use Rattle.std.specs.declared.cmp.Ordering.{Ordering}
use Rattle.std.specs.declared.cmp.Ordering.TheVariants.{Equal}
use Rattle.std.specs.declared.ops.Bound.TheVariants.{Included, Excluded}
use Rattle.std.specs.BTreeMap.Range.{range_contains, entries_between}
use Rattle.dl_tree.specs.declared.node.Node.{Node}
use Rattle.dl_fields.specs.Paths.{last_length}
use Rattle.dl_tree.specs.Paths.{name_of, front_of, root, with_byte, below, past_below, is_below}
use Rattle.dl_tree.specs.Slots.{names_in}

-- a number compares equal to itself
same_number : (x : ℕ) → nat_cmp x x ≡ Equal
same_number x = grind (arith)

-- a front that two lists share does not matter
cmp_front : (xs ys zs : List ℕ) → slice_cmp nat_cmp (xs ++ ys) (xs ++ zs) ≡ slice_cmp nat_cmp ys zs
cmp_front [] ys zs = refl
cmp_front (x ∷ xs) ys zs = ap (λ (o : Ordering). ordering_then o (slice_cmp nat_cmp (xs ++ ys) (xs ++ zs))) (same_number x) ∙ cmp_front xs ys zs

-- the empty list is at most each list
least : (ys : List ℕ) → is_le (slice_cmp nat_cmp [] ys) ≡ true
least [] = refl
least (y ∷ ys) = refl

-- a path without the root's slash
abbrev stem : List ℕ → List ℕ
stem path = cond (bytes_eq path root) [] path

-- a path with one more byte is the path, without the slash that is the root's, and that byte
with_byte-stem : (path : List ℕ) (byte : ℕ) → with_byte path byte ≡ stem path ++ byte ∷ []
with_byte-stem path byte = go (bytes_eq path root)
  where
    go : (b : Bool) → cond b (byte ∷ []) (path ++ byte ∷ []) ≡ cond b [] path ++ byte ∷ []
    go true = refl
    go false = refl

-- the range of the paths below a path doesn't run backwards
pub forward : (path first end : List ℕ) → first ≡ below path → end ≡ past_below path → is_gt (slice_cmp nat_cmp first end) ≡ false
forward path first end f e =
    ap₂ (λ (x y : List ℕ). is_gt (slice_cmp nat_cmp x y)) (f ∙ with_byte-stem path 47) (e ∙ with_byte-stem path 48)
    ∙ ap is_gt (cmp_front (stem path) (47 ∷ []) (48 ∷ []))

-- a path below another is between the two
in_range : (xs name : List ℕ) → range_contains (slice_cmp nat_cmp) (Included (xs ++ 47 ∷ [])) (Excluded (xs ++ 48 ∷ [])) ((xs ++ 47 ∷ []) ++ name) ≡ true
in_range xs name =
    ap (λ (q : List ℕ). range_contains (slice_cmp nat_cmp) (Included (xs ++ 47 ∷ [])) (Excluded (xs ++ 48 ∷ [])) q) (append_assoc xs (47 ∷ []) name)
    ∙ ap₂ (λ (o p : Ordering). is_le o && not (is_le p)) (cmp_front xs (47 ∷ []) (47 ∷ name)) (cmp_front xs (48 ∷ []) (47 ∷ name))
    ∙ ap (λ (b : Bool). b && true) (least name)

-- of two facts that hold together the first holds
and_left : (a b : Bool) → (a && b) ≡ true → a ≡ true
and_left true b e = refl
and_left false b e = e

-- a child's path stands in the range of the paths below its parent's
is_below-range : (path k : List ℕ) → is_below (below path) k ≡ true
    → range_contains (slice_cmp nat_cmp) (Included (below path)) (Excluded (past_below path)) k ≡ true
unfolding front_of name_of
is_below-range path k e =
    let front : front_of k ≡ below path = (bytes_eq-Decides (front_of k) (below path)).0 (and_left _ _ e) in
    let whole : k ≡ (stem path ++ 47 ∷ []) ++ name_of k = sym (take-append-drop (length k - last_length k) k)
    ∙ ap (λ (x : List ℕ). x ++ name_of k) (front ∙ with_byte-stem path 47) in
    ap₂ (λ (x y : List ℕ). range_contains (slice_cmp nat_cmp) (Included x) (Excluded y) k) (with_byte-stem path 47) (with_byte-stem path 48)
    ∙ ap (λ (q : List ℕ). range_contains (slice_cmp nat_cmp) (Included (stem path ++ 47 ∷ [])) (Excluded (stem path ++ 48 ∷ [])) q) whole
    ∙ in_range (stem path) (name_of k)

-- the slots of the range
abbrev pub between : List ℕ → List (List ℕ × Option Node) → List (List ℕ × Option Node)
between path es = entries_between (slice_cmp nat_cmp) (Included (below path)) (Excluded (past_below path)) es

-- two facts of which the second fails don't hold together
and_right : (a b : Bool) → b ≡ false → (a && b) ≡ false
and_right true b e = e
and_right false b e = refl

-- the names among the slots of the range are the names among all
pub names-between : (path : List ℕ) (es : List (List ℕ × Option Node)) → names_in (below path) (between path es) ≡ names_in (below path) es
names-between path [] = refl
names-between path (e ∷ es) =
    go (names-between path es) (cases_Bool (range_contains (slice_cmp nat_cmp) (Included (below path)) (Excluded (past_below path)) e.0))
  where
    outside : range_contains (slice_cmp nat_cmp) (Included (below path)) (Excluded (past_below path)) e.0 ≡ false
        → (is_below (below path) e.0 ≡ true) ⊎ (is_below (below path) e.0 ≡ false) → is_below (below path) e.0 ≡ false
    outside out (inl is) = absurd (true≢false (sym (is_below-range path e.0 is) ∙ out))
    outside out (inr none) = none

    go : names_in (below path) (between path es) ≡ names_in (below path) es
        → (range_contains (slice_cmp nat_cmp) (Included (below path)) (Excluded (past_below path)) e.0 ≡ true) ⊎
        (range_contains (slice_cmp nat_cmp) (Included (below path)) (Excluded (past_below path)) e.0 ≡ false)
        → names_in (below path) (between path (e ∷ es)) ≡ names_in (below path) (e ∷ es)
    go ih (inl inside) =
        ap (names_in (below path)) (cond-true _ _ _ inside) ∙ ap (λ (t : List (List ℕ)). cond (is_some e.1 && is_below (below path) e.0) (name_of e.0 ∷ t) t) ih
    go ih (inr out) =
        ap (names_in (below path)) (cond-false _ _ _ out) ∙ ih
        ∙ sym (cond-false _ _ _ (and_right (is_some e.1) (is_below (below path) e.0) (outside out (cases_Bool (is_below (below path) e.0)))))

-- Chains of pages: how often a page stands in them, and what a change of one link leaves.
use Rattle.std.proofs.Common.{◌≡◌, ◌≢◌, ℕ, zero, suc, ◌+◌, ◌-◌, ◌*◌, ◌<◌, ◌≤◌, min, cond, ◌==◌, List, [], ◌∷◌, ◌++◌, length}
use Rattle.std.proofs.Common.{take, drop, set, slice_index, sum_by, refl, sym, ap, ◌∙◌, subst, arith, inl, inr, ◌⊎◌, eq-eqb}
use Rattle.std.specs.List.{concat}
use Rattle.std.proofs.lemmas.Bool.{cases_eq, ne_eqb, cond-true, cond-false}
use Rattle.std.proofs.lemmas.List.{length-take, length-take-le, take_rest, take_min, take-take, take-append-drop}
use Rattle.std.proofs.lemmas.List.{drop-take, append-nil, length-drop, length-append, get_or-set_other, append_assoc}
use Rattle.std.proofs.lemmas.List.Sums.{sum_by-cons, sum_by-append, sum_by_push}
use Rattle.dl_types.specs.Upto.{upto}
use Rattle.dl_pool.specs.Pages.{walk, page_after, times, page_bytes, parts_in, HasPage, HasPages, WritesPages}

-- a page stands in a chain as often as in its rest, and once more if it is the first
pub times-cons : (page first : ℕ) (chain : List ℕ) → times page (first ∷ chain) ≡ cond (first == page) 1 0 + times page chain
times-cons page first chain = sum_by-cons (λ x. cond (x == page) 1 0) first chain

-- a page stands in two chains in a row as often as in both together
pub times-append : (page : ℕ) (xs ys : List ℕ) → times page (xs ++ ys) ≡ times page xs + times page ys
times-append page xs ys = sum_by-append (λ x. cond (x == page) 1 0) xs ys

-- a page counts once at itself
one_if_same : (first page : ℕ) → first ≡ page → cond {A = ℕ} (first == page) 1 0 ≡ 1
one_if_same first page e = cond-true {A = ℕ} (first == page) 1 0 (eq-eqb first page e)

-- a page doesn't count at another page
none_if_other : (first page : ℕ) → (first ≡ page → ⊥) → cond {A = ℕ} (first == page) 1 0 ≡ 0
none_if_other first page e = cond-false {A = ℕ} (first == page) 1 0 (ne_eqb first page e)

-- the first page of a chain stands there once more than in the rest
pub times-head : (page : ℕ) (chain : List ℕ) → times page (page ∷ chain) ≡ 1 + times page chain
times-head page chain = times-cons page page chain ∙ ap (λ n. n + times page chain) (one_if_same page page refl)

-- another page than the first stands in a chain as often as in the rest
pub times-tail : (page first : ℕ) (chain : List ℕ) → (first ≡ page → ⊥) → times page (first ∷ chain) ≡ times page chain
times-tail page first chain apart = omega (arith, times-cons page first chain, none_if_other first page apart)

-- a page stands in the rest of a chain at most as often as in the whole
pub times-tail-le : (page first : ℕ) (chain : List ℕ) → times page chain ≤ times page (first ∷ chain)
times-tail-le page first chain = omega (arith, times-cons page first chain)

-- a page that doesn't stand in a chain is neither its first page nor in the rest
pub not_first : (page first : ℕ) (chain : List ℕ) → times page (first ∷ chain) ≡ 0 → first ≡ page → ⊥
not_first page first chain none e = omega (arith, times-cons page first chain, one_if_same first page e)

-- a walk of so many pages has so many
pub length-walk : (next : List ℕ) (page count : ℕ) → length (walk next page count) ≡ count
length-walk next page zero = refl
length-walk next page (suc count) = ap suc (length-walk next (slice_index next page) count)

-- a walk goes on from the page that comes after its first part
pub walk-add : (next : List ℕ) (page j k : ℕ) → walk next page (j + k) ≡ walk next page j ++ walk next (page_after next page j) k
walk-add next page zero k = ap (walk next page) (zero_add k)
  where
    zero_add : (n : ℕ) → 0 + n ≡ n
    zero_add n = omega arith
walk-add next page (suc j) k =
    ap (walk next page) (suc_add j k) ∙ ap (λ rest. page ∷ rest) (walk-add next (slice_index next page) j k)
  where
    suc_add : (a b : ℕ) → suc a + b ≡ suc (a + b)
    suc_add a b = omega arith

-- a walk of one page more ends with the page that comes after the shorter one
pub walk_more : (next : List ℕ) (page j : ℕ) → walk next page (j + 1) ≡ walk next page j ++ page_after next page j ∷ []
walk_more next page j = walk-add next page j 1

-- the page that comes one page later is the one that the page before names
pub page_after_more : (next : List ℕ) (page j : ℕ) → page_after next page (j + 1) ≡ slice_index next (page_after next page j)
page_after_more next page zero = refl
page_after_more next page (suc j) = ap (page_after next page) (suc_one j) ∙ page_after_more next (slice_index next page) j
  where
    suc_one : (a : ℕ) → suc a + 1 ≡ suc (a + 1)
    suc_one a = omega arith

-- a link that changes at a page outside a chain leaves the chain, and where it leads
pub walk-set : (next : List ℕ) (at to page count : ℕ) → times at (walk next page count) ≡ 0 → walk (set next at to) page count ≡ walk next page count
walk-set next at to page zero none = refl
walk-set next at to page (suc count) none =
    let other = not_first at page (walk next (slice_index next page) count) none in
    ap (λ rest. page ∷ rest)
    (ap (λ p. walk (set next at to) p count) (get_or-set_other next at page to 0 other)
    ∙ walk-set next at to (slice_index next page) count (omega (arith, times-tail at page (walk next (slice_index next page) count) other)))

-- a link that changes at a page outside a chain leaves where the chain leads
pub page_after-set : (next : List ℕ) (at to page count : ℕ) → times at (walk next page count) ≡ 0
    → page_after (set next at to) page count ≡ page_after next page count
page_after-set next at to page zero none = refl
page_after-set next at to page (suc count) none =
    let other = not_first at page (walk next (slice_index next page) count) none in
    ap (λ p. page_after (set next at to) p count) (get_or-set_other next at page to 0 other)
    ∙ page_after-set next at to (slice_index next page) count (omega (arith, times-tail at page (walk next (slice_index next page) count) other))

-- memories that agree on a page have the same part in it
part_agree : (m w : List ℕ) (page bytes : ℕ) → page_bytes m page ≡ page_bytes w page
    → take (min bytes 4096) (drop (page * 4096) m) ≡ take (min bytes 4096) (drop (page * 4096) w)
part_agree m w page bytes same = sym (shorter m) ∙ ap (take (min bytes 4096)) same ∙ shorter w
  where
    shorter : (z : List ℕ) → take (min bytes 4096) (page_bytes z page) ≡ take (min bytes 4096) (drop (page * 4096) z)
    shorter z = take-take (min bytes 4096) 4096 (drop (page * 4096) z) (omega arith)

-- two memories with the same bytes in each page of a chain have the same parts there
pub parts_in-agree : (m w : List ℕ) (chain : List ℕ) (bytes : ℕ) → ((page : ℕ) → 0 < times page chain → page_bytes m page ≡ page_bytes w page)
    → parts_in m chain bytes ≡ parts_in w chain bytes
parts_in-agree m w [] bytes same = refl
parts_in-agree m w (page ∷ chain) bytes same =
    ap (λ part. part ∷ parts_in m chain (bytes - 4096)) (part_agree m w page bytes (same page (omega (arith, times-head page chain))))
    ∙ ap (λ parts. take (min bytes 4096) (drop (page * 4096) w) ∷ parts)
    (parts_in-agree m w chain (bytes - 4096) (λ q some. same q (omega (arith, times-tail-le q page chain))))

-- a chain has one part for each of its pages
pub length-parts_in : (m chain : List ℕ) (bytes : ℕ) → length (parts_in m chain bytes) ≡ length chain
length-parts_in m [] bytes = refl
length-parts_in m (page ∷ chain) bytes = ap suc (length-parts_in m chain (bytes - 4096))

-- one page more holds what is left of the bytes
pub parts_in_push : (m chain : List ℕ) (page bytes : ℕ)
    → parts_in m (chain ++ page ∷ []) bytes ≡ parts_in m chain bytes ++ take (min (bytes - length chain * 4096) 4096) (drop (page * 4096) m) ∷ []
parts_in_push m [] page bytes = ap (λ n. take (min n 4096) (drop (page * 4096) m) ∷ []) (same bytes)
  where
    same : (n : ℕ) → n ≡ n - 0 * 4096
    same n = omega arith
parts_in_push m (first ∷ chain) page bytes =
    ap (λ parts. take (min bytes 4096) (drop (first * 4096) m) ∷ parts)
    (parts_in_push m chain page (bytes - 4096)
    ∙ ap (λ n. parts_in m chain (bytes - 4096) ++ take (min n 4096) (drop (page * 4096) m) ∷ []) (left bytes (length chain)))
  where
    left : (n k : ℕ) → n - 4096 - k * 4096 ≡ n - suc k * 4096
    left n k = omega arith

-- two rows of parts joined are the joined parts of both, in order
pub concat-append : (xs ys : List (List ℕ)) → concat (xs ++ ys) ≡ concat xs ++ concat ys
concat-append [] ys = refl
concat-append (x ∷ xs) ys = ap (λ rest. x ++ rest) (concat-append xs ys) ∙ sym (append_assoc x (concat xs) (concat ys))

-- a chain that is long enough holds all the bytes
pub length-concat-parts_in : (m chain : List ℕ) (bytes : ℕ) → HasPages m chain → bytes ≤ length chain * 4096 → length (concat (parts_in m chain bytes)) ≡ bytes
length-concat-parts_in m [] bytes pages enough = omega arith
length-concat-parts_in m (page ∷ chain) bytes pages enough =
    let here : length (take (min bytes 4096) (drop (page * 4096) m)) ≡ min bytes 4096 =
    length-take-le (min bytes 4096) (drop (page * 4096) m)
    (omega (arith, length-drop (page * 4096) m, pages page (omega (arith, times-head page chain)))) in
    omega (
      arith,
      length-append (take (min bytes 4096) (drop (page * 4096) m)) (concat (parts_in m chain (bytes - 4096))),
      here,
      length-concat-parts_in m chain (bytes - 4096) (λ q stands. pages q (omega (arith, times-tail-le q page chain, stands))) (omega arith),
    )

-- sums over all numbers below a bound, of functions that agree there
pub sum_by-upto-same : (f g : ℕ → ℕ) (n : ℕ) → ((k : ℕ) → k < n → g k ≡ f k) → sum_by g (upto n) ≡ sum_by f (upto n)
sum_by-upto-same f g zero same = refl
sum_by-upto-same f g (suc n) same =
    omega (arith, sum_by_push g (upto n) n, sum_by_push f (upto n) n, sum_by-upto-same f g n (λ k low. same k (omega arith)), same n (omega arith))

-- of functions that agree but for one number
pub sum_by-upto-change : (f g : ℕ → ℕ) (n at : ℕ) → at < n → ((k : ℕ) → k < n → k ≢ at → g k ≡ f k) → sum_by g (upto n) + f at ≡ sum_by f (upto n) + g at
sum_by-upto-change f g zero at below same = absurd (omega arith)
sum_by-upto-change f g (suc n) at below same =
    go (cases_eq at n) (λ inside. sum_by-upto-change f g n at inside (λ k low. same k (omega arith))) (sum_by-upto-same f g n)
  where
    go : (at ≡ n) ⊎ (at ≡ n → ⊥) → (at < n → sum_by g (upto n) + f at ≡ sum_by f (upto n) + g at)
        → (((k : ℕ) → k < n → g k ≡ f k) → sum_by g (upto n) ≡ sum_by f (upto n))
        → sum_by g (upto n ++ n ∷ []) + f at ≡ sum_by f (upto n ++ n ∷ []) + g at
    go (inl e) inside front =
        let others : sum_by g (upto n) ≡ sum_by f (upto n) = front (λ k low. same k (omega arith) (omega arith)) in
        omega (arith, sum_by_push g (upto n) n, sum_by_push f (upto n) n, others, ap f e, ap g e)
    go (inr other) inside front =
        omega (arith, sum_by_push g (upto n) n, sum_by_push f (upto n) n, inside (omega arith), same n (omega arith) (λ e. other (sym e)))

-- one of the numbers counts, and two different ones count both
pub sum_by-upto-one : (f : ℕ → ℕ) (n a : ℕ) → a < n → f a ≤ sum_by f (upto n)
sum_by-upto-one f zero a below = absurd (omega arith)
sum_by-upto-one f (suc n) a below = go (cases_eq a n) (sum_by-upto-one f n a)
  where
    go : (a ≡ n) ⊎ (a ≡ n → ⊥) → (a < n → f a ≤ sum_by f (upto n)) → f a ≤ sum_by f (upto n ++ n ∷ [])
    go (inl e) rest = omega (arith, sum_by_push f (upto n) n, ap f e)
    go (inr other) rest = omega (arith, sum_by_push f (upto n) n, rest (omega arith))

-- two different numbers below a bound give at most the sum over all of them
pub sum_by-upto-two : (f : ℕ → ℕ) (n a b : ℕ) → a < n → b < n → a ≢ b → f a + f b ≤ sum_by f (upto n)
sum_by-upto-two f zero a b below low apart = absurd (omega arith)
sum_by-upto-two f (suc n) a b below low apart = go (cases_eq a n) (cases_eq b n) (sum_by-upto-two f n a b) (sum_by-upto-one f n a) (sum_by-upto-one f n b)
  where
    go : (a ≡ n) ⊎ (a ≡ n → ⊥) → (b ≡ n) ⊎ (b ≡ n → ⊥) → (a < n → b < n → a ≢ b → f a + f b ≤ sum_by f (upto n))
        → (a < n → f a ≤ sum_by f (upto n)) → (b < n → f b ≤ sum_by f (upto n)) → f a + f b ≤ sum_by f (upto n ++ n ∷ [])
    go (inl e) (inl d) both one two = absurd (apart (e ∙ sym d))
    go (inl e) (inr other) both one two = omega (arith, sum_by_push f (upto n) n, ap f e, two (omega arith))
    go (inr other) (inl d) both one two = omega (arith, sum_by_push f (upto n) n, ap f d, one (omega arith))
    go (inr other) (inr elsewhere) both one two = omega (arith, sum_by_push f (upto n) n, both (omega arith) (omega arith) apart)

-- the page that comes after i pages of a chain stands in the chain, where it is longer
pub stands_in : (next : List ℕ) (first i k : ℕ) → i < k
    → times (page_after next first i) (walk next first i) + 1 ≤ times (page_after next first i) (walk next first k)
stands_in next first i k longer =
    let p = page_after next first i in
    let split : walk next first k ≡ walk next first i ++ walk next p (suc (k - i - 1)) =
    ap (walk next first) (parts i k longer) ∙ walk-add next first i (suc (k - i - 1)) in
    omega (
      arith,
      ap (times p) split,
      times-append p (walk next first i) (walk next p (suc (k - i - 1))),
      times-head p (walk next (slice_index next p) (k - i - 1)),
    )
  where
    parts : (a b : ℕ) → a < b → b ≡ a + suc (b - a - 1)
    parts a b h = omega arith

-- the first n + m members are the first n and then the m that come after
take_add : (n m : ℕ) (xs : List ℕ) → take (n + m) xs ≡ take n xs ++ take m (drop n xs)
take_add n m xs =
    sym (take-append-drop n (take (n + m) xs))
    ∙ ap (λ front. front ++ drop n (take (n + m) xs)) (take-take n (n + m) xs (omega arith))
    ∙ ap (λ back. take n xs ++ back) (drop-take n m xs)

-- the page that comes after i pages of a longer chain is below a bound of the chain's pages
pub page_after-within : (next : List ℕ) (first i k bound page : ℕ) → page ≡ page_after next first i → i < k
    → ((q : ℕ) → 0 < times q (walk next first k) → q < bound) → page < bound
page_after-within next first i k bound page is longer within =
    subst (λ p. p < bound) (sym is) (within (page_after next first i) (omega (arith, stands_in next first i k longer)))

-- it doesn't stand in the chain before
pub page_after-new : (next : List ℕ) (first i k : ℕ) → i < k → ((q : ℕ) → times q (walk next first k) ≤ 1)
    → times (page_after next first i) (walk next first i) ≡ 0
page_after-new next first i k longer once = omega (arith, stands_in next first i k longer, once (page_after next first i))

-- the page that a chain's i-th page names is the page after i + 1
pub page_after_next : (next : List ℕ) (first i page : ℕ) → page ≡ page_after next first i → slice_index next page ≡ page_after next first (i + 1)
page_after_next next first i page is = ap (slice_index next) is ∙ sym (page_after_more next first i)

-- ---- filling a chain page by page

-- the first pages of a chain hold the front of the bytes, and no other page changed
pub record IsFilled (old memory next bytes : List ℕ) (first i : ℕ) : Type 0 where
  pub here : concat (parts_in memory (walk next first i) (length bytes)) ≡ take (i * 4096) bytes
  pub pages : HasPages memory (walk next first i)
  pub writes : WritesPages old memory (walk next first i)

-- the chain with one page more
times-more : (q : ℕ) (next : List ℕ) (first i : ℕ) → times q (walk next first (i + 1)) ≡ times q (walk next first i) + times q (page_after next first i ∷ [])
times-more q next first i = ap (times q) (walk_more next first i) ∙ times-append q (walk next first i) (page_after next first i ∷ [])

-- one page more holds the next part of the bytes
filled_more : (m w next bytes part : List ℕ) (first i : ℕ)
    → concat (parts_in m (walk next first i) (length bytes)) ≡ take (i * 4096) bytes
    → ((q : ℕ) → 0 < times q (walk next first i) → page_bytes w q ≡ page_bytes m q)
    → part ≡ take 4096 (drop (i * 4096) bytes)
    → take (length part) (drop (page_after next first i * 4096) w) ≡ part
    → concat (parts_in w (walk next first (i + 1)) (length bytes)) ≡ take ((i + 1) * 4096) bytes
filled_more m w next bytes part first i before same is here =
    let p = page_after next first i in
    let chain = walk next first i in
    let last = take (min (length bytes - length chain * 4096) 4096) (drop (p * 4096) w) in
    let size : min (length bytes - length chain * 4096) 4096 ≡ length part =
    omega (arith, length-walk next first i, ap length is, length-take 4096 (drop (i * 4096) bytes), length-drop (i * 4096) bytes) in
    ap (λ c. concat (parts_in w c (length bytes))) (walk_more next first i)
    ∙ ap concat (parts_in_push w chain p (length bytes))
    ∙ concat-append (parts_in w chain (length bytes)) (last ∷ [])
    ∙ ap (λ front. front ++ (last ++ [])) (ap concat (parts_in-agree w m chain (length bytes) same) ∙ before)
    ∙ ap (λ back. take (i * 4096) bytes ++ back) (append-nil last ∙ ap (λ n. take n (drop (p * 4096) w)) size ∙ here ∙ is)
    ∙ sym (take_add (i * 4096) 4096 bytes)
    ∙ ap (λ n. take n bytes) (next_place i)
  where
    next_place : (n : ℕ) → n * 4096 + 4096 ≡ (n + 1) * 4096
    next_place n = omega arith

-- at most a page of what is left of the bytes
cut : (bytes : List ℕ) (a n : ℕ) → n ≡ min (length (take (length bytes - a) (drop a bytes))) 4096
    → take n (take (length bytes - a) (drop a bytes)) ≡ take 4096 (drop a bytes)
cut bytes a n is =
    ap (take n) (take_rest bytes a)
    ∙ ap (λ k. take k (drop a bytes)) (is ∙ ap (λ xs. min (length xs) 4096) (take_rest bytes a) ∙ swapped (length (drop a bytes)))
    ∙ take_min 4096 (drop a bytes)
  where
    swapped : (k : ℕ) → min k 4096 ≡ min 4096 k
    swapped k = omega arith

-- the page that the code has is written with the part that it cuts
pub filled_page : (old m w next bytes : List ℕ) (first i k page n : ℕ) → i < k → ((q : ℕ) → times q (walk next first k) ≤ 1)
    → page ≡ page_after next first i
    → n ≡ min (length (take (length bytes - i * 4096) (drop (i * 4096) bytes))) 4096
    → take (length (take n (take (length bytes - i * 4096) (drop (i * 4096) bytes)))) (drop (page * 4096) w)
    ≡ take n (take (length bytes - i * 4096) (drop (i * 4096) bytes))
    → HasPage w page → WritesPages m w (page ∷ []) → IsFilled old m next bytes first i → IsFilled old w next bytes first (i + 1)
filled_page old m w next bytes first i k page n longer once is size here has writes before =
    let p = page_after next first i in
    let part = take n (take (length bytes - i * 4096) (drop (i * 4096) bytes)) in
    let new = page_after-new next first i k longer once in
    let other : (q : ℕ) → (q ≡ p → ⊥) → times q (page ∷ []) ≡ 0 = λ q apart. omega (arith, times-tail q page [] (λ e. apart (sym e ∙ is))) in
    record {
      here = filled_more m w next bytes part first i before.here
          (λ q stands. writes.others q (other q (λ e. omega (arith, ap (λ x. times x (walk next first i)) e, new, stands))) (before.pages q stands))
          (cut bytes (i * 4096) n size)
          (subst (λ p. take (length part) (drop (p * 4096) w) ≡ part) is here);
      pages = λ q stands. go q (cases_eq q p) stands;
      writes = record {
        longer = omega (arith, before.writes.longer, writes.longer);
        others = λ q none there.
            writes.others q (other q (λ e. omega (arith, ap (λ x. times q (x ∷ [])) (sym e), times-head q [], times-more q next first i, none)))
            (omega (arith, there, before.writes.longer))
            ∙ before.writes.others q (omega (arith, times-more q next first i, none)) there;
      };
    }
  where
    go : (q : ℕ) → (q ≡ page_after next first i) ⊎ (q ≡ page_after next first i → ⊥) → 0 < times q (walk next first (i + 1)) → HasPage w q
    go q (inl e) stands = subst (HasPage w) (is ∙ sym e) has
    go q (inr apart) stands =
        omega (
          arith,
          before.pages q (omega (arith, stands, times-more q next first i, times-tail q (page_after next first i) [] (λ e. apart (sym e)))),
          writes.longer,
        )

-- a memory that is as it was is filled up to no page
pub filled_none : (m next bytes : List ℕ) (first : ℕ) → IsFilled m m next bytes first 0
filled_none m next bytes first = record {
  here = refl;
  pages = λ q stands. absurd (omega (arith, stands));
  writes = record { longer = omega arith; others = λ q none there. refl };
}

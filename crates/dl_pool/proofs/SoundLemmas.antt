-- What the tables of a pool hold where they fit: each page in one chain, each piece at its span, the spare pages those that
-- no piece needs.
use Rattle.std.proofs.Common.{◌≡◌, ◌≢◌, ℕ, zero, suc, ◌+◌, ◌-◌, ◌<◌, ◌≤◌, Bool, true, false, cond, ◌==◌, Option, Some, None, List, [], ◌∷◌}
use Rattle.std.proofs.Common.{◌++◌, length, set, slice_index, sum_by, refl, sym, ap, ◌∙◌, arith, inl, inr, ◌⊎◌, nat_lt, eq-eqb, eqb-true}
use Rattle.std.specs.List.{concat, flat_map}
use Rattle.std.proofs.lemmas.Bool.{cases_eq, cases_lt, ne_eqb, cond-true, cond-false, lt-ltb, le-ltb}
use Rattle.std.proofs.lemmas.List.{get_or_past, append-nil, length-set, get_or-set_same, get_or-set_other}
use Rattle.std.proofs.lemmas.List.Concat.{flat_map-append}
use Rattle.std.proofs.lemmas.List.Sums.{sum_by-append, sum_by-cons, sum_by_push}
use Rattle.dl_types.specs.Upto.{upto}
use Rattle.dl_pool.specs.Pools.{Adds, look_up, bytes_at, spare, pages_of}
use Rattle.dl_pool.specs.Pages.{walk, page_after, times, parts_in, pages_from, piece_from, pair_at}
use Rattle.dl_pool.specs.Pages.{pool_of, times_used, pages_used, HasPage, HasPages, WritesPages, IsSound}
use Rattle.dl_pool.proofs.PageLemmas.{pages_of-zero, pages_of-enough, pages_of-some}
use Rattle.dl_pool.proofs.ChainLemmas.{times-append, length-walk, walk-add, parts_in-agree, length-concat-parts_in}
use Rattle.dl_pool.proofs.ChainLemmas.{sum_by-upto-change, sum_by-upto-one, sum_by-upto-two, stands_in}

-- ---- look-ups

-- the first of two options that has something
or_else : Option (List ℕ) → Option (List ℕ) → Option (List ℕ)
or_else None y = y
or_else (Some x) y = Some x

-- an option or nothing is the option
or_else_none : (x : Option (List ℕ)) → or_else x None ≡ x
unfolding or_else
or_else_none None = refl
or_else_none (Some x) = refl

-- nothing, or else an option, is the option
none_first : (x y : Option (List ℕ)) → x ≡ None → or_else x y ≡ y
unfolding or_else
none_first x y none = ap (λ z. or_else z y) none

-- a choice before two options is a choice before the first of them
or_else-cond : (t : Bool) (b : List ℕ) (x y : Option (List ℕ)) → cond t (Some b) (or_else x y) ≡ or_else (cond t (Some b) x) y
unfolding or_else
or_else-cond true b x y = refl
or_else-cond false b x y = refl

-- two lists in a row have for a span what the first has, or else the second
look_up-append : (xs ys : List (ℕ × List ℕ)) (span : ℕ) → look_up (xs ++ ys) span ≡ or_else (look_up xs span) (look_up ys span)
unfolding or_else
look_up-append [] ys span = refl
look_up-append (x ∷ xs) ys span =
    ap (cond (x.0 == span) (Some x.1)) (look_up-append xs ys span) ∙ or_else-cond (x.0 == span) x.1 (look_up xs span) (look_up ys span)

-- the piece that begins at a page
abbrev pub piece_at : List ℕ → List ℕ → List ℕ → ℕ → Option (List ℕ)
piece_at memory next lengths page = cond (slice_index lengths page == 0) None (Some (piece_from memory next lengths page))

-- a single pair has nothing for another span
look_up_other : (n k : ℕ) (b : List ℕ) → (n ≡ k → ⊥) → look_up ((suc n, b) ∷ []) (suc k) ≡ None
look_up_other n k b apart = cond-false (suc n == suc k) (Some b) None (ne_eqb (suc n) (suc k) (λ e. apart (omega arith)))

-- a single pair has its bytes for its own span
look_up_same : (n : ℕ) (b : List ℕ) → look_up ((suc n, b) ∷ []) (suc n) ≡ Some b
look_up_same n b = cond-true (suc n == suc n) (Some b) None (eq-eqb (suc n) (suc n) refl)

-- the pair of a page, if there is one, has nothing for another page's span
pair_other : (t : Bool) (n k : ℕ) (b : List ℕ) → (n ≡ k → ⊥) → look_up (cond t [] ((suc n, b) ∷ [])) (suc k) ≡ None
pair_other true n k b apart = refl
pair_other false n k b apart = look_up_other n k b apart

-- the pair of a page, if there is one, has its bytes for its own span
pair_same : (t : Bool) (n : ℕ) (b : List ℕ) → look_up (cond t [] ((suc n, b) ∷ [])) (suc n) ≡ cond t None (Some b)
pair_same true n b = refl
pair_same false n b = look_up_same n b

-- the pairs of one page more have for a span what those before have, or else that page's pair
pairs_push : (m next lengths : List ℕ) (n k : ℕ) → look_up (flat_map (λ p. pair_at m next lengths p) (upto n ++ n ∷ [])) (suc k)
    ≡ or_else (look_up (flat_map (λ p. pair_at m next lengths p) (upto n)) (suc k)) (look_up (pair_at m next lengths n) (suc k))
pairs_push m next lengths n k =
    ap (λ xs. look_up xs (suc k))
    (flat_map-append (λ p. pair_at m next lengths p) (upto n) (n ∷ [])
    ∙ ap (λ xs. flat_map (λ p. pair_at m next lengths p) (upto n) ++ xs) (append-nil (pair_at m next lengths n)))
    ∙ look_up-append (flat_map (λ p. pair_at m next lengths p) (upto n)) (pair_at m next lengths n) (suc k)

-- the pairs of no page below the bound have a span past it
look_up_past : (m next lengths : List ℕ) (n k : ℕ) → n ≤ k → look_up (flat_map (λ p. pair_at m next lengths p) (upto n)) (suc k) ≡ None
look_up_past m next lengths zero k past = refl
look_up_past m next lengths (suc n) k past =
    pairs_push m next lengths n k
    ∙ none_first _ _ (look_up_past m next lengths n k (omega arith))
    ∙ pair_other (slice_index lengths n == 0) n k (piece_from m next lengths n) (λ e. omega arith)

-- the pairs of all pages have for a page's span the piece that begins there
look_up_below : (m next lengths : List ℕ) (n k : ℕ) → k < n → look_up (flat_map (λ p. pair_at m next lengths p) (upto n)) (suc k) ≡ piece_at m next lengths k
look_up_below m next lengths zero k below = absurd (omega arith)
look_up_below m next lengths (suc n) k below = pairs_push m next lengths n k ∙ go (cases_eq k n) (look_up_below m next lengths n k)
  where
    go : (k ≡ n) ⊎ (k ≡ n → ⊥) → (k < n → look_up (flat_map (λ p. pair_at m next lengths p) (upto n)) (suc k) ≡ piece_at m next lengths k)
        → or_else (look_up (flat_map (λ p. pair_at m next lengths p) (upto n)) (suc k)) (look_up (pair_at m next lengths n) (suc k)) ≡ piece_at m next lengths k
    go (inl e) rest =
        none_first _ _ (look_up_past m next lengths n k (omega arith))
        ∙ ap (λ j. look_up (pair_at m next lengths n) (suc j)) e
        ∙ pair_same (slice_index lengths n == 0) n (piece_from m next lengths n)
        ∙ ap (λ j. piece_at m next lengths j) (sym e)
    go (inr other) rest =
        ap (or_else (look_up (flat_map (λ p. pair_at m next lengths p) (upto n)) (suc k)))
        (pair_other (slice_index lengths n == 0) n k (piece_from m next lengths n) (λ e. other (sym e)))
        ∙ or_else_none _
        ∙ rest (omega arith)

-- a span's bytes are those of the piece that begins at the page before it in number
pub bytes_at-pool_of : (m next lengths : List ℕ) (k : ℕ) → length lengths ≡ length next → bytes_at (pool_of m next lengths) (suc k) ≡ piece_at m next lengths k
bytes_at-pool_of m next lengths k same = go (cases_lt k (length next))
  where
    go : (k < length next) ⊎ (length next ≤ k) → bytes_at (pool_of m next lengths) (suc k) ≡ piece_at m next lengths k
    go (inl below) = look_up_below m next lengths (length next) k below
    go (inr past) =
        look_up_past m next lengths (length next) k past
        ∙ sym (cond-true (slice_index lengths k == 0) None (Some (piece_from m next lengths k)) (eq-eqb _ 0 (get_or_past lengths k 0 (omega (arith, same)))))

-- a page with a length has the piece that begins there
pub piece_at-some : (m next lengths : List ℕ) (page : ℕ) → 0 < slice_index lengths page → piece_at m next lengths page ≡ Some (piece_from m next lengths page)
piece_at-some m next lengths page some = cond-false _ None (Some (piece_from m next lengths page)) (ne_eqb _ 0 (λ e. omega (arith, e)))

-- a page without a length has no piece
pub piece_at-none : (m next lengths : List ℕ) (page : ℕ) → slice_index lengths page ≡ 0 → piece_at m next lengths page ≡ None
piece_at-none m next lengths page none = cond-true _ None (Some (piece_from m next lengths page)) (eq-eqb _ 0 none)

-- ---- what fits

-- a page below the bound counts once
one_if : (page n : ℕ) → page < n → cond {A = ℕ} (nat_lt page n) 1 0 ≡ 1
one_if page n below = cond-true {A = ℕ} (nat_lt page n) 1 0 (lt-ltb page n below)

-- a page from the bound on doesn't count
none_if : (page n : ℕ) → n ≤ page → cond {A = ℕ} (nat_lt page n) 1 0 ≡ 0
none_if page n past = cond-false {A = ℕ} (nat_lt page n) 1 0 (le-ltb page n past)

-- a page counts at most once
at_most_one : (page n : ℕ) → cond {A = ℕ} (nat_lt page n) 1 0 ≤ 1
at_most_one page n = go (cases_lt page n)
  where
    go : (page < n) ⊎ (n ≤ page) → cond {A = ℕ} (nat_lt page n) 1 0 ≤ 1
    go (inl h) = omega (arith, one_if page n h)
    go (inr h) = omega (arith, none_if page n h)

-- a page that stands somewhere is one of the pages
below_if : (page n : ℕ) → 0 < cond {A = ℕ} (nat_lt page n) 1 0 → page < n
below_if page n some = go (cases_lt page n)
  where
    go : (page < n) ⊎ (n ≤ page) → page < n
    go (inl h) = h
    go (inr h) = absurd (omega (arith, none_if page n h))

module _ (m next lengths : List ℕ) (free left : ℕ) (sound : IsSound m next lengths free left) where
  -- a piece's pages are among those of all pieces
  pub one_used : (page first : ℕ) → first < length next → times page (pages_from next lengths first) ≤ times_used next lengths page
  one_used page first below = sum_by-upto-one (λ p. times page (pages_from next lengths p)) (length next) first below

  pub free_once : (page : ℕ) → times page (walk next free left) ≤ 1
  free_once page = omega (arith, sound.once page, at_most_one page (length next))

  pub free_within : (page : ℕ) → 0 < times page (walk next free left) → page < length next
  free_within page some = below_if page (length next) (omega (arith, sound.once page))

  pub used_once : (page first : ℕ) → first < length next → times page (pages_from next lengths first) ≤ 1
  used_once page first below = omega (arith, sound.once page, at_most_one page (length next), one_used page first below)

  pub used_within : (page first : ℕ) → first < length next → 0 < times page (pages_from next lengths first) → page < length next
  used_within page first below some = below_if page (length next) (omega (arith, sound.once page, one_used page first below))

  -- the memory has a piece's pages
  pub used_written : (first : ℕ) → first < length next → HasPages m (pages_from next lengths first)
  used_written first below page some = sound.written page (omega (arith, some, one_used page first below))

  -- no page is free and used
  pub free_or_used : (page first : ℕ) → first < length next → 0 < times page (pages_from next lengths first) → times page (walk next free left) ≡ 0
  free_or_used page first below some = omega (arith, sound.once page, at_most_one page (length next), one_used page first below)

  -- no page is used by two pieces
  pub one_or_other : (page first other : ℕ) → first < length next → other < length next → first ≢ other
      → 0 < times page (pages_from next lengths first) → times page (pages_from next lengths other) ≡ 0
  one_or_other page first other below low apart some =
      omega (
        arith,
        sound.once page,
        at_most_one page (length next),
        sum_by-upto-two (λ p. times page (pages_from next lengths p)) (length next) first other below low apart,
      )

  -- where a piece begins is one of the pages
  pub begins_below : (first : ℕ) → 0 < slice_index lengths first → first < length next
  begins_below first some = go (cases_lt first (length next))
    where
      go : (first < length next) ⊎ (length next ≤ first) → first < length next
      go (inl h) = h
      go (inr h) = absurd (omega (arith, get_or_past lengths first 0 (omega (arith, sound.lengths_length))))

  -- a piece has as many bytes as its length says
  pub length-piece_from : (first : ℕ) → first < length next → length (piece_from m next lengths first) ≡ slice_index lengths first
  length-piece_from first below =
      length-concat-parts_in m (pages_from next lengths first) (slice_index lengths first) (used_written first below)
      (omega (arith, length-walk next first (pages_of (slice_index lengths first)), pages_of-enough (slice_index lengths first)))

-- ---- spare pages

-- the pair of a page, if there is one, needs as many pages as its piece takes
pairs_need_go : (t : Bool) (span n need : ℕ) (b : List ℕ) → (t ≡ true → need ≡ 0) → (t ≡ false → pages_of (length b) ≡ need)
    → sum_by (λ (x : ℕ × List ℕ). pages_of (length x.1)) (cond t [] ((span, b) ∷ [])) ≡ need
pairs_need_go true span n need b none some = sym (none refl)
pairs_need_go false span n need b none some = omega (arith, sum_by-cons {X = ℕ × List ℕ} (λ (x : ℕ × List ℕ). pages_of (length x.1)) (span, b) [], some refl)

-- the pairs of the pages below a bound need as many pages as the lengths say
pairs_need : (m next lengths : List ℕ) (n : ℕ) → ((p : ℕ) → p < n → length (piece_from m next lengths p) ≡ slice_index lengths p)
    → sum_by (λ (x : ℕ × List ℕ). pages_of (length x.1)) (flat_map (λ p. pair_at m next lengths p) (upto n)) ≡ pages_used lengths n
pairs_need m next lengths zero sizes = refl
pairs_need m next lengths (suc n) sizes =
    let need = slice_index lengths n in
    let pair = pair_at m next lengths n in
    let last : sum_by (λ (x : ℕ × List ℕ). pages_of (length x.1)) pair ≡ pages_of need =
    pairs_need_go (need == 0) (suc n) n (pages_of need) (piece_from m next lengths n)
    (λ e. ap pages_of (eqb-true need 0 e) ∙ pages_of-zero) (λ _. ap pages_of (sizes n (omega arith))) in
    ap (sum_by (λ (x : ℕ × List ℕ). pages_of (length x.1)))
    (flat_map-append (λ p. pair_at m next lengths p) (upto n) (n ∷ [])
    ∙ ap (λ xs. flat_map (λ p. pair_at m next lengths p) (upto n) ++ xs) (append-nil pair))
    ∙ sum_by-append (λ (x : ℕ × List ℕ). pages_of (length x.1)) (flat_map (λ p. pair_at m next lengths p) (upto n)) pair
    ∙ ap (λ a. a + sum_by (λ (x : ℕ × List ℕ). pages_of (length x.1)) pair) (pairs_need m next lengths n (λ p low. sizes p (omega arith)))
    ∙ ap (λ b. pages_used lengths n + b) last
    ∙ sym (sum_by_push (λ p. pages_of (slice_index lengths p)) (upto n) n)

-- the free pages are the spare ones
pub spare-pool_of : (m next lengths : List ℕ) (free left : ℕ) → IsSound m next lengths free left → spare (pool_of m next lengths) ≡ left
spare-pool_of m next lengths free left sound =
    omega (
      arith,
      pairs_need m next lengths (length next) (length-piece_from m next lengths free left sound),
      sound.counted,
    )

-- ---- a piece put

module _ (m next lengths : List ℕ) (free left : ℕ) (sound : IsSound m next lengths free left) (w bytes : List ℕ)
    (some : 0 < length bytes) (enough : pages_of (length bytes) ≤ left) where
  free_split : (page : ℕ) → times page (walk next free left)
      ≡ times page (walk next free (pages_of (length bytes))) + times page
      (walk next (page_after next free (pages_of (length bytes))) (left - pages_of (length bytes)))
  free_split page =
      let k = pages_of (length bytes) in
      let split : walk next free left ≡ walk next free k ++ walk next (page_after next free k) (left - k) =
      ap (walk next free) (parts left k enough) ∙ walk-add next free k (left - k) in
      ap (times page) split ∙ times-append page (walk next free k) (walk next (page_after next free k) (left - k))
    where
      parts : (a b : ℕ) → b ≤ a → a ≡ b + (a - b)
      parts a b h = omega arith

  pub chain_once : (page : ℕ) → times page (walk next free (pages_of (length bytes))) ≤ 1
  chain_once page = omega (arith, free_split page, free_once m next lengths free left sound page)

  pub chain_within : (page : ℕ) → 0 < times page (walk next free (pages_of (length bytes))) → page < length next
  chain_within page stands = free_within m next lengths free left sound page (omega (arith, free_split page))

  first_stands : 0 < times free (walk next free (pages_of (length bytes)))
  first_stands = omega (arith, stands_in next free 0 (pages_of (length bytes)) (pages_of-some (length bytes) some))

  pub first_below : free < length next
  first_below = chain_within free first_stands

  pub first_unused : slice_index lengths free ≡ 0
  first_unused = go (cases_lt 0 (slice_index lengths free))
    where
      go : (0 < slice_index lengths free) ⊎ (slice_index lengths free ≤ 0) → slice_index lengths free ≡ 0
      go (inr h) = omega arith
      go (inl h) =
          absurd
          (omega (
            arith,
            free_or_used m next lengths free left sound free free first_below
                (omega (arith, stands_in next free 0 (pages_of (slice_index lengths free)) (pages_of-some (slice_index lengths free) h))),
            free_split free,
            first_stands,
          ))

  length_here : slice_index (set lengths free (length bytes)) free ≡ length bytes
  length_here = get_or-set_same lengths free (length bytes) 0 (omega (arith, first_below, sound.lengths_length))

  length_other : (p : ℕ) → p ≢ free → slice_index (set lengths free (length bytes)) p ≡ slice_index lengths p
  length_other p apart = get_or-set_other lengths free p (length bytes) 0 apart

  used_more : (page : ℕ)
      → times_used next (set lengths free (length bytes)) page ≡ times_used next lengths page + times page (walk next free (pages_of (length bytes)))
  used_more page =
      omega (
        arith,
        sum_by-upto-change (λ p. times page (pages_from next lengths p)) (λ p. times page (pages_from next (set lengths free (length bytes)) p))
            (length next) free first_below
            (λ p low apart. ap (λ n. times page (walk next p (pages_of n))) (length_other p apart)),
        ap (λ n. times page (walk next free (pages_of n))) length_here,
        ap (λ n. times page (walk next free n)) (ap pages_of first_unused ∙ pages_of-zero),
      )

  pages_more : pages_used (set lengths free (length bytes)) (length next) ≡ pages_used lengths (length next) + pages_of (length bytes)
  pages_more =
      omega (
        arith,
        sum_by-upto-change (λ p. pages_of (slice_index lengths p)) (λ p. pages_of (slice_index (set lengths free (length bytes)) p)) (length next)
            free first_below
            (λ p low apart. ap pages_of (length_other p apart)),
        ap pages_of length_here,
        ap pages_of first_unused ∙ pages_of-zero,
      )

  -- the pages of the new piece are in the memory, and those that it had
  module _ (has : HasPages w (walk next free (pages_of (length bytes)))) (writes : WritesPages m w (walk next free (pages_of (length bytes)))) where
    put_written : (page : ℕ) → 0 < times_used next (set lengths free (length bytes)) page → HasPage w page
    put_written page some = go (cases_lt 0 (times page (walk next free (pages_of (length bytes)))))
      where
        go : (0 < times page (walk next free (pages_of (length bytes)))) ⊎ (times page (walk next free (pages_of (length bytes))) ≤ 0) → HasPage w page
        go (inl new) = has page new
        go (inr old) = omega (arith, sound.written page (omega (arith, some, old, used_more page)), writes.longer)

    pub put_sound : IsSound w next (set lengths free (length bytes)) (page_after next free (pages_of (length bytes))) (left - pages_of (length bytes))
    put_sound = record {
      written = put_written;
      lengths_length = length-set lengths free (length bytes) ∙ sound.lengths_length;
      few = sound.few;
      counted = omega (arith, pages_more, sound.counted, enough);
      once =
          λ page. sum_moves (times page (walk next (page_after next free (pages_of (length bytes))) (left - pages_of (length bytes)))) _ _ _ _ _
          (free_split page) (used_more page) (sound.once page);
    }
      where
        sum_moves : (rest used' used here all one : ℕ) → all ≡ here + rest → used' ≡ used + here → all + used ≡ one → rest + used' ≡ one
        sum_moves rest used' used here all one a b c = omega arith

    pub put_adds : concat (parts_in w (walk next free (pages_of (length bytes))) (length bytes)) ≡ bytes
        → Adds (pool_of m next lengths) (suc free) bytes (pool_of w next (set lengths free (length bytes)))
    put_adds here = record {
      here =
          bytes_at-pool_of w next (set lengths free (length bytes)) free after.lengths_length
          ∙ piece_at-some w next (set lengths free (length bytes)) free (omega (arith, length_here))
          ∙ ap Some (ap (λ n. concat (parts_in w (walk next free (pages_of n)) n)) length_here ∙ here);
      fresh = λ _. bytes_at-pool_of m next lengths free sound.lengths_length ∙ piece_at-none m next lengths free first_unused;
      others = other;
      pages = refl;
      room =
          omega (
            arith,
            spare-pool_of m next lengths free left sound,
            spare-pool_of w next (set lengths free (length bytes)) (page_after next free (pages_of (length bytes))) (left - pages_of (length bytes)) after,
            enough,
          );
    }
      where
        after : IsSound w next (set lengths free (length bytes)) (page_after next free (pages_of (length bytes))) (left - pages_of (length bytes))
        after = put_sound

        stays : (p : ℕ) → p ≢ free → (0 < slice_index lengths p) ⊎ (slice_index lengths p ≤ 0)
            → piece_at w next (set lengths free (length bytes)) p ≡ piece_at m next lengths p
        stays p apart (inr none) =
            piece_at-none w next (set lengths free (length bytes)) p (omega (arith, length_other p apart))
            ∙ sym (piece_at-none m next lengths p (omega arith))
        stays p apart (inl used) =
            piece_at-some w next (set lengths free (length bytes)) p (omega (arith, length_other p apart))
            ∙ ap Some
            (ap (λ n. concat (parts_in w (walk next p (pages_of n)) n)) (length_other p apart)
            ∙ ap concat
            (parts_in-agree w m (pages_from next lengths p) (slice_index lengths p)
            (λ page stands.
            let below = begins_below m next lengths free left sound p used in
            writes.others page (omega (arith, free_split page, free_or_used m next lengths free left sound page p below stands))
            (used_written m next lengths free left sound p below page stands))))
            ∙ sym (piece_at-some m next lengths p used)

        other : (span : ℕ) → span ≢ suc free → bytes_at (pool_of w next (set lengths free (length bytes))) span ≡ bytes_at (pool_of m next lengths) span
        other zero apart = refl
        other (suc p) apart =
            bytes_at-pool_of w next (set lengths free (length bytes)) p after.lengths_length
            ∙ stays p (λ e. apart (ap suc e)) (cases_lt 0 (slice_index lengths p))
            ∙ sym (bytes_at-pool_of m next lengths p sound.lengths_length)

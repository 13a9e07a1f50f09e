-- A new pool: one chain of all pages, and no piece.
use Rattle.std.proofs.Common.{◌≡◌, ℕ, zero, suc, ◌+◌, ◌^◌, ◌<◌, ◌≤◌, cond, ◌==◌, List, [], ◌∷◌, ◌++◌, length}
use Rattle.std.proofs.Common.{slice_index, sum_by, refl, sym, ap, ◌∙◌, arith, inl, inr, ◌⊎◌, nat_lt, eq-eqb}
use Rattle.std.specs.List.{flat_map}
use Rattle.std.proofs.lemmas.Bool.{cases_lt, cond-true, cond-false, lt-ltb, le-ltb}
use Rattle.std.proofs.lemmas.List.{append-nil}
use Rattle.std.proofs.lemmas.List.Concat.{flat_map-append}
use Rattle.std.proofs.lemmas.List.Sums.{sum_by_push}
use Rattle.dl_types.specs.Upto.{upto}
use Rattle.dl_pool.specs.Pools.{Held, empty_pool, pages_of}
use Rattle.dl_pool.specs.Pages.{walk, times, pages_from, pair_at, pool_of, times_used, IsSound}
use Rattle.dl_pool.proofs.PageLemmas.{pages_of-zero}
use Rattle.dl_pool.proofs.ChainLemmas.{times-head, times-tail}

-- a sum of nothings is nothing
sum_by-upto-none : (f : ℕ → ℕ) (n : ℕ) → ((k : ℕ) → f k ≡ 0) → sum_by f (upto n) ≡ 0
sum_by-upto-none f zero none = refl
sum_by-upto-none f (suc n) none = omega (arith, sum_by_push f (upto n) n, sum_by-upto-none f n none, none n)

-- empty lists in a row are empty
flat_map-upto-none : (f : ℕ → List (ℕ × List ℕ)) (n : ℕ) → ((k : ℕ) → f k ≡ []) → flat_map f (upto n) ≡ []
flat_map-upto-none f zero none = refl
flat_map-upto-none f (suc n) none =
    flat_map-append f (upto n) (n ∷ []) ∙ ap (λ xs. xs ++ (f n ++ [])) (flat_map-upto-none f n none) ∙ append-nil (f n) ∙ none n

module _ (next : List ℕ) (pages : ℕ) (rises : (k : ℕ) → k < pages → slice_index next k ≡ k + 1) where
  -- pages before and after a part of the chain don't stand in it, and the others once
  times_before : (page first count : ℕ) → first + count ≤ pages → page < first → times page (walk next first count) ≡ 0
  times_before page first zero within before = refl
  times_before page first (suc count) within before =
      ap (λ p. times page (first ∷ walk next p count)) (rises first (omega arith))
      ∙ times-tail page first (walk next (first + 1) count) (λ e. omega arith)
      ∙ times_before page (first + 1) count (omega arith) (omega arith)

  times_after : (page first count : ℕ) → first + count ≤ pages → first + count ≤ page → times page (walk next first count) ≡ 0
  times_after page first zero within after = refl
  times_after page first (suc count) within after =
      ap (λ p. times page (first ∷ walk next p count)) (rises first (omega arith))
      ∙ times-tail page first (walk next (first + 1) count) (λ e. omega arith)
      ∙ times_after page (first + 1) count (omega arith) (omega arith)

  times_inside : (page first count : ℕ) → first + count ≤ pages → first ≤ page → page < first + count → times page (walk next first count) ≡ 1
  times_inside page first zero within from to = absurd (omega arith)
  times_inside page first (suc count) within from to =
      ap (λ p. times page (first ∷ walk next p count)) (rises first (omega arith)) ∙ go (cases_lt first page) (times_inside page (first + 1) count)
    where
      go : (first < page) ⊎ (page ≤ first) → (first + 1 + count ≤ pages → first + 1 ≤ page → page < first + 1 + count
          → times page (walk next (first + 1) count) ≡ 1)
          → times page (first ∷ walk next (first + 1) count) ≡ 1
      go (inl later) rest =
          times-tail page first (walk next (first + 1) count) (λ e. omega arith) ∙ rest (omega arith) (omega arith) (omega arith)
      go (inr here) rest =
          let same : page ≡ first = omega arith in
          ap (λ p. times p (first ∷ walk next (first + 1) count)) same
          ∙ times-head first (walk next (first + 1) count)
          ∙ ap (λ n. 1 + n) (times_before first (first + 1) count (omega arith) (omega arith))

  module _ (m lengths : List ℕ) (none : (k : ℕ) → slice_index lengths k ≡ 0) (whole : length next ≡ pages) where
    unused : (page k : ℕ) → times page (pages_from next lengths k) ≡ 0
    unused page k = ap (λ n. times page (walk next k n)) (ap pages_of (none k) ∙ pages_of-zero)

    pub new_sound : length lengths ≡ pages → pages < 2 ^ 32 → IsSound m next lengths 0 pages
    new_sound size few = record {
      written = λ page some. absurd (omega (arith, some, sum_by-upto-none (λ k. times page (pages_from next lengths k)) (length next) (unused page)));
      lengths_length = size ∙ sym whole;
      few = omega (arith, few, whole);
      counted = omega (arith, sum_by-upto-none (λ k. pages_of (slice_index lengths k)) (length next) (λ k. ap pages_of (none k) ∙ pages_of-zero), whole);
      once = λ page. ap (λ n. n + times_used next lengths page) (go page (cases_lt page pages))
          ∙ ap (λ n. cond {A = ℕ} (nat_lt page pages) 1 0 + n) (sum_by-upto-none (λ k. times page (pages_from next lengths k)) (length next) (unused page))
          ∙ plus_none (cond {A = ℕ} (nat_lt page pages) 1 0)
          ∙ ap (λ n. cond {A = ℕ} (nat_lt page n) 1 0) (sym whole);
    }
      where
        go : (page : ℕ) → (page < pages) ⊎ (pages ≤ page) → times page (walk next 0 pages) ≡ cond (nat_lt page pages) 1 0
        go page (inl below) =
            times_inside page 0 pages (omega arith) (omega arith) (omega arith) ∙ sym (cond-true {A = ℕ} (nat_lt page pages) 1 0 (lt-ltb page pages below))
        go page (inr past) = times_after page 0 pages (omega arith) (omega arith) ∙ sym (cond-false {A = ℕ} (nat_lt page pages) 1 0 (le-ltb page pages past))

        plus_none : (n : ℕ) → n + 0 ≡ n
        plus_none n = omega arith

    pub new_pool : pool_of m next lengths ≡ empty_pool pages
    new_pool =
        ap (λ live. made (length next) live) (flat_map-upto-none (λ k. pair_at m next lengths k) (length next) empty)
        ∙ ap (λ n. made n []) whole
      where
        made : ℕ → List (ℕ × List ℕ) → Held
        made n live = record { pages = n; live = live }

        empty : (k : ℕ) → pair_at m next lengths k ≡ []
        empty k = cond-true (slice_index lengths k == 0) [] _ (eq-eqb (slice_index lengths k) 0 (none k))

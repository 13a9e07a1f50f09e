-- A piece freed: its last page is linked to the free ones.
use Rattle.std.proofs.Common.{◌≡◌, ◌≢◌, ℕ, zero, suc, ◌+◌, ◌-◌, ◌<◌, ◌≤◌, cond, Some, List, [], ◌∷◌, ◌++◌, length}
use Rattle.std.proofs.Common.{set, slice_index, sum_by, refl, sym, ap, ◌∙◌, arith, inl, inr, ◌⊎◌, nat_lt}
use Rattle.std.specs.List.{concat}
use Rattle.std.proofs.lemmas.Bool.{cases_lt}
use Rattle.std.proofs.lemmas.List.{length-set, get_or-set_same, get_or-set_other}
use Rattle.dl_types.specs.Upto.{upto}
use Rattle.dl_pool.specs.Pools.{Adds, bytes_at, pages_of}
use Rattle.dl_pool.specs.Pages.{walk, page_after, times, parts_in, pages_from, piece_from, pool_of, times_used, pages_used, IsSound}
use Rattle.dl_pool.proofs.PageLemmas.{pages_of-zero, pages_of-some}
use Rattle.dl_pool.proofs.ChainLemmas.{times-append, walk-add, walk_more, walk-set, page_after-set, page_after_more, sum_by-upto-change, stands_in}
use Rattle.dl_pool.proofs.SoundLemmas.{piece_at, piece_at-some, piece_at-none, bytes_at-pool_of, free_or_used, one_or_other}
use Rattle.dl_pool.proofs.SoundLemmas.{used_once, used_within, begins_below, length-piece_from, spare-pool_of}

module _ (m next lengths : List ℕ) (free left : ℕ) (sound : IsSound m next lengths free left) (first : ℕ) (some : 0 < slice_index lengths first) where
  pub below : first < length next
  below = begins_below m next lengths free left sound first some

  -- the last page of the piece
  abbrev pub last_page : ℕ
  last_page = page_after next first (pages_of (slice_index lengths first) - 1)

  one_more : pages_of (slice_index lengths first) ≡ (pages_of (slice_index lengths first) - 1) + 1
  one_more = omega (arith, pages_of-some (slice_index lengths first) some)

  last_stands : times last_page (walk next first (pages_of (slice_index lengths first) - 1)) + 1 ≤ times last_page (pages_from next lengths first)
  last_stands =
      stands_in next first (pages_of (slice_index lengths first) - 1) (pages_of (slice_index lengths first))
      (omega (arith, pages_of-some (slice_index lengths first) some))

  last_once : times last_page (walk next first (pages_of (slice_index lengths first) - 1)) ≡ 0
  last_once = omega (arith, last_stands, used_once m next lengths free left sound last_page first below)

  pub last_below : last_page < length next
  last_below = used_within m next lengths free left sound last_page first below (omega (arith, last_stands))

  last_used : times last_page (walk next free left) ≡ 0
  last_used = free_or_used m next lengths free left sound last_page first below (omega (arith, last_stands))

  -- the links between the pages before the last one
  pub links_within : (page : ℕ) → 0 < times page (walk next first (pages_of (slice_index lengths first) - 1)) → page < length next
  links_within page stands = used_within m next lengths free left sound page first below (omega (arith, whole page))
    where
      whole : (q : ℕ) → times q (pages_from next lengths first)
          ≡ times q (walk next first (pages_of (slice_index lengths first) - 1)) + times q (last_page ∷ [])
      whole q =
          ap (times q) (ap (walk next first) one_more ∙ walk_more next first (pages_of (slice_index lengths first) - 1))
          ∙ times-append q (walk next first (pages_of (slice_index lengths first) - 1)) (last_page ∷ [])

  -- the piece's pages lead on to the free ones
  joined : walk (set next last_page free) first (left + pages_of (slice_index lengths first)) ≡ pages_from next lengths first ++ walk next free left
  joined =
      let j = pages_of (slice_index lengths first) - 1 in
      let next' = set next last_page free in
      let lead : page_after next' first j ≡ last_page = page_after-set next last_page free first j last_once in
      let chain : walk next' first (j + 1) ≡ pages_from next lengths first =
      walk_more next' first j
      ∙ ap (λ front. front ++ page_after next' first j ∷ []) (walk-set next last_page free first j last_once)
      ∙ ap (λ p. walk next first j ++ p ∷ []) lead
      ∙ sym (walk_more next first j)
      ∙ ap (walk next first) (sym one_more) in
      let on : page_after next' first (j + 1) ≡ free =
      page_after_more next' first j ∙ ap (slice_index next') lead ∙ get_or-set_same next last_page free 0 last_below in
      ap (walk next' first) (order left (pages_of (slice_index lengths first)) j one_more)
      ∙ walk-add next' first (j + 1) left
      ∙ ap (λ front. front ++ walk next' (page_after next' first (j + 1)) left) chain
      ∙ ap (λ p. pages_from next lengths first ++ walk next' p left) on
      ∙ ap (λ back. pages_from next lengths first ++ back) (walk-set next last_page free free left last_used)
    where
      order : (a k j : ℕ) → k ≡ j + 1 → a + k ≡ (j + 1) + a
      order a k j e = omega arith

  length_here : slice_index (set lengths first 0) first ≡ 0
  length_here = get_or-set_same lengths first 0 0 (omega (arith, below, sound.lengths_length))

  length_other : (p : ℕ) → p ≢ first → slice_index (set lengths first 0) p ≡ slice_index lengths p
  length_other p apart = get_or-set_other lengths first p 0 0 apart

  -- the pages of another piece, before and after
  pages_other : (p : ℕ) → p ≢ first → pages_from (set next last_page free) (set lengths first 0) p ≡ pages_from next lengths p
  pages_other p apart =
      ap (λ n. walk (set next last_page free) p (pages_of n)) (length_other p apart) ∙ go (cases_lt 0 (slice_index lengths p))
    where
      zero_of : (n : ℕ) → n ≤ 0 → n ≡ 0
      zero_of n h = omega arith

      go : (0 < slice_index lengths p) ⊎ (slice_index lengths p ≤ 0)
          → walk (set next last_page free) p (pages_of (slice_index lengths p)) ≡ pages_from next lengths p
      go (inl used) =
          walk-set next last_page free p (pages_of (slice_index lengths p))
          (one_or_other m next lengths free left sound last_page first p below (begins_below m next lengths free left sound p used)
          (λ e. apart (sym e)) (omega (arith, last_stands)))
      go (inr none) =
          let empty : pages_of (slice_index lengths p) ≡ 0 = ap pages_of (zero_of (slice_index lengths p) none) ∙ pages_of-zero in
          ap (walk (set next last_page free) p) empty ∙ sym (ap (walk next p) empty)

  used_less : (page : ℕ)
      → times_used (set next last_page free) (set lengths first 0) page + times page (pages_from next lengths first) ≡ times_used next lengths page
  used_less page =
      omega (
        arith,
        ap (λ n. sum_by (λ p. times page (pages_from (set next last_page free) (set lengths first 0) p)) (upto n)) (length-set next last_page free),
        sum_by-upto-change (λ p. times page (pages_from next lengths p))
            (λ p. times page (pages_from (set next last_page free) (set lengths first 0) p)) (length next) first below
            (λ p low apart. ap (times page) (pages_other p apart)),
        ap (λ n. times page (walk (set next last_page free) first n)) (ap pages_of length_here ∙ pages_of-zero),
      )

  pages_less : pages_used (set lengths first 0) (length next) + pages_of (slice_index lengths first) ≡ pages_used lengths (length next)
  pages_less =
      omega (
        arith,
        sum_by-upto-change (λ p. pages_of (slice_index lengths p)) (λ p. pages_of (slice_index (set lengths first 0) p)) (length next) first below
            (λ p low apart. ap pages_of (length_other p apart)),
        ap pages_of length_here ∙ pages_of-zero,
      )

  pub free_sound : IsSound m (set next last_page free) (set lengths first 0) first (left + pages_of (slice_index lengths first))
  free_sound = record {
    written = λ page some. sound.written page (omega (arith, some, used_less page));
    lengths_length = length-set lengths first 0 ∙ sound.lengths_length ∙ sym (length-set next last_page free);
    few = omega (arith, sound.few, length-set next last_page free);
    counted =
        ap (λ n. left + pages_of (slice_index lengths first) + pages_used (set lengths first 0) n) (length-set next last_page free)
        ∙ count_moves left _ _ _ _ pages_less sound.counted
        ∙ sym (length-set next last_page free);
    once = λ page.
        sum_moves _ _ _ _ _ _ (ap (times page) joined ∙ times-append page (pages_from next lengths first) (walk next free left)) (used_less page)
        (sound.once page)
        ∙ ap (λ n. cond (nat_lt page n) 1 0) (sym (length-set next last_page free));
  }
    where
      count_moves : (left k used' used all : ℕ) → used' + k ≡ used → left + used ≡ all → left + k + used' ≡ all
      count_moves left k used' used all a b = omega arith

      sum_moves : (all here rest used' used one : ℕ) → all ≡ here + rest → used' + here ≡ used → rest + used ≡ one → all + used' ≡ one
      sum_moves all here rest used' used one a b c = omega arith

  pub free_adds : Adds (pool_of m (set next last_page free) (set lengths first 0)) (suc first) (piece_from m next lengths first) (pool_of m next lengths)
  free_adds = record {
    here = bytes_at-pool_of m next lengths first sound.lengths_length ∙ piece_at-some m next lengths first some;
    fresh = λ _.
        bytes_at-pool_of m (set next last_page free) (set lengths first 0) first free_sound.lengths_length
        ∙ piece_at-none m (set next last_page free) (set lengths first 0) first length_here;
    others = other;
    pages = sym (length-set next last_page free);
    room =
        omega (
          arith,
          spare-pool_of m next lengths free left sound,
          spare-pool_of m (set next last_page free) (set lengths first 0) first (left + pages_of (slice_index lengths first)) free_sound,
          ap pages_of (length-piece_from m next lengths free left sound first below),
        );
  }
    where
      stays : (p : ℕ) → p ≢ first → (0 < slice_index lengths p) ⊎ (slice_index lengths p ≤ 0)
          → piece_at m (set next last_page free) (set lengths first 0) p ≡ piece_at m next lengths p
      stays p apart (inr none) =
          piece_at-none m (set next last_page free) (set lengths first 0) p (omega (arith, length_other p apart))
          ∙ sym (piece_at-none m next lengths p (omega arith))
      stays p apart (inl used) =
          piece_at-some m (set next last_page free) (set lengths first 0) p (omega (arith, length_other p apart))
          ∙ ap Some
          (ap (λ chain. concat (parts_in m chain (slice_index (set lengths first 0) p))) (pages_other p apart)
          ∙ ap (λ n. concat (parts_in m (pages_from next lengths p) n)) (length_other p apart))
          ∙ sym (piece_at-some m next lengths p used)

      other : (span : ℕ) → span ≢ suc first → bytes_at (pool_of m next lengths) span ≡ bytes_at (pool_of m (set next last_page free) (set lengths first 0)) span
      other zero apart = refl
      other (suc p) apart =
          bytes_at-pool_of m next lengths p sound.lengths_length
          ∙ sym (stays p (λ e. apart (ap suc e)) (cases_lt 0 (slice_index lengths p)))
          ∙ sym (bytes_at-pool_of m (set next last_page free) (set lengths first 0) p free_sound.lengths_length)

-- What `free` leaves, as the code has it: the last page that it found, and the lengths and links that it read.
use Rattle.std.proofs.Common.{◌≡◌, ℕ, suc, ◌+◌, ◌-◌, ◌<◌, ◌≤◌, List, Some, length, set, slice_index, get_or, sym, ap, ◌∙◌, subst, refl, arith}
use Rattle.dl_pool.specs.Pools.{Held, Adds, bytes_at, IsLive, pages_of}
use Rattle.dl_pool.specs.Pages.{pool_of, walk, page_after, piece_from, times, IsSound}
use Rattle.dl_pool.proofs.PageLemmas.{pages_of-some}
use Rattle.dl_pool.proofs.FreeLemmas.{last_below, links_within, free_sound, free_adds}
use Rattle.dl_pool.proofs.LiveLemmas.{span_is, live_length, live_bytes, length_read}

module _ (m next lengths : List ℕ) (free left : ℕ) (sound : IsSound m next lengths free left) (h : Held) (span number : ℕ)
    (view : pool_of m next lengths ≡ h) (same : number ≡ span) (other : number ≡ 0 → ⊥) (live : IsLive h span)
    (read needed : ℕ) (read_is : read ≡ get_or lengths (number - 1) read) (need : needed ≡ pages_of read) where
  used : 0 < slice_index lengths (number - 1)
  used = live_length m next lengths free left sound h span number view same other live

  needed_is : needed ≡ pages_of (slice_index lengths (number - 1))
  needed_is = need ∙ ap pages_of (length_read m next lengths free left sound h span number view same other live m next read refl refl read_is)

  pub needed_some : 1 ≤ needed
  needed_some = omega (arith, needed_is, pages_of-some (slice_index lengths (number - 1)) used)

  module _ (links : List ℕ) (same_links : links ≡ next) where
    pub freed_within : (page : ℕ) → 0 < times page (walk links (number - 1) (needed - 1)) → page < length links
    freed_within =
        subst (λ n. (page : ℕ) → 0 < times page (walk n (number - 1) (needed - 1)) → page < length n) (sym same_links)
        (subst (λ k. (page : ℕ) → 0 < times page (walk next (number - 1) (k - 1)) → page < length next) (sym needed_is)
        (links_within m next lengths free left sound (number - 1) used))

    module _ (last : ℕ) (last_is : last ≡ page_after links (number - 1) (needed - 1)) where
      at_last : last ≡ page_after next (number - 1) (pages_of (slice_index lengths (number - 1)) - 1)
      at_last = last_is ∙ ap (λ n. page_after n (number - 1) (needed - 1)) same_links ∙ ap (λ k. page_after next (number - 1) (k - 1)) needed_is

      pub freed_last : last < length next
      freed_last = subst (λ p. p < length next) (sym at_last) (last_below m next lengths free left sound (number - 1) used)

      pub freed_sound : IsSound m (set next last free) (set lengths (number - 1) 0) (number - 1) (left + needed)
      freed_sound =
          subst (λ p. IsSound m (set next p free) (set lengths (number - 1) 0) (number - 1) (left + needed)) (sym at_last)
          (subst (λ k. IsSound m (set next (page_after next (number - 1) (pages_of (slice_index lengths (number - 1)) - 1)) free)
          (set lengths (number - 1) 0) (number - 1) (left + k)) (sym needed_is)
          (free_sound m next lengths free left sound (number - 1) used))

      pub freed_adds : (bytes : List ℕ) → bytes_at h span ≡ Some bytes → Adds (pool_of m (set next last free) (set lengths (number - 1) 0)) span bytes h
      freed_adds bytes here =
          let piece : Some (piece_from m next lengths (number - 1)) ≡ Some bytes =
          sym (live_bytes m next lengths free left sound h span number view same other live) ∙ here in
          let bytes_are : piece_from m next lengths (number - 1) ≡ bytes = cc piece in
          subst (λ x. Adds (pool_of m (set next last free) (set lengths (number - 1) 0)) span bytes x) view
          (subst (λ n. Adds (pool_of m (set next last free) (set lengths (number - 1) 0)) n bytes (pool_of m next lengths))
          (sym (span_is m next lengths free left sound h span number view same other))
          (subst (λ b. Adds (pool_of m (set next last free) (set lengths (number - 1) 0)) (suc (number - 1)) b (pool_of m next lengths)) bytes_are
          (subst (λ p. Adds (pool_of m (set next p free) (set lengths (number - 1) 0)) (suc (number - 1)) (piece_from m next lengths (number - 1))
          (pool_of m next lengths)) (sym at_last)
          (free_adds m next lengths free left sound (number - 1) used))))

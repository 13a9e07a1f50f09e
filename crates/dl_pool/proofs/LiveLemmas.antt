-- A live span and its piece, as the code reads them.
use Rattle.std.proofs.Common.{◌≡◌, ℕ, suc, ◌-◌, ◌<◌, ◌≤◌, List, [], Option, Some, None, length, slice_index}
use Rattle.std.proofs.Common.{get_or, refl, sym, ap, ◌∙◌, subst, arith, inl, inr, ◌⊎◌, IsSome}
use Rattle.std.specs.List.{concat}
use Rattle.std.proofs.lemmas.Bool.{cases_lt}
use Rattle.std.proofs.lemmas.List.{get_or_default}
use Rattle.dl_pool.specs.Pools.{Held, bytes_at, IsLive, pages_of}
use Rattle.dl_pool.specs.Pages.{pool_of, walk, times, parts_in, pages_from, piece_from, IsSound, IsReadable}
use Rattle.dl_pool.proofs.PageLemmas.{pages_of-zero}
use Rattle.dl_pool.proofs.ChainLemmas.{length-walk, length-parts_in}
use Rattle.dl_pool.proofs.SoundLemmas.{bytes_at-pool_of, piece_at-some, piece_at-none, begins_below, used_within, used_written, length-piece_from}
use Rattle.dl_pool.proofs.ReadLemmas.{no_parts}

-- a span that has no bytes is not live
none_is_not_live : (o : Option (List ℕ)) → o ≡ None → IsSome o → ⊥
none_is_not_live o none some = cc

-- nothing is left to read
pub none_readable : (seen links : List ℕ) → IsReadable seen links 0 0
none_readable seen links = record { written = λ q stands. absurd (none q stands); within = λ q stands. absurd (none q stands) }
  where
    none : (q : ℕ) → 0 < times q (walk links 0 (pages_of 0)) → ⊥
    none q stands = omega (arith, ap (λ k. times q (walk links 0 k)) pages_of-zero, stands)

-- the parts of the span 0, joined, are the bytes that the pool has for it
pub none_joined : (h : Held) (span number : ℕ) (parts : List (List ℕ)) (seen links : List ℕ) → number ≡ span → number ≡ 0
    → parts ≡ parts_in seen (walk links 0 (pages_of 0)) 0 → Some (concat parts) ≡ bytes_at h span
none_joined h span number parts seen links same none is =
    ap (λ p. Some (concat p)) (is ∙ no_parts seen links 0 0 refl) ∙ sym (ap (bytes_at h) (sym same ∙ none))

-- the parts of the empty piece are as many as the pages that it takes
pub none_pages : (parts : List (List ℕ)) (seen links : List ℕ) → parts ≡ parts_in seen (walk links 0 (pages_of 0)) 0
    → length parts ≡ pages_of (length (concat parts))
none_pages parts seen links is =
    let empty : parts ≡ [] = is ∙ no_parts seen links 0 0 refl in
    ap length empty ∙ sym pages_of-zero ∙ ap (λ p. pages_of (length (concat p))) (sym empty)

module _ (m next lengths : List ℕ) (free left : ℕ) (sound : IsSound m next lengths free left) (h : Held) (span number : ℕ)
    (view : pool_of m next lengths ≡ h) (same : number ≡ span) (other : number ≡ 0 → ⊥) where
  pub span_is : span ≡ suc (number - 1)
  span_is = omega (arith, same, other)

  module _ (live : IsLive h span) where
    -- a live span other than 0 has a piece that begins at the page before it in number
    pub live_length : 0 < slice_index lengths (number - 1)
    live_length = go (cases_lt 0 (slice_index lengths (number - 1)))
      where
        gone : slice_index lengths (number - 1) ≤ 0 → bytes_at h span ≡ None
        gone none =
            ap (bytes_at h) span_is
            ∙ ap (λ x. bytes_at x (suc (number - 1))) (sym view)
            ∙ bytes_at-pool_of m next lengths (number - 1) sound.lengths_length
            ∙ piece_at-none m next lengths (number - 1) (omega arith)

        go : (0 < slice_index lengths (number - 1)) ⊎ (slice_index lengths (number - 1) ≤ 0) → 0 < slice_index lengths (number - 1)
        go (inl some) = some
        go (inr none) = absurd (none_is_not_live _ (gone none) live)

    pub live_below : number - 1 < length next
    live_below = begins_below m next lengths free left sound (number - 1) live_length

    pub live_within : number - 1 < length lengths
    live_within = omega (arith, live_below, sound.lengths_length)

    -- its bytes
    pub live_bytes : bytes_at h span ≡ Some (piece_from m next lengths (number - 1))
    live_bytes =
        ap (bytes_at h) span_is
        ∙ ap (λ x. bytes_at x (suc (number - 1))) (sym view)
        ∙ bytes_at-pool_of m next lengths (number - 1) sound.lengths_length
        ∙ piece_at-some m next lengths (number - 1) live_length

    module _ (seen links : List ℕ) (read : ℕ) (same_memory : seen ≡ m) (same_links : links ≡ next) (read_is : read ≡ get_or lengths (number - 1) read) where
      pub length_read : read ≡ slice_index lengths (number - 1)
      length_read = read_is ∙ get_or_default lengths (number - 1) read 0 live_within

      pub live_readable : IsReadable seen links (number - 1) read
      live_readable =
          subst (λ n. IsReadable seen links (number - 1) n) (sym length_read)
          (subst (λ n. IsReadable seen n (number - 1) (slice_index lengths (number - 1))) (sym same_links)
          (subst (λ w. IsReadable w next (number - 1) (slice_index lengths (number - 1))) (sym same_memory)
          (record {
            written = used_written m next lengths free left sound (number - 1) live_below;
            within =
                λ q stands. used_within m next lengths free left sound q (number - 1) live_below stands;
          })))

      parts_are : (parts : List (List ℕ)) → parts ≡ parts_in seen (walk links (number - 1) (pages_of read)) read
          → parts ≡ parts_in m (pages_from next lengths (number - 1)) (slice_index lengths (number - 1))
      parts_are parts is =
          is
          ∙ ap (λ w. parts_in w (walk links (number - 1) (pages_of read)) read) same_memory
          ∙ ap (λ n. parts_in m (walk n (number - 1) (pages_of read)) read) same_links
          ∙ ap (λ n. parts_in m (walk next (number - 1) (pages_of n)) n) length_read

      pub live_joined : (parts : List (List ℕ)) → parts ≡ parts_in seen (walk links (number - 1) (pages_of read)) read → Some (concat parts) ≡ bytes_at h span
      live_joined parts is = ap (λ p. Some (concat p)) (parts_are parts is) ∙ sym live_bytes

      pub live_pages : (parts : List (List ℕ)) → parts ≡ parts_in seen (walk links (number - 1) (pages_of read)) read
          → length parts ≡ pages_of (length (concat parts))
      live_pages parts is =
          ap length (parts_are parts is)
          ∙ length-parts_in m (pages_from next lengths (number - 1)) (slice_index lengths (number - 1))
          ∙ length-walk next (number - 1) (pages_of (slice_index lengths (number - 1)))
          ∙ ap pages_of (sym (length-piece_from m next lengths free left sound (number - 1) live_below))
          ∙ ap (λ p. pages_of (length (concat p))) (sym (parts_are parts is))

-- What `put` leaves, as the code has it: the memory that was filled, along the links that it read.
use Rattle.std.proofs.Common.{◌≡◌, ℕ, ◌+◌, ◌-◌, ◌<◌, ◌≤◌, Bool, false, ◌==◌, List, length, set, sym}
use Rattle.std.proofs.Common.{ap, ◌∙◌, subst, add-one, arith, inl, inr, ◌⊎◌, eq-eqb, true≢false}
use Rattle.std.specs.List.{concat}
use Rattle.std.proofs.lemmas.Bool.{cases_lt}
use Rattle.dl_pool.specs.Pools.{Held, Adds, pages_of}
use Rattle.dl_pool.specs.Pages.{pool_of, walk, page_after, parts_in, times, HasPages, WritesPages, IsSound}
use Rattle.dl_pool.proofs.SoundLemmas.{chain_once, chain_within, first_below, put_sound, put_adds}

-- a piece that is not empty, and for which there are pages
pub record HasRoom (m next lengths : List ℕ) (free left : ℕ) (bytes : List ℕ) (needed : ℕ) : Type 0 where
  pub sound : IsSound m next lengths free left
  pub some : 0 < length bytes
  pub need : needed ≡ pages_of (length bytes)
  pub enough : pages_of (length bytes) ≤ left

-- a sound pool with as many spare pages as some bytes need has room for them
pub has_room : (m next lengths : List ℕ) (free left : ℕ) (bytes : List ℕ) (needed : ℕ) → IsSound m next lengths free left → (t : Bool)
    → t ≡ (length bytes == 0) → t ≡ false
    → needed ≡ pages_of (length bytes) → needed ≤ left → HasRoom m next lengths free left bytes needed
has_room m next lengths free left bytes needed sound t is full need enough = record {
  sound = sound;
  some = go (cases_lt 0 (length bytes));
  need = need;
  enough = omega (arith, need, enough);
}
  where
    go : (0 < length bytes) ⊎ (length bytes ≤ 0) → 0 < length bytes
    go (inl h) = h
    go (inr h) = absurd (true≢false (sym (eq-eqb (length bytes) 0 (omega arith)) ∙ sym is ∙ full))

module _ (m next lengths : List ℕ) (free left : ℕ) (bytes : List ℕ) (needed : ℕ) (r : HasRoom m next lengths free left bytes needed) where
  pub fill_first : free < length next
  fill_first = first_below m next lengths free left r.sound m bytes r.some r.enough

  module _ (links : List ℕ) (same_links : links ≡ next) where
    pub fill_within : (page : ℕ) → 0 < times page (walk links free (pages_of (length bytes))) → page < length links
    fill_within =
        subst (λ n. (page : ℕ) → 0 < times page (walk n free (pages_of (length bytes))) → page < length n) (sym same_links)
        (chain_within m next lengths free left r.sound m bytes r.some r.enough)

    pub fill_once : (page : ℕ) → times page (walk links free (pages_of (length bytes))) ≤ 1
    fill_once =
        subst (λ n. (page : ℕ) → times page (walk n free (pages_of (length bytes))) ≤ 1) (sym same_links)
        (chain_once m next lengths free left r.sound m bytes r.some r.enough)

    module _ (w : List ℕ) (after : ℕ) (last : after ≡ page_after links free (pages_of (length bytes)))
        (pages : HasPages w (walk links free (pages_of (length bytes)))) (writes : WritesPages m w (walk links free (pages_of (length bytes)))) where
      pages_next : HasPages w (walk next free (pages_of (length bytes)))
      pages_next = subst (λ n. HasPages w (walk n free (pages_of (length bytes)))) same_links pages

      writes_next : WritesPages m w (walk next free (pages_of (length bytes)))
      writes_next = subst (λ n. WritesPages m w (walk n free (pages_of (length bytes)))) same_links writes

      pub filled_sound : IsSound w next (set lengths free (length bytes)) after (left - needed)
      filled_sound =
          subst (λ p. IsSound w next (set lengths free (length bytes)) p (left - needed))
          (ap (λ n. page_after n free (pages_of (length bytes))) (sym same_links) ∙ sym last)
          (subst (λ k. IsSound w next (set lengths free (length bytes)) (page_after next free (pages_of (length bytes))) (left - k)) (sym r.need)
          (put_sound m next lengths free left r.sound w bytes r.some r.enough pages_next writes_next))

      pub filled_adds : (h : Held) (span : ℕ) → pool_of m next lengths ≡ h → span ≡ free + 1
          → concat (parts_in w (walk links free (pages_of (length bytes))) (length bytes)) ≡ bytes
          → Adds h span bytes (pool_of w next (set lengths free (length bytes)))
      filled_adds h span view number here =
          subst (λ x. Adds x span bytes (pool_of w next (set lengths free (length bytes)))) view
          (subst (λ n. Adds (pool_of m next lengths) n bytes (pool_of w next (set lengths free (length bytes)))) (sym (number ∙ add-one free))
          (put_adds m next lengths free left r.sound w bytes r.some r.enough pages_next writes_next
          (ap (λ n. concat (parts_in w (walk n free (pages_of (length bytes))) (length bytes))) (sym same_links) ∙ here)))

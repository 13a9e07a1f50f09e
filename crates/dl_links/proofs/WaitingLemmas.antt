-- The first place that waits, behind those that are past.
use Rattle.std.proofs.Common.{◌≡◌, ℕ, zero, suc, ◌+◌, ◌<◌, ◌≤◌, Bool, true, false, cond, List, [], ◌∷◌, length, Some, None, ◌++◌, get_or, refl, ◌∙◌, ap, arith, below_more, length-append}
use Rattle.std.proofs.Math.ListN.{get_or-append}
use Rattle.dl_links.specs.Waiting.{first_waiting, AreGone}

-- what is past behind the first place
tail_gone : (delivered : List Bool) (place : ℕ) (places : List ℕ) (gone : ℕ) → AreGone delivered (place ∷ places) (suc gone)
    → AreGone delivered places gone
tail_gone delivered place places gone h = record { within = omega (arith, h.within); each = λ k below. h.each (suc k) (omega arith) }

-- the place behind those that are past is the first that waits, where its letter was never delivered
pub first_waits : (delivered : List Bool) (places : List ℕ) (gone : ℕ) → AreGone delivered places gone → gone < length places
    → get_or delivered (get_or places gone 0) false ≡ false → first_waiting delivered places ≡ Some (get_or places gone 0)
first_waits delivered [] gone h inside waits = absurd (omega arith)
first_waits delivered (place ∷ places) zero h inside waits = ap (λ b. cond b (first_waiting delivered places) (Some place)) waits
first_waits delivered (place ∷ places) (suc gone) h inside waits =
    ap (λ b. cond b (first_waiting delivered places) (Some place)) (h.each 0 (omega arith))
    ∙ first_waits delivered places gone (tail_gone delivered place places gone h) (omega arith) waits

-- where all are past none waits
pub none_waits : (delivered : List Bool) (places : List ℕ) (gone : ℕ) → AreGone delivered places gone → length places ≤ gone
    → first_waiting delivered places ≡ None
none_waits delivered [] gone h all = refl
none_waits delivered (place ∷ places) zero h all = absurd (omega arith)
none_waits delivered (place ∷ places) (suc gone) h all =
    ap (λ b. cond b (first_waiting delivered places) (Some place)) (h.each 0 (omega arith))
    ∙ none_waits delivered places gone (tail_gone delivered place places gone h) (omega arith)

-- one more place is past
pub one_more_gone : (delivered : List Bool) (places : List ℕ) (gone : ℕ) → AreGone delivered places gone → gone < length places
    → get_or delivered (get_or places gone 0) false ≡ true → AreGone delivered places (gone + 1)
one_more_gone delivered places gone h inside now =
    record { within = omega arith; each = below_more (λ k. get_or delivered (get_or places k 0) false ≡ true) gone h.each now }

-- what is past stays past where more places come
pub gone_of_more : (delivered : List Bool) (places more : List ℕ) (gone : ℕ) → AreGone delivered places gone → AreGone delivered (places ++ more) gone
gone_of_more delivered places more gone h =
    record {
      within = omega (arith, h.within, length-append places more);
      each = λ k below. let inside : k < length places = omega (arith, h.within) in
          ap (λ p. get_or delivered p false) (get_or-append places more 0 k inside) ∙ h.each k below;
    }

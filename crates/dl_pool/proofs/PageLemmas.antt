-- Writing to one page leaves the others.
use Rattle.std.proofs.Common.{◌≡◌, ◌≢◌, ℕ, suc, ◌+◌, ◌-◌, ◌*◌, ◌<◌, ◌≤◌, List, [], ◌∷◌, length, take, drop, refl, sym, ap, ◌∙◌, arith, inl, inr, ◌⊎◌}
use Rattle.std.proofs.lemmas.Bool.{cases_lt}
use Rattle.std.proofs.lemmas.List.{drop-take, take-take, length-take}
use Rattle.std.proofs.lemmas.Slice.{take-put_mid_below, drop-put_mid}
use borrow.Rule.Slice.PartMut.{put_mid}
use Rattle.dl_pool.specs.Pools.{pages_of}
use Rattle.dl_pool.specs.Pages.{page_bytes, HasPage, WritesPages}
use Rattle.dl_pool.proofs.ChainLemmas.{not_first}

-- what is written into one page leaves the bytes of every other page
pub page_bytes-other : (page other k : ℕ) (xs ys : List ℕ) → page * 4096 + 4096 ≤ length xs → length ys ≡ k → k ≤ 4096 → other ≢ page
    → page_bytes (put_mid (page * 4096) k xs ys) other ≡ page_bytes xs other
page_bytes-other page other k xs ys within size small apart = go (cases_lt other page)
  where
    go : (other < page) ⊎ (page ≤ other) → page_bytes (put_mid (page * 4096) k xs ys) other ≡ page_bytes xs other
    go (inl below) =
        sym (drop-take (other * 4096) 4096 (put_mid (page * 4096) k xs ys))
        ∙ ap (drop (other * 4096)) (take-put_mid_below (page * 4096) k xs ys (other * 4096 + 4096) (omega arith) (omega arith))
        ∙ drop-take (other * 4096) 4096 xs
    go (inr above) =
        let after : page < other = omega arith in
        ap (take 4096) (drop-put_mid (page * 4096) k xs ys (other * 4096) (omega arith) (omega arith) size)

-- a memory that grew keeps the pages that it had
page_bytes-grown : (m w : List ℕ) (page : ℕ) → take (length m) w ≡ m → HasPage m page → page_bytes w page ≡ page_bytes m page
page_bytes-grown m w page kept has =
    sym (drop-take (page * 4096) 4096 w)
    ∙ ap (drop (page * 4096)) (sym (take-take (page * 4096 + 4096) (length m) w has) ∙ ap (take (page * 4096 + 4096)) kept)
    ∙ drop-take (page * 4096) 4096 m

-- a memory that grew and was written in one page
pub page_written : (m r w : List ℕ) (page : ℕ) → take (length m) r ≡ m → length w ≡ length r
    → ((other : ℕ) → other ≢ page → page_bytes w other ≡ page_bytes r other) → WritesPages m w (page ∷ [])
page_written m r w page kept same others = record {
  longer = omega (arith, ap length kept, length-take (length m) r, same);
  others = λ q none has. others q (λ e. not_first q page [] none (sym e)) ∙ page_bytes-grown m r q kept has;
}

-- how many pages are needed
pub pages_of-zero : pages_of 0 ≡ 0
unfolding pages_of
pages_of-zero = refl

-- the pages of so many bytes have room for them
pub pages_of-enough : (n : ℕ) → n ≤ pages_of n * 4096
unfolding pages_of
pages_of-enough n = omega arith

-- a byte or more takes a page or more
pub pages_of-some : (n : ℕ) → 0 < n → 0 < pages_of n
unfolding pages_of
pages_of-some n some = omega arith

-- each of the pages of so many bytes begins before the last byte
pub pages_of-below : (n i : ℕ) → i < pages_of n → i * 4096 < n
unfolding pages_of
pages_of-below n i below = omega arith

-- bytes that are not none take one page, and the pages of those past the first 4,096
pub pages_of-more : (n : ℕ) → 0 < n → pages_of n ≡ suc (pages_of (n - 4096))
unfolding pages_of
pages_of-more n some = omega arith

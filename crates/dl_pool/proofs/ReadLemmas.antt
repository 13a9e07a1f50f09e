-- Reading a piece page by page.
use Rattle.std.proofs.Common.{◌≡◌, ℕ, ◌-◌, ◌*◌, ◌<◌, min, List, [], ◌∷◌, length, take, drop, slice_index, sym, ap, ◌∙◌, arith}
use Rattle.dl_pool.specs.Pools.{pages_of}
use Rattle.dl_pool.specs.Pages.{walk, times, parts_in, HasPage, IsReadable}
use Rattle.dl_pool.proofs.PageLemmas.{pages_of-zero, pages_of-more}
use Rattle.dl_pool.proofs.ChainLemmas.{times-head, times-tail-le}

-- no bytes have no parts
pub no_parts : (m next : List ℕ) (page n : ℕ) → n ≡ 0 → parts_in m (walk next page (pages_of n)) n ≡ []
no_parts m next page n none = ap (λ k. parts_in m (walk next page (pages_of k)) k) none ∙ ap (λ k. parts_in m (walk next page k) 0) pages_of-zero

-- what is left after one part is what is left after a whole page
left_is : (n count : ℕ) → count ≡ min n 4096 → n - count ≡ n - 4096
left_is n count is = omega arith

-- of bytes that can be read, the first page is there and the memory has it
pub first_readable : (m next : List ℕ) (page n : ℕ) → IsReadable m next page n → 0 < n → (page < length next) × HasPage m page
first_readable m next page n readable some =
    let stands : 0 < times page (walk next page (pages_of n)) =
    omega (arith, ap (λ k. times page (walk next page k)) (pages_of-more n some), times-head page (walk next (slice_index next page) (pages_of (n - 4096)))) in
    (readable.within page stands, readable.written page stands)

-- of bytes that can be read, those after the first part can be read from the next page on
pub rest_readable : (m next : List ℕ) (page n count : ℕ) → IsReadable m next page n → 0 < n → count ≡ min n 4096
    → IsReadable m next (slice_index next page) (n - count)
rest_readable m next page n count readable some is = record {
  written = λ q stands. readable.written q (among q stands);
  within = λ q stands. readable.within q (among q stands);
}
  where
    among : (q : ℕ) → 0 < times q (walk next (slice_index next page) (pages_of (n - count))) → 0 < times q (walk next page (pages_of n))
    among q stands =
        omega (
          arith,
          ap (λ k. times q (walk next page k)) (pages_of-more n some),
          times-tail-le q page (walk next (slice_index next page) (pages_of (n - 4096))),
          ap (λ k. times q (walk next (slice_index next page) (pages_of k))) (left_is n count is),
          stands,
        )

-- the parts of bytes are the first one, from the first page, and those of the rest from the next page on
pub parts_step : (m next : List ℕ) (page n count : ℕ) → 0 < n → count ≡ min n 4096
    → parts_in m (walk next page (pages_of n)) n ≡ take count (drop (page * 4096) m) ∷ parts_in m
    (walk next (slice_index next page) (pages_of (n - count))) (n - count)
parts_step m next page n count some is =
    ap (λ k. parts_in m (walk next page k) n) (pages_of-more n some)
    ∙ ap (λ k. take k (drop (page * 4096) m) ∷ parts_in m (walk next (slice_index next page) (pages_of (n - 4096))) (n - 4096)) (sym is)
    ∙ ap (λ k. take count (drop (page * 4096) m) ∷ parts_in m (walk next (slice_index next page) (pages_of k)) k) (sym (left_is n count is))

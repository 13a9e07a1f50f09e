-- How a pool keeps its pieces: each page names the page after it, a piece is a chain of pages from its first one on, and the
-- free pages are a chain too.
use Rattle.std.specs.Prelude.{◌≡◌, ℕ, zero, suc, ◌+◌, ◌-◌, ◌*◌, ◌<◌, ◌≤◌, ◌^◌, min, List, [], ◌∷◌, length}
use Rattle.std.specs.Prelude.{sum_by, count_by, take, drop, ◌==◌, nat_lt, if◌then◌else◌, slice_index}
use Rattle.std.specs.List.{concat, flat_map}
use Rattle.dl_types.specs.Upto.{upto}
use Rattle.dl_pool.specs.Pools.{Held, pages_of}

-- so many pages of a chain, from this one on
abbrev pub walk : List ℕ → ℕ → ℕ → List ℕ
walk next page zero = []
walk next page (suc count) = page ∷ walk next (slice_index next page) count

-- the page that comes after so many pages of a chain
abbrev pub page_after : List ℕ → ℕ → ℕ → ℕ
page_after next page zero = page
page_after next page (suc count) = page_after next (slice_index next page) count

-- how often a page stands in a chain
abbrev pub times : ℕ → List ℕ → ℕ
times page chain = count_by (λ x. x == page) chain

-- the bytes of a page
abbrev pub page_bytes : List ℕ → ℕ → List ℕ
page_bytes memory page = take 4096 (drop (page * 4096) memory)

-- the memory reaches to the end of a page: it grows with the pages that are used for the first time
abbrev pub HasPage : List ℕ → ℕ → Type 0
HasPage memory page = page * 4096 + 4096 ≤ length memory

-- the memory has each page of a chain
abbrev pub HasPages : List ℕ → List ℕ → Type 0
HasPages memory chain = (page : ℕ) → 0 < times page chain → HasPage memory page

-- pages of a chain were written: the memory is not shorter, and each other page that it had is as before
pub record WritesPages (before after chain : List ℕ) : Type 0 where
  pub longer : length before ≤ length after
  pub others : (page : ℕ) → times page chain ≡ 0 → HasPage before page → page_bytes after page ≡ page_bytes before page

-- the parts of so many bytes that lie in a chain, page by page
abbrev pub parts_in : List ℕ → List ℕ → ℕ → List (List ℕ)
parts_in memory [] bytes = []
parts_in memory (page ∷ chain) bytes = take (min bytes 4096) (drop (page * 4096) memory) ∷ parts_in memory chain (bytes - 4096)

-- the pages of the piece that begins at this page; none where none begins there
abbrev pub pages_from : List ℕ → List ℕ → ℕ → List ℕ
pages_from next lengths first = walk next first (pages_of (slice_index lengths first))

-- the bytes of the piece that begins at this page
abbrev pub piece_from : List ℕ → List ℕ → List ℕ → ℕ → List ℕ
piece_from memory next lengths first = concat (parts_in memory (pages_from next lengths first) (slice_index lengths first))

-- the pair of the piece that begins at this page, if one does: its span is one more than the page
abbrev pub pair_at : List ℕ → List ℕ → List ℕ → ℕ → List (ℕ × List ℕ)
pair_at memory next lengths first =
    if slice_index lengths first == 0 then [] else (suc first, piece_from memory next lengths first) ∷ []

-- what a pool with these tables holds
abbrev pub pool_of : List ℕ → List ℕ → List ℕ → Held
pool_of memory next lengths = record { pages = length next; live = flat_map (λ first. pair_at memory next lengths first) (upto (length next)) }

-- how often a page stands in the chains of all pieces
abbrev pub times_used : List ℕ → List ℕ → ℕ → ℕ
times_used next lengths page = sum_by (λ first. times page (pages_from next lengths first)) (upto (length next))

-- the pages that all pieces take
abbrev pub pages_used : List ℕ → ℕ → ℕ
pages_used lengths pages = sum_by (λ first. pages_of (slice_index lengths first)) (upto pages)

-- the tables fit: each page stands once, in one chain, no chain has another page, and the memory has the pages of all pieces
pub record IsSound (memory next lengths : List ℕ) (free spare : ℕ) : Type 0 where
  pub written : (page : ℕ) → 0 < times_used next lengths page → HasPage memory page
  pub lengths_length : length lengths ≡ length next
  pub few : length next < 2 ^ 32
  pub counted : spare + pages_used lengths (length next) ≡ length next
  pub once : (page : ℕ) → times page (walk next free spare) + times_used next lengths page ≡ (if nat_lt page (length next) then 1 else 0)

-- the tables fit, and the memory has room for all pages
pub record IsKept (memory : List ℕ) (capacity : ℕ) (next lengths : List ℕ) (free spare : ℕ) : Type 0 where
  pub room : length next * 4096 ≤ capacity
  pub sound : IsSound memory next lengths free spare

-- the pages of so many bytes, from this page on, can be read
pub record IsReadable (memory next : List ℕ) (page bytes : ℕ) : Type 0 where
  pub written : HasPages memory (walk next page (pages_of bytes))
  pub within : (q : ℕ) → 0 < times q (walk next page (pages_of bytes)) → q < length next

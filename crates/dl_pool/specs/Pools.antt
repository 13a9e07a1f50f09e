-- What a pool holds: pages in all, and live spans, each with its piece of bytes.
use Rattle.std.specs.Prelude.{◌≡◌, ◌≢◌, ℕ, zero, suc, ◌+◌, ◌-◌, ◌<◌, Option, Some, None, List, [], ◌∷◌, length, sum_by, ◌==◌, if◌then◌else◌, IsSome}
use Rattle.std.specs.Int.{div_ceil}

-- a page has 4,096 bytes; a piece takes whole pages, and an empty one none
unfoldable pub pages_of : ℕ → ℕ
pages_of bytes = div_ceil bytes 4096

-- the pages in all, and each live span with the bytes of its piece, but for empty pieces
pub record Held : Type 0 where
  pub pages : ℕ
  pub live : List (ℕ × List ℕ)

-- a pool without a piece
abbrev pub empty_pool : ℕ → Held
empty_pool pages = record { pages = pages; live = [] }

-- the bytes that a list of pairs has for a span
abbrev pub look_up : List (ℕ × List ℕ) → ℕ → Option (List ℕ)
look_up [] span = None
look_up (x ∷ more) span = if x.0 == span then Some x.1 else look_up more span

-- the bytes of a live span. All empty pieces, which need no page, are one, with the span 0, and it is always live
abbrev pub bytes_at : Held → ℕ → Option (List ℕ)
bytes_at h zero = Some []
bytes_at h (suc page) = look_up h.live (suc page)

-- the span has a piece in the pool
abbrev pub IsLive : Held → ℕ → Type 0
IsLive h span = IsSome (bytes_at h span)

-- the pages that are left: those in all less those that the live pieces need
abbrev pub spare : Held → ℕ
spare h = h.pages - sum_by (λ x. pages_of (length x.1)) h.live

-- the pool has the span besides, with these bytes, and all else as before; a span of at least one byte was not live before
pub record Adds (before : Held) (span : ℕ) (bytes : List ℕ) (after : Held) : Type 0 where
  pub here : bytes_at after span ≡ Some bytes
  pub fresh : 0 < length bytes → bytes_at before span ≡ None
  pub others : (other : ℕ) → other ≢ span → bytes_at after other ≡ bytes_at before other
  pub pages : after.pages ≡ before.pages
  pub room : spare after + pages_of (length bytes) ≡ spare before

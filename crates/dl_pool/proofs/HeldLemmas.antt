-- For callers: what stays live where a piece is put or freed.
use Rattle.std.proofs.Common.{◌≡◌, ◌≢◌, ℕ, ◌<◌, List, Option, Some, None, length, refl, sym, ap, ◌∙◌, subst, inl, inr, ◌⊎◌, IsSome}
use Rattle.std.proofs.lemmas.Bool.{cases_eq}
use Rattle.dl_pool.specs.Pools.{Held, Adds, bytes_at, IsLive}

-- a span that has bytes is live
pub some_is_live : (o : Option (List ℕ)) (bytes : List ℕ) → o ≡ Some bytes → IsSome o
some_is_live o bytes is = subst (λ x. IsSome x) (sym is) refl

-- the piece that was put is live
pub added_is_live : (before : Held) (span : ℕ) (bytes : List ℕ) (after : Held) → Adds before span bytes after → IsLive after span
added_is_live before span bytes after adds = some_is_live _ bytes adds.here

-- what was live stays live, with the same bytes
pub added_keeps : (before : Held) (span : ℕ) (bytes : List ℕ) (after : Held) (other : ℕ) (kept : List ℕ) → Adds before span bytes after → 0 < length bytes
    → bytes_at before other ≡ Some kept → bytes_at after other ≡ Some kept
added_keeps before span bytes after other kept adds some is = go (cases_eq other span)
  where
    none_or_some : None ≡ Some kept → bytes_at after other ≡ Some kept
    none_or_some e = cc

    go : (other ≡ span) ⊎ (other ≡ span → ⊥) → bytes_at after other ≡ Some kept
    go (inr apart) = adds.others other apart ∙ is
    go (inl same) = none_or_some (sym (adds.fresh some) ∙ ap (bytes_at before) (sym same) ∙ is)

-- two spans of pieces that were put one after the other differ
pub added_apart : (before : Held) (span : ℕ) (bytes : List ℕ) (after : Held) (other : ℕ) (kept : List ℕ) → Adds before span bytes after → 0 < length bytes
    → bytes_at before other ≡ Some kept → other ≢ span
added_apart before span bytes after other kept adds some is same =
    none_or_some (sym (adds.fresh some) ∙ ap (bytes_at before) (sym same) ∙ is)
  where
    none_or_some : None ≡ Some kept → ⊥
    none_or_some e = cc

-- what was live stays live where another piece is freed
pub freed_keeps : (after : Held) (span : ℕ) (bytes : List ℕ) (before : Held) (other : ℕ) (kept : List ℕ) → Adds after span bytes before → other ≢ span
    → bytes_at before other ≡ Some kept → bytes_at after other ≡ Some kept
freed_keeps after span bytes before other kept adds apart is = sym (adds.others other apart) ∙ is

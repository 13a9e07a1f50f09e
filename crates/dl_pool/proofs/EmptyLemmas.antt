-- The empty piece needs nothing and changes nothing.
use Rattle.std.proofs.Common.{◌≡◌, ℕ, List, Option, None, Some, length, refl, sym, ap, ◌∙◌, arith}
use Rattle.std.proofs.lemmas.List.{nil_from_length}
use Rattle.dl_pool.specs.Pools.{Held, Adds, bytes_at, pages_of}
use Rattle.dl_pool.proofs.PageLemmas.{pages_of-zero}

-- to add the empty piece with the span 0 changes nothing
pub empty_adds : (h : Held) (span : ℕ) (bytes : List ℕ) → span ≡ 0 → length bytes ≡ 0 → Adds h span bytes h
empty_adds h span bytes none empty = record {
  here = ap (bytes_at h) none ∙ ap Some (sym (nil_from_length bytes empty));
  fresh = λ some. absurd (omega (arith, some, empty));
  others = λ other apart. refl;
  pages = refl;
  room = omega (arith, ap pages_of empty, pages_of-zero);
}

-- a live span 0 has no bytes
pub empty_bytes : (h : Held) (span : ℕ) (bytes : List ℕ) → span ≡ 0 → bytes_at h span ≡ Some bytes → length bytes ≡ 0
empty_bytes h span bytes none here = ap length_of (sym (sym (ap (bytes_at h) none) ∙ here))
  where
    length_of : Option (List ℕ) → ℕ
    length_of None = 0
    length_of (Some b) = length b

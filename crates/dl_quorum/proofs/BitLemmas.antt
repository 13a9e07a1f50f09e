-- One bit more.
use Rattle.std.proofs.Common.{◌≡◌, ℕ, ◌*◌, ◌^◌, ◌%◌, ◌<◌, ◌==◌, ◌||◌, sym, ap, ◌∙◌, inl, inr, ◌⊎◌, w16, eq-eqb, bit_or}
use Rattle.std.proofs.lemmas.Nat.Bits.{bit_at_set_same, bit_at_set_other}
use Rattle.std.proofs.lemmas.Bool.{cases_eq, ne_eqb, or_left}
use Rattle.dl_quorum.specs.Places.{holds}

-- a set with one place more holds that place and what it held
pub holds-with : (set place other : ℕ) → place < 16 → holds (bit_or set (1 * 2 ^ place % 65536)) other ≡ (place == other || holds set other)
holds-with set place other within = go (cases_eq other place)
  where
    go : (other ≡ place) ⊎ (other ≡ place → ⊥) → holds (bit_or set (1 * 2 ^ place % 65536)) other ≡ (place == other || holds set other)
    go (inl e) =
        ap (λ o. holds (bit_or set (1 * 2 ^ place % 65536)) o) e ∙ ap (λ n. n == 1) (bit_at_set_same w16 set place within)
        ∙ sym (or_left (place == other) (holds set other) (eq-eqb place other (sym e)))
    go (inr n) = ap (λ n. n == 1) (bit_at_set_other w16 set place within other n) ∙ ap (λ t. t || holds set other) (sym (ne_eqb place other (λ e. n (sym e))))

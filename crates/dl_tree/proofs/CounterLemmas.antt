-- Counters that are not spent.
use Rattle.std.proofs.Common.{◌≡◌, ℕ, ◌^◌, ◌<◌, Bool, true, false, ◌&&◌, nat_le, sym, arith}
use Rattle.std.proofs.lemmas.Bool.{true≢false}
use Rattle.std.proofs.lemmas.Bool.Decides.{nat_tests}

-- a counter that a mode wants and that is not at its end can be raised
pub not_spent : (b : Bool) (n : ℕ) → (b && nat_le (10 ^ 10) n) ≡ false → b ≡ true → n < 10 ^ 10
not_spent true n e t = grind (arith, nat_tests)
not_spent false n e t = absurd (true≢false (sym t))

-- Counting from 0 on, up to the first number that fails a test.
use Rattle.std.specs.Prelude.{ℕ, zero, suc, Bool, cond, ◌&&◌, ◌==◌}

-- how many of the first n numbers pass, up to the first that doesn't
abbrev pub leading_count : (ℕ → Bool) → ℕ → ℕ
leading_count p zero = 0
leading_count p (suc n) = cond (leading_count p n == n && p n) (suc n) (leading_count p n)

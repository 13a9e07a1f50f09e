-- The rule of a quorum: how many bookies an ensemble has, an entry is sent to, and an entry waits for.
use Rattle.std.specs.Prelude.{ℕ, ◌≤◌}

-- 16 >= e >= qw >= qa >= 1
pub record IsQuorum (e qw qa : ℕ) : Type 0 where
  pub few : e ≤ 16
  pub writes_within : qw ≤ e
  pub acks_within : qa ≤ qw
  pub some : 1 ≤ qa

-- The sizes of a ledger's replication as plain numbers.
use Rattle.std.specs.Prelude.{ℕ}
use Rattle.dl_types.specs.declared.quorum.Quorum.{Quorum}
use Rattle.dl_types.specs.Quorums.{IsQuorum}

-- how many bookies an ensemble has, an entry is sent to, and an entry waits for
pub record Sizes : Type 0 where
  pub e : ℕ
  pub qw : ℕ
  pub qa : ℕ

-- the sizes that a quorum has
abbrev pub sizes_of : Quorum → Sizes
sizes_of q = record { e = q.e; qw = q.qw; qa = q.qa }

-- the sizes keep the rule of a quorum
abbrev pub AreSizes : Sizes → Type 0
AreSizes s = IsQuorum s.e s.qw s.qa

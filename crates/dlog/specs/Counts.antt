-- The counts of a log fit their types.
use Rattle.std.specs.Prelude.{◌+◌, ◌<◌, ◌^◌}
use Rattle.dlog.specs.Machine.{Log}

-- one more record can be taken, and one more entry sent
pub record HasRoom (g : Log) : Type 0 where
  pub taken : g.taken + 1 < 2 ^ 32
  pub sent : g.sent + 1 < 2 ^ 64

use Rattle.std.proofs.Common.{arith}
use Rattle.dlog.proofs.EntryLemmas.{count_of_rows}
use Rattle.dlog.proofs.MachineLemmas.{size_of_rows}
use Rattle.dlog.specs.Entries.{rows_of}
use Rattle.dlog.proofs.entry.Entry.len.Goals as goal

pub returns-clause-short : goal.returns-clause-short
returns-clause-short c = omega (
  arith,
  size_of_rows (rows_of c.self.inside.heads.items c.self.inside.payloads.items),
  count_of_rows c.self.inside.heads.items c.self.inside.payloads.items,
  c.self.invariant.size_is,
  c.self.invariant.within,
  c.len.ensures,
)

use Rattle.dl_text.proofs.HexLemmas.{pair_at}
use Rattle.dl_text.proofs.hex.pair_of.Goals as goal

pub returns-clause-high : goal.returns-clause-high
returns-clause-high c = (pair_at c.args.byte c.ranges.byte.fits).0

pub returns-clause-low : goal.returns-clause-low
returns-clause-low c = (pair_at c.args.byte c.ranges.byte.fits).1

use Rattle.dl_formats.proofs.PathLemmas.{ledger_stem_spelt}
use Rattle.dl_formats.proofs.paths.ledger_stem.Goals as goal

pub returns : goal.returns
returns c = rw (ledger_stem_spelt) c.new.ensures

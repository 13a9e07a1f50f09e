use Rattle.dl_formats.proofs.KeyLemmas.{keys_told}
use Rattle.dl_formats.proofs.laws.keys_are_told.Goals as goal

pub returns : goal.returns
returns c = keys_told

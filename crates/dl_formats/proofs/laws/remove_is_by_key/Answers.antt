use Rattle.dl_formats.proofs.KeyLemmas.{remove_by_key}
use Rattle.dl_formats.proofs.laws.remove_is_by_key.Goals as goal

pub returns : goal.returns
returns g c = remove_by_key

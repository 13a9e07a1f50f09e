use Rattle.dl_formats.proofs.KeyLemmas.{insert_by_key}
use Rattle.dl_formats.proofs.laws.insert_is_by_key.Goals as goal

pub returns : goal.returns
returns g c = insert_by_key

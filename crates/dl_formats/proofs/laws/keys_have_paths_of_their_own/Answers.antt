use Rattle.dl_formats.proofs.KeyLemmas.{same_key}
use Rattle.dl_formats.proofs.laws.keys_have_paths_of_their_own.Goals as goal

pub returns : goal.returns
returns c = same_key

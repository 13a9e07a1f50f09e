use Rattle.dl_formats.proofs.PathLemmas.{conf_spelt}
use Rattle.dl_formats.proofs.paths.conf_path.Goals as goal

pub returns : goal.returns
returns c = rw (conf_spelt) c.new.ensures

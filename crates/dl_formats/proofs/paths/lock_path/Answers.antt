use Rattle.dl_formats.proofs.PathLemmas.{lock_spelt}
use Rattle.dl_formats.proofs.paths.lock_path.Goals as goal

pub returns : goal.returns
returns c = rw (lock_spelt c.args.stream.now) c.path_in_stream.ensures

use Rattle.dl_formats.proofs.PathLemmas.{alloc_spelt}
use Rattle.dl_formats.proofs.paths.alloc_path.Goals as goal

pub returns : goal.returns
returns c = rw (alloc_spelt c.args.stream.now) c.path_in_stream.ensures

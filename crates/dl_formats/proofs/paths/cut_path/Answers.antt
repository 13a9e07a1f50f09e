use Rattle.dl_formats.proofs.PathLemmas.{cut_spelt}
use Rattle.dl_formats.proofs.paths.cut_path.Goals as goal

pub returns : goal.returns
returns c = rw (cut_spelt c.args.stream.now) c.path_in_stream.ensures

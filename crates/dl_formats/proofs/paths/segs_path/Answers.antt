use Rattle.dl_formats.proofs.PathLemmas.{segs_spelt}
use Rattle.dl_formats.proofs.paths.segs_path.Goals as goal

pub returns : goal.returns
returns c = rw (segs_spelt c.args.stream.now) c.path_in_stream.ensures

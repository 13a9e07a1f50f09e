use Rattle.dl_formats.proofs.PathLemmas.{maxseq_spelt}
use Rattle.dl_formats.proofs.paths.maxseq_path.Goals as goal

pub returns : goal.returns
returns c = rw (maxseq_spelt c.args.stream.now) c.path_in_stream.ensures

use Rattle.dl_formats.proofs.PathLemmas.{progress_spelt}
use Rattle.dl_formats.proofs.paths.progress_path.Goals as goal

pub returns : goal.returns
returns c = rw (progress_spelt c.args.stream.now c.args.segment) c.numbered_path.ensures

use Rattle.dl_formats.proofs.PathLemmas.{completed_spelt}
use Rattle.dl_formats.proofs.paths.completed_path.Goals as goal

pub returns : goal.returns
returns c = rw (completed_spelt c.args.stream.now c.args.segment) c.numbered_path.ensures

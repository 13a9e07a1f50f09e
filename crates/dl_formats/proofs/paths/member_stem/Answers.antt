use Rattle.dl_formats.proofs.PathLemmas.{member_stem_spelt}
use Rattle.dl_formats.proofs.paths.member_stem.Goals as goal

pub returns : goal.returns
returns c = rw (member_stem_spelt c.args.stream.now) c.path_in_stream.ensures

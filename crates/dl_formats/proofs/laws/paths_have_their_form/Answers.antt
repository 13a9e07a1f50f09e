use Rattle.dl_formats.proofs.FormLemmas.{their_form}
use Rattle.dl_formats.proofs.laws.paths_have_their_form.Goals as goal

pub returns : goal.returns
returns c = their_form

use Rattle.dl_text.proofs.HexLemmas.{hex_exact}
use Rattle.dl_text.proofs.laws.hex_is_exact.Goals as goal

pub returns : goal.returns
returns c = hex_exact

use Rattle.dl_text.proofs.NameLemmas.{name_exact}
use Rattle.dl_text.proofs.PlaceLemmas.{place_exact}
use Rattle.dl_text.proofs.ListLemmas.{payloads_exact}
use Rattle.dl_text.proofs.laws.fields_are_exact.Goals as goal

pub returns : goal.returns
returns c = record { names = name_exact; places = place_exact; payloads = payloads_exact }

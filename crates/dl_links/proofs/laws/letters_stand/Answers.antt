use Rattle.dl_links.proofs.StandLemmas.{stands_sent, stands_delivered, stands_next}
use Rattle.dl_links.proofs.laws.letters_stand.Goals as goal

pub returns : goal.returns
returns c = record { sent = stands_sent; delivered = stands_delivered; next = stands_next }

use Rattle.dl_text.proofs.TextLineLemmas.{first_then_rest, lines_last}
use Rattle.dl_text.proofs.laws.lines_end_at_feeds.Goals as goal

pub returns : goal.returns
returns c = record { first = first_then_rest; last = lines_last }

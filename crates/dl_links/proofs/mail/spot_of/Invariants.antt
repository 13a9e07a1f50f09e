use Rattle.dl_links.specs.Mails.{IsBehind}
use Rattle.dl_links.proofs.mail.spot_of.Given as goal

abbrev pub invariant-loop-index : goal.invariant-loop-index
invariant-loop-index l = IsBehind l.letter l.mails l.index

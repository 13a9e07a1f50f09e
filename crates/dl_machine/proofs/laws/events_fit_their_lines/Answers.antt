use Rattle.dl_machine.proofs.RangeLaws.{events_fit_their_lines}
use Rattle.dl_machine.proofs.laws.events_fit_their_lines.Goals as goal

pub returns : goal.returns
returns c = events_fit_their_lines

use Rattle.dl_machine.proofs.StayLaws.{letters_stay}
use Rattle.dl_machine.proofs.laws.letters_stay.Goals as goal

pub returns : goal.returns
returns c = letters_stay

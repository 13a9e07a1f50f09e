use Rattle.dl_events.proofs.RefusalExactness.{told}
use Rattle.dl_events.proofs.refusal.refusal_of.Goals as goal

pub rest_of-requires : goal.rest_of-requires
rest_of-requires c = told c.args.bytes.now c.in_ok-word.rest.now c.in_ok-word.word c.in_ok-word.ensures

use Rattle.std.proofs.Common.{sym}
use Rattle.dl_subject.proofs.PlaceLemmas.{no_member, member_is, outside}
use Rattle.dl_subject.proofs.places.place_of.Goals as goal

pub returns-then-bookie-ensemble-clause-exact : goal.returns-then-bookie-ensemble-clause-exact
returns-then-bookie-ensemble-clause-exact c place below = sym (no_member c.args.ensemble.now c.args.bookie place c.if-bookie-ensemble.true below)

pub returns-then-place-ensemble-clause-exact : goal.returns-then-place-ensemble-clause-exact
returns-then-place-ensemble-clause-exact c place below =
    member_is c.args.ensemble.now c.args.bookie c.steps_to-place.result place c.steps_to-place.ensures below

pub returns-else-place-ensemble-clause-exact : goal.returns-else-place-ensemble-clause-exact
returns-else-place-ensemble-clause-exact c place below =
    outside c.args.ensemble.now c.args.bookie c.steps_to-place.result place c.steps_to-place.ensures c.if-place-ensemble.false below

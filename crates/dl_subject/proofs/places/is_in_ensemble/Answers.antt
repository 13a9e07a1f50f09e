use Rattle.std.proofs.Common.{sym}
use Rattle.dl_subject.proofs.PlaceLemmas.{among_none, among_some}
use Rattle.dl_subject.proofs.places.is_in_ensemble.Goals as goal

pub returns-in-Some : goal.returns-in-Some
returns-in-Some c =
    sym (among_some c.args.ensemble.now c.args.bookie c.place_of.result _ c.place_of.ensures.exact c.in-Some.is (c.place_of.ensures.few _ c.in-Some.is))

pub returns-in-None : goal.returns-in-None
returns-in-None c = sym (among_none c.args.ensemble.now c.args.bookie c.place_of.result c.place_of.ensures.exact c.in-None.is)

use Rattle.std.proofs.Common.{subst}
use Rattle.dl_rules_stream.specs.SegmentRecoveries.{segment_hears}
use Rattle.dl_requests.specs.declared.moves.Move.{Move}
use Rattle.dl_segrecover.specs.declared.recovered.Recovered.{Recovered}
use Rattle.dl_segrecover.specs.declared.stage.Stage.{Stage}
use Rattle.dl_segrecover.specs.Standing.{IsMove}
use Rattle.dl_open.specs.Recovering.{args_of}
use Rattle.dl_open.proofs.Going.{segment_stays}
use Rattle.dl_open.proofs.recover_answers.at_recovering.Goals as goal

pub returns-in-Stays : goal.returns-in-Stays
returns-in-Stays c args s is =
    let f = c.args.recovery.now in
    let to = segment_hears args s c.args.heard.now in
    segment_stays (args_of c.args.given.now) args s c.args.segment f to is
    (subst (λ (m : Move Stage Recovered). IsMove args f.stage to m) c.in-Stays.is (c.in_ok-step.ensures args s is.stands))

pub returns-in-Goes : goal.returns-in-Goes
returns-in-Goes c args s is =
    let f = c.args.recovery.now in
    let to = segment_hears args s c.args.heard.now in
    let m = subst (λ (m : Move Stage Recovered). IsMove args f.stage to m) c.in-Goes.is (c.in_ok-step.ensures args s is.stands) in
    c.goes_on.ensures args f to.0 to.1 is.segment_is (record { given = is.stands.given; at = m.stage }) m.turn

use Rattle.std.proofs.Common.{subst}
use Rattle.dl_requests.specs.declared.moves.Move.{Move}
use Rattle.dl_segrecover.specs.declared.recovered.Recovered.{Recovered}
use Rattle.dl_segrecover.specs.declared.stage.Stage.{Stage}
use Rattle.dl_segrecover.specs.Standing.{IsMove}
use Rattle.dl_open.specs.Opening.{args_of}
use Rattle.dl_open.proofs.Going.{recovery_stays}
use Rattle.dl_open.proofs.open_answers.after_move.Goals as goal

pub returns-in-Stays : goal.returns-in-Stays
returns-in-Stays c args k f to same given m =
    recovery_stays (args_of c.args.given.now) c.args.member.now args k f to same given
    (subst (λ (s : Move Stage Recovered). IsMove args f.stage to s) c.in-Stays.is m)

pub returns-in-Goes : goal.returns-in-Goes
returns-in-Goes c args k f to same given m =
    let n = subst (λ (s : Move Stage Recovered). IsMove args f.stage to s) c.in-Goes.is m in
    c.recovery_goes_on.ensures args k f to.0 to.1 same (record { given = given; at = n.stage }) n.turn

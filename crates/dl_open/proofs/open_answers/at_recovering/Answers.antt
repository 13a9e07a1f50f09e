use Rattle.std.proofs.Common.{◌∙◌}
use Rattle.dl_rules_stream.specs.SegmentRecoveries.{segment_hears}
use Rattle.dl_requests.specs.Turns.{turn_in}
use Rattle.dl_open.proofs.Going.{closed_is_recovered}
use Rattle.dl_open.proofs.open_answers.at_recovering.Goals as goal

pub returns-clause-step : goal.returns-clause-step
returns-clause-step c args s is =
    c.in_ok-next.ensures args c.args.segment c.args.recovery.now (segment_hears args s c.args.heard.now) is.segment_is is.stands.given
    (c.in_ok-step.ensures args s is.stands)

pub returns-clause-recovered : goal.returns-clause-recovered
returns-clause-recovered c args s is =
    c.closed_in-recovered.ensures ∙ closed_is_recovered args (segment_hears args s c.args.heard.now) c.args.segment (turn_in c.in_ok-step.step)
    is.segment_is (c.in_ok-step.ensures args s is.stands).turn

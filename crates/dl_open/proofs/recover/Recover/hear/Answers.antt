use Rattle.dl_requests.specs.Tasks.{stage_by}
use Rattle.dl_open.specs.Recovering.{recover_order}
use Rattle.dl_open.proofs.Lifting.{recover_takes, recover_viewed}
use Rattle.dl_open.proofs.recover.Recover.hear.Goals as goal

pub returns-clause-goes : goal.returns-clause-goes
returns-clause-goes c x stage stands =
    recover_takes x stage c.args.self.now c.take.new.self c.args.heard.now c.in_ok-step.step c.take.result stands
    (c.in_ok-step.ensures stage stands.at) c.take.ensures.given c.take.ensures.stage c.take.ensures.turn

pub returns-clause-view : goal.returns-clause-view
returns-clause-view c v stands =
    recover_viewed v c.args.heard.now c.take.result c.take.new.self
    (recover_takes v.given (stage_by recover_order v) c.args.self.now c.take.new.self c.args.heard.now c.in_ok-step.step c.take.result stands
    (c.in_ok-step.ensures (stage_by recover_order v) stands.at) c.take.ensures.given c.take.ensures.stage c.take.ensures.turn)

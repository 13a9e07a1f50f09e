use Rattle.dl_requests.specs.Tasks.{stage_by}
use Rattle.dl_open.specs.Opening.{open_order}
use Rattle.dl_open.proofs.Lifting.{open_takes, open_viewed}
use Rattle.dl_open.proofs.open.Open.hear.Goals as goal

pub returns-clause-goes : goal.returns-clause-goes
returns-clause-goes c x stage stands =
    open_takes x stage c.args.self.now c.take-turn.new.self c.args.heard.now c.in_ok-step.step c.take-turn.result c.in_ok-step.recovered stands
    (c.in_ok-step.ensures.step stage) (c.in_ok-step.ensures.recovered stage)
    c.take-turn.ensures.given c.take-turn.ensures.stage c.take-turn.ensures.turn

pub returns-clause-view : goal.returns-clause-view
returns-clause-view c v stands =
    let stage = stage_by open_order v in
    open_viewed v c.args.heard.now _ c.take-turn.new.self
    (open_takes v.given stage c.args.self.now c.take-turn.new.self c.args.heard.now c.in_ok-step.step c.take-turn.result c.in_ok-step.recovered stands
    (c.in_ok-step.ensures.step stage) (c.in_ok-step.ensures.recovered stage)
    c.take-turn.ensures.given c.take-turn.ensures.stage c.take-turn.ensures.turn)

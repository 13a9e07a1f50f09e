use Rattle.std.proofs.Common.{sym, ap, ◌∙◌}
use Rattle.dl_rules_stream.specs.Locks.{lock_hears}
use Rattle.dl_requests.specs.Turns.{move_of}
use Rattle.dl_lock.specs.Standing.{lock_stage_of}
use Rattle.dl_open.specs.Opening.{args_of}
use Rattle.dl_open.proofs.Going.{lock_stays}
use Rattle.dl_open.proofs.open_answers.at_locking.Goals as goal

pub returns-in-Stays : goal.returns-in-Stays
returns-in-Stays c s at =
    let x = args_of c.args.given.now in
    let to = lock_hears x.stream s c.args.heard.now in
    lock_stays x s c.args.lock.now to at (sym (ap (move_of lock_stage_of s) c.in-Stays.is) ∙ c.in_ok-step.ensures x.stream s at)

pub returns-in-Goes : goal.returns-in-Goes
returns-in-Goes c s at =
    let x = args_of c.args.given.now in
    let to = lock_hears x.stream s c.args.heard.now in
    let e = sym (ap (move_of lock_stage_of s) c.in-Goes.is) ∙ c.in_ok-step.ensures x.stream s at in
    c.lock_goes_on.ensures c.args.lock.now to.0 to.1 (record { stream = at.stream; at = ap (λ y. y.0) e }) (ap (λ y. y.1) e)

use Rattle.std.proofs.Common.{◌≡◌, IfOk, subst, sym}
use Rattle.dl_rules_stream.specs.Locks.{lock_answers}
use Rattle.dl_requests.specs.Turns.{answer_of, move_of}
use Rattle.dl_lock.specs.declared.stage.Stage.{Stage}
use Rattle.dl_lock.specs.Standing.{lock_stage_of}
use Rattle.dl_lock.proofs.answers.after_answer.Goals as goal

pub returns-in-Leaving : goal.returns-in-Leaving
returns-in-Leaving c =
    subst (λ (x : Stage). IfOk c.after_leaving.result (λ move. move_of lock_stage_of (lock_stage_of x) move
    ≡ answer_of (lock_answers c.args.stream.now (lock_stage_of x) c.args.answer.now))) (sym c.in-Leaving.is)
    (c.after_leaving.ensures c.args.stream.now)

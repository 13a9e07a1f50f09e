use Rattle.std.proofs.Common.{◌+◌, ◌++◌, Ok, Err, ap, ◌∙◌}
use Rattle.dlog.specs.RunStates.{RunState}
use Rattle.dlog.proofs.RunLemmas.{takes_bad, takes_step, ready_behind, read_as, bad_at}
use Rattle.dlog.proofs.run.Run.take_within.Goals as goal

pub returns-in-Err-BadLine-clause-takes : goal.returns-in-Err-BadLine-clause-takes
returns-in-Err-BadLine-clause-takes c =
    let p = c.args.self.now in
    let line_is = ap (λ (v : RunState). v.lines) c.self.view_is in
    let read = read_as p c.self.inside.lines c.as_slice.result.now c.self.inside.pending.items c.args.back.now (Err c.in-Err-BadLine.column)
    line_is (ap (λ (v : RunState). v.pending) c.self.view_is) c.as_slice.ensures.value (rw c.in-Err-BadLine.field-0-is at c.in-Err-BadLine.ensures) in
    bad_at p c.from.result c.in-Err-BadLine.column (p.pending ++ c.args.back.now) (c.from.ensures ∙ ap (λ n. n + 1) line_is)
    (takes_bad p c.args.size c.args.back.now c.in-Err-BadLine.column (record { whole = c.requires.whole; free = c.requires.free }) read)

pub returns-in_ok-run_step-in-Ok-clause-takes : goal.returns-in_ok-run_step-in-Ok-clause-takes
returns-in_ok-run_step-in-Ok-clause-takes c =
    let p = c.args.self.now in
    let read = read_as p c.self.inside.lines c.as_slice.result.now c.self.inside.pending.items c.args.back.now (Ok c.in-Ok.step)
    (ap (λ (v : RunState). v.lines) c.self.view_is) (ap (λ (v : RunState). v.pending) c.self.view_is) c.as_slice.ensures.value c.in-Ok.ensures in
    takes_step p c.run_step.new.self c.args.size c.args.back.now c.in-Ok.step
    (record { whole = c.requires.whole; free = c.requires.free }) read c.in_ok-run_step-in-Ok.ensures

pub returns-in_ok-run_step-in-Ok-clause-ready : goal.returns-in_ok-run_step-in-Ok-clause-ready
returns-in_ok-run_step-in-Ok-clause-ready c =
    ready_behind c.args.self.now c.run_step.new.self c.args.size c.in-Ok.step c.requires.ready c.requires.free c.in_ok-run_step-in-Ok.ensures

use Rattle.std.proofs.Common.{◌++◌, length, ap, ◌∙◌}
use Rattle.dlog.specs.RunStates.{RunState}
use Rattle.dlog.proofs.RunLemmas.{takes_limit, limit_from}
use Rattle.dlog.proofs.run.Run.take_line.Goals as goal

pub returns-in-Some-clause-takes : goal.returns-in-Some-clause-takes
returns-in-Some-clause-takes c =
    let p = c.args.self.now in
    takes_limit p (p.pending ++ c.args.back.now) c.in-Some.ended (
    limit_from p c.self.inside.lines c.self.inside.bytes c.len.result c.args.back.now c.limit_of.result
    (ap (λ (v : RunState). v.lines) c.self.view_is) (ap (λ (v : RunState). v.bytes) c.self.view_is) (c.len.ensures ∙ c.self.inside.pending.ok.0
    ∙ ap (λ (v : RunState). length v.pending) c.self.view_is) c.limit_of.ensures
    ∙ c.in-Some.is)

use Rattle.std.proofs.Common.{◌+◌, length, ap, ◌∙◌}
use Rattle.dlog.specs.RunStates.{RunState}
use Rattle.dlog.proofs.RunLemmas.{keeps_limit, limit_from}
use Rattle.dlog.proofs.run.Run.keep.Goals as goal

pub returns-in-Some-clause-feeds : goal.returns-in-Some-clause-feeds
returns-in-Some-clause-feeds c =
    let p = c.args.self.now in
    let len_is = c.len.ensures ∙ c.self.inside.pending.ok.0 ∙ ap (λ (v : RunState). length v.pending) c.self.view_is in
    keeps_limit p c.args.piece.now c.in-Some.ended c.requires.ready.plain c.requires.plain
    (λ e. c.if-size-eq0.false (ap (λ n. n + length c.args.piece.now) len_is ∙ e))
    (
    limit_from p c.self.inside.lines c.self.inside.bytes c.len.result c.args.piece.now c.limit_of.result
    (ap (λ (v : RunState). v.lines) c.self.view_is) (ap (λ (v : RunState). v.bytes) c.self.view_is) len_is c.limit_of.ensures
    ∙ c.in-Some.is)

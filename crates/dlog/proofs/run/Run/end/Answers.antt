use Rattle.std.proofs.Common.{◌++◌, length, [], refl, sym, ap, ◌∙◌}
use Rattle.std.proofs.lemmas.Bool.{eqb-true}
use Rattle.dlog.specs.RunStates.{RunState}
use Rattle.dlog.proofs.RunLemmas.{ends_empty, ends_last, ends_stop, some_pending}
use Rattle.dlog.proofs.run.Run.end.Goals as goal

pub returns-then-is_empty : goal.returns-then-is_empty
returns-then-is_empty c =
    ends_empty c.args.self.now (
    sym (c.self.inside.pending.ok.0 ∙ ap (λ (v : RunState). length v.pending) c.self.view_is)
    ∙ eqb-true _ _ (sym c.is_empty.ensures ∙ c.if-is_empty.true))

pub returns-in-None : goal.returns-in-None
returns-in-None c =
    let p = c.args.self.now in
    ends_last p c.take_line.new.self (p.pending ++ []) c.requires
    (some_pending p c.is_empty.result _ (c.self.inside.pending.ok.0
    ∙ ap (λ (v : RunState). length v.pending) c.self.view_is) c.is_empty.ensures c.if-is_empty.false)
    refl (rw c.in-None.is at c.in_ok-take_line.ensures.takes)

pub returns-in-Some : goal.returns-in-Some
returns-in-Some c =
    let p = c.args.self.now in
    ends_stop p c.take_line.new.self (p.pending ++ []) c.in-Some.ended c.requires
    (some_pending p c.is_empty.result _ (c.self.inside.pending.ok.0
    ∙ ap (λ (v : RunState). length v.pending) c.self.view_is) c.is_empty.ensures c.if-is_empty.false)
    refl (rw c.in-Some.is at c.in_ok-take_line.ensures.takes)

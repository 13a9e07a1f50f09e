use Rattle.std.proofs.Common.{◌≡◌, ◌<◌, ◌≤◌, Some, false, length, get_or, sym, ap, ◌∙◌, arith}
use Rattle.std.proofs.lemmas.Grind.{get_or_default_zero}
use Rattle.dl_links.specs.Waiting.{first_waiting}
use Rattle.dl_links.proofs.WaitingLemmas.{first_waits, none_waits}
use Rattle.dl_links.proofs.filed.Filed.first_waiting.Goals as goal

pub returns-then-not-was_delivered-clause-first : goal.returns-then-not-was_delivered-clause-first
returns-then-not-was_delivered-clause-first c =
    let inside : c.loop-self.self.gone < length c.loop-self.self.places.items =
    omega (arith, c.loop-self-test.true, c.len.ensures, c.loop-self.self.places.ok.0) in
    let place : c.index-place.result.now ≡ get_or c.loop-self.self.places.items c.loop-self.self.gone 0 =
    c.index-place.ensures ∙ get_or_default_zero c.loop-self.self.places.items c.loop-self.self.gone c.index-place.result.now inside in
    ap Some place
    ∙ sym (first_waits c.args.delivered.now c.loop-self.self.places.items c.loop-self.self.gone c.loop-self.invariant.1 inside
    (ap (λ p. get_or c.args.delivered.now p false) (sym place) ∙ sym c.was_delivered.ensures ∙ c.if-not-was_delivered.true))
    ∙ ap (λ v. first_waiting c.args.delivered.now v.items) c.loop-self.invariant.0

pub returns-clause-first : goal.returns-clause-first
returns-clause-first c =
    let all : length c.loop-self.self.places.items ≤ c.loop-self.self.gone =
    omega (arith, c.loop-self-test.false, c.len.ensures, c.loop-self.self.places.ok.0) in
    sym (none_waits c.args.delivered.now c.loop-self.self.places.items c.loop-self.self.gone c.loop-self.invariant.1 all)
    ∙ ap (λ v. first_waiting c.args.delivered.now v.items) c.loop-self.invariant.0

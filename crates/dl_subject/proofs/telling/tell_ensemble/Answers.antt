use Rattle.std.proofs.Common.{◌≡◌, [], ◌∷◌, ◌++◌, ap, ◌∙◌, arith}
use Rattle.dl_quorum.specs.Pieces.{ring_members}
use Rattle.dl_rules_ledger.specs.Subjects.{tell_each}
use Rattle.dl_subject.proofs.TellLemmas.{ring_more}
use Rattle.dl_subject.proofs.telling.tell_ensemble.Goals as goal

pub loop-place-preserved : goal.loop-place-preserved
loop-place-preserved c =
    c.in_ok-push.ensures.items ∙ ap (λ t. c.loop-place.told.items ++ t ∷ []) c.in_ok-tell.ensures
    ∙ ring_more c.args.ensemble.now.first c.args.ensemble.now.bookies c.loop-place.place _ c.args.msg.now c.loop-place.told.items
    c.loop-place.invariant c.bookie_at.ensures

pub returns : goal.returns
returns c =
    let all : c.loop-place.place ≡ c.args.ensemble.now.e = omega (arith, c.loop-place-test.false, c.loop-place.auto.place-end) in
    c.from_vec.ensures ∙ c.loop-place.invariant
    ∙ ap (λ n. tell_each (ring_members c.args.ensemble.now.first c.args.ensemble.now.bookies n) c.args.msg.now) all

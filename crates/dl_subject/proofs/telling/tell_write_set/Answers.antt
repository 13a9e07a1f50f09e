use Rattle.std.proofs.Common.{◌+◌, ◌%◌, [], ◌∷◌, ◌++◌, ap, ◌∙◌, arith}
use Rattle.dl_quorum.specs.Sizes.{sizes_of}
use Rattle.dl_subject.proofs.TellLemmas.{letters_more, first_letters-all}
use Rattle.dl_subject.proofs.telling.tell_write_set.Goals as goal

pub loop-i-preserved : goal.loop-i-preserved
loop-i-preserved c =
    c.in_ok-push.ensures.items ∙ ap (λ t. c.loop-i.told.items ++ t ∷ []) c.in_ok-tell.ensures
    ∙ letters_more (sizes_of c.args.q) c.args.ensemble.now c.args.entry c.args.msg.now c.loop-i.i _
    c.loop-i.told.items c.loop-i.invariant
    (c.bookie_at-bookie.ensures ∙ ap (λ p. (c.args.ensemble.now.first + p) % c.args.ensemble.now.bookies) c.write_place.ensures.value)
    (omega (arith, c.write_place.ensures.value, c.write_place.ensures.bound, c.requires.ensemble))

pub returns : goal.returns
returns c =
    c.from_vec.ensures ∙ c.loop-i.invariant
    ∙ first_letters-all (sizes_of c.args.q) c.args.ensemble.now c.args.entry c.args.msg.now c.loop-i.i
    (omega (arith, c.loop-i-test.false, c.loop-i.auto.i-end))

use Rattle.std.proofs.Common.{ap, ◌∙◌}
use Rattle.std.specs.Ordering.{ord_max, nat_cmp}
use Rattle.dl_text.proofs.WordLemmas.{words_step}
use Rattle.dl_text.proofs.word.word_at.Goals as goal

pub loop-word-preserved : goal.loop-word-preserved
loop-word-preserved g c =
    let s = words_step g.W.Word.text c.loop-word.best c.max-best.result c.loop-word.word-index c.args.words.now c.word-item.result c.args.bytes.now
    c.text-text.result.now _ (c.max-best.ensures ∙ ap (ord_max nat_cmp c.loop-word.best) c.shared_of.ensures) c.text-text.ensures c.in_default.ensures
    c.word-item.is c.loop-word-test.true c.loop-word.invariant.same c.loop-word.invariant.fits in
    record { same = s.0; fits = s.1 }

use Rattle.std.proofs.Common.{◌+◌, sym, ap, ◌∙◌, arith, length, length-drop, get_or, add-zero}
use Rattle.std.proofs.lemmas.List.{get_or-drop}
use Rattle.std.proofs.lemmas.Bool.{false≢true}
use Rattle.dl_quorum.specs.Sizes.{sizes_of}
use Rattle.dl_quorum.specs.WriteSets.{confirms}
use Rattle.dl_quorum.specs.Places.{holds}
use Rattle.dl_rules_ledger.proofs.LeadingLemmas.{leading_count-is}
use Rattle.dl_lwrite.proofs.acknowledge.advance.Goals as goal

pub returns-then-not-confirmed-clause-passed : goal.returns-then-not-confirmed-clause-passed
returns-then-not-confirmed-clause-passed c =
    sym (leading_count-is _ (length c.args.window.now.items) c.loop-answers.passed c.loop-answers.invariant.within c.loop-answers.invariant.below
    (λ within. let front = c.in-Some.ensures.item.3.1 0 in
    ap (λ set. confirms (sizes_of c.args.q) (c.args.first + c.loop-answers.passed) (holds set))
    (sym (front ∙ ap (λ xs. get_or xs 0 0) c.loop-answers.invariant.rest ∙ get_or-drop c.loop-answers.passed c.args.window.now.items 0 0
    ∙ ap (λ n. get_or c.args.window.now.items n 0) (add-zero c.loop-answers.passed)))
    ∙ sym c.confirmed.ensures ∙ c.if-not-confirmed.true))

pub returns-in_default-clause-passed : goal.returns-in_default-clause-passed
returns-in_default-clause-passed c =
    sym (leading_count-is _ (length c.args.window.now.items) c.loop-answers.passed c.loop-answers.invariant.within c.loop-answers.invariant.below
    (λ within. absurd (false≢true (c.in_default.ensures.variant.1
    (omega (arith, ap length c.loop-answers.invariant.rest, length-drop c.loop-answers.passed c.args.window.now.items))))))

use Rattle.std.proofs.Common.{◌≡◌, ◌∷◌, true, cond, Some, None, max, subst, sym, ◌∙◌, arith}
use Rattle.dl_quorum.specs.Pieces.{covers}
use Rattle.dl_rules_ledger.specs.Subjects.{has_answered, greatest_count, known_count}
use Rattle.dl_rules_ledger.specs.Readers.{after_count}
use Rattle.dl_lread.specs.declared.stage.Stage.TheVariants as kept
use Rattle.dl_lread.specs.Standing.{StageStands}
use Rattle.dl_lread.proofs.answers.after_count.Goals as goal

pub returns-then-covers : goal.returns-then-covers
returns-then-covers c answers tally =
    let x = c.args.subject.now in
    let all = (c.args.bookie, c.args.count) ∷ answers in
    let greatest : c.max-greatest.result ≡ max c.args.count (greatest_count answers) = omega (arith, c.max-greatest.ensures, tally.greatest_one) in
    let covered : covers x.pieces (has_answered all) ≡ true =
    sym (c.covers.ensures (has_answered all) (c.with-answered.ensures (has_answered answers) tally.who)) ∙ c.if-covers.true in
    subst (λ t. StageStands x (after_count all (cond t (Some (known_count x all)) None)) (kept.Counted c.known_count.result)) (sym covered)
    (c.known_count.ensures all greatest)

use Rattle.std.proofs.Common.{◌≡◌, max, ◌∷◌, IfOk, subst, sym, ◌∙◌, arith}
use Rattle.dl_rules_ledger.specs.Subjects.{has_answered, greatest_count}
use Rattle.dl_rules_ledger.specs.Recoveries.{Move}
use Rattle.dl_subject.specs.Sets.{IsTallyOf}
use Rattle.dl_lrecover.specs.Finding.{StepStands}
use Rattle.dl_lrecover.proofs.Steps.{fenced_answer}
use Rattle.dl_lrecover.proofs.finding.at_fencing.Goals as goal

pub returns-then-is_about : goal.returns-then-is_about
returns-then-is_about c answers tally =
    let x = c.args.subject.now in
    let at = c.in-LacIs in
    let all = (c.args.bookie, at.count) ∷ answers in
    let greatest : c.max.result ≡ max at.count (greatest_count answers) = omega (arith, c.max.ensures, tally.greatest_one) in
    let now : IsTallyOf x all c.with-answered.result c.max.result =
    record { who = c.with-answered.ensures (has_answered answers) tally.who; greatest_one = greatest } in
    subst (λ (move : Move). IfOk c.after_answer.result (StepStands x move))
    (fenced_answer x answers c.args.bookie at.tag at.ledger at.count at.fenced c.args.msg.now at.is c.if-fenced.true
    (sym c.is_about.ensures ∙ c.if-is_about.true))
    (c.after_answer.ensures all now)

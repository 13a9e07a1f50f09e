use Rattle.std.proofs.Common.{◌∷◌, subst, sym, ◌∙◌}
use Rattle.dl_rules_ledger.specs.Subjects.{among}
use Rattle.dl_rules_ledger.specs.Recoveries.{Move}
use Rattle.dl_lrecover.specs.Finding.{StepStands}
use Rattle.dl_lrecover.proofs.Steps.{fenced_denial}
use Rattle.dl_lrecover.proofs.finding.at_reading.Goals as goal

pub returns-then-is_about_entry : goal.returns-then-is_about_entry
returns-then-is_about_entry c bookies heard =
    let x = c.args.subject.now in
    let at = c.in-NoEntry in
    subst (λ (move : Move). StepStands x move c.after_denial.result)
    (fenced_denial x c.args.start c.args.entry bookies c.args.bookie at.tag at.ledger at.named at.fenced c.args.msg.now at.is c.if-fenced.true
    (sym c.is_about_entry.ensures ∙ c.if-is_about_entry.true))
    (c.after_denial.ensures (c.args.bookie ∷ bookies) (c.with-denials.ensures (among bookies) heard))

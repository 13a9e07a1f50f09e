use Rattle.std.proofs.Common.{◌≡◌, max, subst, arith}
use Rattle.dl_rules_ledger.specs.Subjects.{Subject, greatest_count, known_count}
use Rattle.dl_subject.proofs.subject.Subject.known_count.Goals as goal

pub returns : goal.returns
returns c answers told =
    let none : c.args.greatest ≡ max 0 (greatest_count answers) = omega (arith, told) in
    subst (λ (x : Subject). c.args.greatest ≡ known_count x answers) c.self.view_is none

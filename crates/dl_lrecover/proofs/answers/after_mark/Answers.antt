use Rattle.std.proofs.Common.{subst}
use Rattle.dl_rules_ledger.specs.Subjects.{Subject}
use Rattle.dl_rules_ledger.specs.Recoveries.{fences}
use Rattle.dl_rules_stream.specs.LedgerRecoveries as rule
use Rattle.dl_lrecover.specs.Finding.{StepStands}
use Rattle.dl_lrecover.specs.Standing.{args_of}
use Rattle.dl_lrecover.proofs.answers.after_mark.Goals as goal

pub returns : goal.returns
returns c m node =
    let x = args_of c.args.target.now in
    c.after_step.ensures m (fences (rule.subject_of x m)) node
    (subst (λ (s : Subject). StepStands s (fences s) c.in_ok-step.step) (c.subject_of-subject.ensures m node) c.in_ok-step.ensures)

use Rattle.std.proofs.Common.{subst, sym}
use Rattle.dl_rules_ledger.specs.Subjects.{Subject}
use Rattle.dl_rules_ledger.specs.Recoveries.{recovers}
use Rattle.dl_rules_stream.specs.LedgerRecoveries as rule
use Rattle.dl_lrecover.specs.Finding.{PhaseStands, StepStands}
use Rattle.dl_lrecover.specs.Standing.{args_of}
use Rattle.dl_lrecover.proofs.answers.at_searching.Goals as goal

pub returns : goal.returns
returns c m p node stands =
    let x = args_of c.args.target.now in
    let about = c.subject_of-subject.ensures m node in
    c.after_step.ensures m (recovers (rule.subject_of x m) p c.args.bookie c.args.msg.now) node
    (subst (λ (s : Subject). StepStands s (recovers s p c.args.bookie c.args.msg.now) c.in_ok-step.step) about
    (c.in_ok-step.ensures p (subst (λ (s : Subject). PhaseStands s p c.args.phase) (sym about) stands)))

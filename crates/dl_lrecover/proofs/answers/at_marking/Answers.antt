use Rattle.std.proofs.Common.{◌≡◌, IfOk, subst, sym, ap, ◌∙◌}
use Rattle.dl_types.specs.declared.one_answer.OneAnswer.TheVariants.{Version}
use Rattle.dl_types.specs.declared.meta_answer.MetaAnswer.{MetaAnswer}
use Rattle.dl_types.specs.declared.meta_answer.MetaAnswer.TheVariants as answer
use Rattle.dl_rules_stream.specs.LedgerRecoveries as rule
use Rattle.dl_lrecover.specs.Standing.{IsMove, args_of}
use Rattle.dl_lrecover.proofs.answers.at_marking.Goals as goal

pub returns-in-One-Version : goal.returns-in-One-Version
returns-in-One-Version c m node =
    let x = args_of c.args.target.now in
    let at = c.in-One-Version in
    let one : at.field-0 ≡ Version at.now = rw at.is at at.field-0-is in
    subst (λ (a : MetaAnswer). IfOk c.after_marked.result (IsMove x (rule.recovery_answers x (rule.Marking m c.args.version) a)))
    (sym (at.is ∙ ap (λ o. answer.One o) one))
    (c.after_marked.ensures m c.args.version node)

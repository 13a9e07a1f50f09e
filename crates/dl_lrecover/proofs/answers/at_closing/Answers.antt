use Rattle.std.proofs.Common.{◌≡◌, subst, sym, ap, ◌∙◌}
use Rattle.dl_types.specs.declared.one_answer.OneAnswer.TheVariants.{Version}
use Rattle.dl_types.specs.declared.meta_answer.MetaAnswer.{MetaAnswer}
use Rattle.dl_types.specs.declared.meta_answer.MetaAnswer.TheVariants as answer
use Rattle.dl_rules_stream.specs.LedgerRecoveries as rule
use Rattle.dl_lrecover.specs.Standing.{IsMove, args_of}
use Rattle.dl_lrecover.proofs.answers.at_closing.Goals as goal

pub returns-in-One-Version : goal.returns-in-One-Version
returns-in-One-Version c m node =
    let x = args_of c.args.target.now in
    let at = c.in-One-Version in
    let one : at.field-0 ≡ Version at.field-0-0 = rw at.is at at.field-0-is in
    subst (λ (a : MetaAnswer). IsMove x (rule.recovery_answers x (rule.Closing m c.args.version c.args.count) a) c.after_closed.result)
    (sym (at.is ∙ ap (λ o. answer.One o) one))
    (c.after_closed.ensures x m c.args.version at.field-0-0 node)

use Rattle.std.proofs.Common.{IfOk, subst}
use Rattle.dl_rules_stream.specs.Recovers as rule
use Rattle.dl_open.specs.Recovering.{IsStep, RecoverFacts, StageStands}
use Rattle.dl_open.proofs.recover.Recover.after.Goals as goal

pub returns : goal.returns
returns c =
    subst (λ (f : RecoverFacts). (s : rule.RecoverStage) → StageStands s f.stage
    → IfOk c.after_heard.result (IsStep f.stage (rule.recover_hears f.given s c.args.heard.now))) c.self.view_is c.after_heard.ensures

use Rattle.std.proofs.Common.{◌≡◌, IfOk, subst}
use Rattle.dl_rules_stream.specs.Opens as rule
use Rattle.dl_open.specs.Opening.{IsStep, OpenFacts, StageStands}
use Rattle.dl_open.proofs.open.Open.after.Goals as goal

pub returns-clause-step : goal.returns-clause-step
returns-clause-step c =
    subst (λ (f : OpenFacts). IfOk c.after_heard.result (λ m. (s : rule.OpenStage) → StageStands f.given s f.stage
    → IsStep f.given f.stage (rule.open_hears f.given s c.args.heard.now) m.0)) c.self.view_is c.after_heard.ensures.step

pub returns-clause-recovered : goal.returns-clause-recovered
returns-clause-recovered c =
    subst (λ (f : OpenFacts). IfOk c.after_heard.result (λ m. (s : rule.OpenStage) → StageStands f.given s f.stage
    → m.1 ≡ rule.open_recovers s c.args.heard.now)) c.self.view_is c.after_heard.ensures.recovered

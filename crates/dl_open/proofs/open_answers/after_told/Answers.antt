use Rattle.std.proofs.Common.{IfOk, sym, ◌∙◌, subst}
use Rattle.dl_rules_stream.specs.Opens as rule
use Rattle.dl_rules_stream.specs.Orders.{Next}
use Rattle.dl_open.specs.Opening.{args_of, IsStep}
use Rattle.dl_open.proofs.Going.{open_told, open_whole}
use Rattle.dl_open.proofs.open_answers.after_told.Goals as goal

pub returns-in-Some : goal.returns-in-Some
returns-in-Some c from l told =
    subst (λ (to : rule.OpenStage × Next rule.Opened). IfOk c.recovers.result (IsStep (args_of c.args.given.now) from to))
    (open_told c.args.given.now c.args.member.now l c.args.looked.now c.in-Some.segment told (sym c.in_progress.ensures ∙ c.in-Some.is))
    (c.recovers.ensures from)

pub returns-in-None : goal.returns-in-None
returns-in-None c from l told =
    subst (λ (to : rule.OpenStage × Next rule.Opened). IfOk c.allocates.result (IsStep (args_of c.args.given.now) from to))
    (open_whole (args_of c.args.given.now) c.args.member.now l c.args.looked.now told (sym c.in_progress.ensures ∙ c.in-None.is))
    (c.allocates.ensures from l told)

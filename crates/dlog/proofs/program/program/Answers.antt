use Rattle.dlog.proofs.Reading.{usage_along}
use Rattle.dlog.proofs.program.program.Goals as goal

pub returns-in-Ok-clause-usage : goal.returns-in-Ok-clause-usage
returns-in-Ok-clause-usage g c = rw c.in-Ok.is (usage_along _ _ _ c.deref.ensures.value c.dlog_main.ensures.usage)

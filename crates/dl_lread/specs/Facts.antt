-- What a ledger's reader keeps.
use Rattle.dl_rules_ledger.specs.Subjects.{Subject}
use Rattle.dl_lread.specs.declared.stage.Stage.{Stage}

-- What its messages are about, and what it waits for or has got.
pub record ReaderFacts : Type 0 where
  pub subject : Subject
  pub stage : Stage

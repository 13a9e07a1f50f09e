-- What contracts see of a journal.
use Rattle.std.specs.Prelude.{ℕ, Bool}

-- its file, the place of the shut gate, the number of the next batch, and whether a commit has failed
pub record JournalState : Type 0 where
  pub file : ℕ
  pub gate : ℕ
  pub next : ℕ
  pub failed : Bool

-- What a storage node keeps.
use Rattle.std.specs.Prelude.{ℕ, Bool, List}
use Rattle.dl_journal.specs.State.{JournalState}
use Rattle.dl_pool.specs.Pools.{Held}
use Rattle.dl_marks.specs.Tables.{Entries, Ledgers}
use Rattle.dl_bookie.specs.declared.queued.Queued.{Queued}

-- The journal, the pool of the queued items, the marks of entries and ledgers, the queue with its items' bytes in all, and
-- whether a call on the device has failed.
pub record BookieFacts : Type 0 where
  pub journal : JournalState
  pub pool : Held
  pub entries : Entries
  pub ledgers : Ledgers
  pub queue : List Queued
  pub bytes : ℕ
  pub failed : Bool

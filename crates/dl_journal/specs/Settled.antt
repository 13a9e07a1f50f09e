-- When a journal stands for batches of its file.
use Rattle.std.specs.Prelude.{◌≡◌, ◌≤◌, ℕ, List, length, Some, false}
use Rattle.dl_depot.specs.View.{View}
use Rattle.dl_journal.specs.declared.batch.Batch.{Batch}
use Rattle.dl_journal.specs.Limits.{journal_limit}
use Rattle.dl_journal.specs.State.{JournalState}
use Rattle.dl_journal.specs.Batches.{InRow, Spells}

-- the file shows these bytes, and a stop leaves them
pub record OnDisk (v : View) (file : ℕ) (bytes : List ℕ) : Type 0 where
  pub shown : v.shown file ≡ Some bytes
  pub only : (c : List ℕ) → v.image file v.moment c → c ≡ bytes
  pub last : v.synced file ≡ Some bytes

-- The file shows these bytes, no more than a journal may have; a stop leaves them alone; they hold these batches in
-- force; and the journal goes on behind them.
pub record IsSettled (v : View) (j : JournalState) (bytes : List ℕ) (batches : List Batch) : Type 0 where
  pub on_disk : OnDisk v j.file bytes
  pub fits : length bytes ≤ journal_limit
  pub in_row : InRow j.gate j.next batches
  pub spells : Spells bytes batches

-- where the bytes are told and no commit has failed, the journal stands for batches of its file
abbrev pub Stands : View → JournalState → Type 0
Stands v j = j.failed ≡ false → (shown : List ℕ) → v.shown j.file ≡ Some shown → (batches : List Batch) × IsSettled v j shown batches

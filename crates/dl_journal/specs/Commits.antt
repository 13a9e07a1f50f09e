-- What the calls of a journal do.
use Rattle.std.specs.Prelude.{◌≡◌, ◌+◌, ◌-◌, ℕ, suc, List, [], ◌∷◌, ◌++◌, length, take, drop, Some, Bool, true}
use Rattle.std.specs.Prelude.{false, cond, nat_le, Result, Ok, Err, OnOk, IsErrOf, IfOk, MatchResult, ◌↔◌}
use Rattle.dl_depot.specs.View.{View, Keeps, LeavesOnly}
use Rattle.dl_depot.specs.Device.{Rose, CountsFault}
use Rattle.dl_depot.specs.declared.device_call.DeviceCall.{DeviceCall}
use Rattle.dl_depot.specs.declared.device_call.DeviceCall.TheVariants.{Write, Sync}
use Rattle.dl_depot.specs.declared.device_fault.DeviceFault.{DeviceFault}
use Rattle.dl_depot.specs.declared.fuse.Fuse.{Fuse}
use Rattle.dl_depot.specs.declared.fuse.Outcome.{Outcome}
use Rattle.dl_depot.specs.declared.fuse.Outcome.TheVariants.{After}
use Rattle.dl_journal.specs.declared.batch.Batch.{Batch}
use Rattle.dl_journal.specs.declared.commit_fault.CommitFault.{CommitFault}
use Rattle.dl_journal.specs.declared.commit_fault.CommitFault.TheVariants.{Device, Failed}
use Rattle.dl_journal.specs.Limits.{journal_limit, last_number, head_size, gate_size, around_body}
use Rattle.dl_journal.specs.State.{JournalState}
use Rattle.dl_journal.specs.Batches.{magic, InRow, IsJournal, BeforeOrAfter}
use Rattle.dl_journal.specs.Calls.{MakesCalls, Spends, StaysInLimit, store_calls}
use Rattle.dl_journal.specs.Settled.{IsSettled, Stands}

-- the body of a frame: all but its head and the gate behind it
abbrev pub body_of : List ℕ → List ℕ
body_of frame = take (length frame - around_body) (drop head_size frame)

-- the batch that a body makes
abbrev pub batch_of : JournalState → List ℕ → Batch
batch_of j body = record { number = j.next; body = body }

-- the longest body for which the file stays within its limit; 0 where the next number would be too great
abbrev pub spare_of : JournalState → ℕ
spare_of j = cond (nat_le j.next last_number) (journal_limit - (j.gate + gate_size + around_body)) 0

-- the place in the file at which the next body begins
abbrev pub body_place : JournalState → ℕ
body_place j = j.gate + gate_size + head_size

-- the journal with this body committed
abbrev pub state_after : JournalState → List ℕ → JournalState
state_after j body = record { file = j.file; gate = j.gate + (length body + around_body); next = j.next + 1; failed = false }

-- the writing calls of a commit
abbrev pub commit_calls : JournalState → List ℕ → List DeviceCall
commit_calls j body = Write (j.gate + gate_size) (length body + around_body) ∷ Sync ∷ Write j.gate gate_size ∷ Sync ∷ []

-- the file shows a journal of these batches
abbrev pub Shows : View → ℕ → List Batch → Type 0
Shows new file batches = (bytes : List ℕ) → new.shown file ≡ Some bytes → IsJournal bytes batches

-- a stop of the third or fourth call with all written has left an open gate
abbrev pub is_gate_open : Outcome → ℕ → Bool
is_gate_open After (suc (suc left)) = true
is_gate_open outcome left = false

-- only a fault of the device raises the count of faults
abbrev pub CountsCommit : ℕ → ℕ → Result (Unit {0}) CommitFault → Type 0
CountsCommit before now (Ok u) = now ≡ before
CountsCommit before now (Err Device) = Rose before now
CountsCommit before now (Err Failed) = now ≡ before

-- what `commit` does
pub record Committed (old new : View) (j k : JournalState) (body : List ℕ) (result : Result (Unit {0}) CommitFault) : Type 0 where
  pub keeps : Keeps j.file old new
  -- at each moment each image is a journal of the batches from before, with the new one or without
  pub any_moment : (bytes : List ℕ) (batches : List Batch) → IsSettled old j bytes batches → LeavesOnly j.file old new (BeforeOrAfter batches (batch_of j body))
  -- and then each image has the new one
  pub ok : (bytes : List ℕ) (batches : List Batch) → IsSettled old j bytes batches
      → OnOk result ((now : List ℕ) × IsSettled new k now (batches ++ batch_of j body ∷ []))
  -- the journal goes on behind the new batch, also where bytes aren't told
  pub in_row : (batches : List Batch) → InRow j.gate j.next batches → OnOk result (InRow k.gate k.next (batches ++ batch_of j body ∷ []))
  pub stands : Stands old j → Stands new k
  pub file : k.file ≡ j.file
  pub state : MatchResult result (λ _. k ≡ state_after j body) (λ _. k ≡ record j { failed = true })
  pub failed : IsErrOf result Failed ↔ (j.failed ≡ true)
  pub counts : CountsCommit (old.faults j.file) (new.faults j.file) result
  pub calls : MakesCalls old new j.file (commit_calls j body) result
  -- where a fuse stops it, the file shows the new batch exactly where its gate was written
  pub spends : (f : Fuse) (bytes : List ℕ) (batches : List Batch) → old.fuse j.file ≡ Some (Some f) → IsSettled old j bytes batches
      → Spends old new j.file (commit_calls j body) (λ outcome left. Shows new j.file
      (cond (is_gate_open outcome left) (batches ++ batch_of j body ∷ []) batches)) f result

-- the file is empty, where its bytes are told
abbrev pub IsEmpty : View → ℕ → Type 0
IsEmpty v file = (bytes : List ℕ) → v.shown file ≡ Some bytes → bytes ≡ []

-- the bytes of a new journal
abbrev pub start : List ℕ
start = magic ++ 0 ∷ []

-- a new journal in this file
abbrev pub new_journal : ℕ → JournalState
new_journal file = record { file = file; gate = length magic; next = 0; failed = false }

-- what `make` does
pub record Made (old new : View) (file : ℕ) (result : Result JournalState DeviceFault) : Type 0 where
  pub keeps : Keeps file old new
  pub in_limit : StaysInLimit file old new
  pub state : IfOk result (λ j. j ≡ new_journal file)
  pub settled : (was : List ℕ) → old.shown file ≡ Some was → OnOk result (IsSettled new (new_journal file) start [])
  pub stands : OnOk result (Stands new (new_journal file))
  pub in_row : OnOk result (InRow (length magic) 0 [])
  pub counts : CountsFault (old.faults file) (new.faults file) result
  pub calls : MakesCalls old new file (store_calls 0 start) result

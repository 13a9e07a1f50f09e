-- A journal is read from its file, after a sync.
use Rattle.std.specs.Prelude.{◌≡◌, false, ◌≤◌, ◌<◌, ℕ, List, [], ◌∷◌, Some, Result, Ok, Err, IfOk, IsErrOf, length, Vec}
use Rattle.std.specs.declared.alloc.Global.{Global}
use Rattle.dl_depot.specs.View.{View, Keeps}
use Rattle.dl_depot.specs.Device.{Rose}
use Rattle.dl_depot.specs.declared.device_call.DeviceCall.TheVariants.{Sync}
use Rattle.dl_journal.specs.declared.load_fault.LoadFault.{LoadFault}
use Rattle.dl_journal.specs.declared.load_fault.LoadFault.TheVariants.{Damaged, TooLarge, Device, NoMemory}
use Rattle.dl_journal.specs.declared.batch.Batch.{Batch}
use Rattle.dl_journal.specs.Limits.{journal_limit}
use Rattle.dl_journal.specs.State.{JournalState}
use Rattle.dl_journal.specs.Batches.{InRow}
use Rattle.dl_journal.specs.Calls.{MakesCalls}
use Rattle.dl_journal.specs.Settled.{OnDisk, IsSettled, Stands}
use Rattle.dl_journal.specs.Reading.{Breaks}

-- only a fault of the device raises the count of faults
abbrev pub CountsLoad : {X : Type 0} → ℕ → ℕ → Result X LoadFault → Type 0
CountsLoad before now (Ok x) = now ≡ before
CountsLoad before now (Err (Damaged at)) = now ≡ before
CountsLoad before now (Err (TooLarge n)) = now ≡ before
CountsLoad before now (Err Device) = Rose before now
CountsLoad before now (Err NoMemory) = now ≡ before

-- the calls of a sync and a reading of the whole file, and what they answer of its size
pub record ReadsFile {X : Type 0} (old new : View) (file : ℕ) (result : Result X LoadFault) : Type 0 where
  pub keeps : Keeps file old new
  -- nothing is left that wasn't left before
  pub images : (t : ℕ) (c : List ℕ) → old.moment ≤ t → t ≤ new.moment → new.image file t c → old.image file old.moment c
  pub counts : CountsLoad (old.faults file) (new.faults file) result
  pub calls : MakesCalls old new file (Sync ∷ []) result
  pub too_large : (n : ℕ) → IsErrOf result (TooLarge n) → (journal_limit < n) × ((was : List ℕ) → old.shown file ≡ Some was → n ≡ length was)
  pub no_memory : IsErrOf result NoMemory → (was : List ℕ) → old.shown file ≡ Some was → length was ≤ journal_limit

-- the bytes of a file that are no more than a journal may have, all on the device
pub record Fetched (old new : View) (file : ℕ) (result : Result (Vec ℕ Global) LoadFault) : Type 0 where
  pub reads : ReadsFile old new file result
  pub most : IfOk result (λ v. length v.items ≤ journal_limit)
  pub bytes : (was : List ℕ) → old.shown file ≡ Some was → IfOk result (λ v. (v.items ≡ was) × OnDisk new file was)
  pub not_damaged : (at : ℕ) → IsErrOf result (Damaged at) → ⊥

-- what `load` does
pub record Loaded (old new : View) (file : ℕ) (result : Result (JournalState × Vec Batch Global) LoadFault) : Type 0 where
  pub reads : ReadsFile old new file result
  -- the batches in force, in what is shown and in each image
  pub ok : (was : List ℕ) → old.shown file ≡ Some was → IfOk result (λ p. IsSettled new p.0 was p.1.items)
  -- the journal goes on behind them, also where bytes aren't told
  pub in_row : IfOk result (λ p. InRow p.0.gate p.0.next p.1.items)
  pub same : IfOk result (λ p. p.0.file ≡ file)
  pub works : IfOk result (λ p. p.0.failed ≡ false)
  pub stands : IfOk result (λ p. Stands new p.0)
  pub damaged : (at : ℕ) → IsErrOf result (Damaged at) → (was : List ℕ) → old.shown file ≡ Some was → (length was ≤ journal_limit) × Breaks was at

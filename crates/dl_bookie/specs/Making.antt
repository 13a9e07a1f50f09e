-- A storage node that is made.
use Rattle.std.specs.Prelude.{◌≡◌, ◌≤◌, ℕ, Result, Ok, Err, IfOk}
use Rattle.dl_depot.specs.View.{View, Keeps}
use Rattle.dl_depot.specs.Device.{Rose}
use Rattle.dl_journal.specs.Calls.{MakesCalls, store_calls}
use Rattle.dl_journal.specs.Settled.{Stands}
use Rattle.dl_journal.specs.Commits.{new_journal, start}
use Rattle.dl_rules_nodes.specs.Bookies.{empty_bookie}
use Rattle.dl_bookie.specs.declared.load_fault.LoadFault.{LoadFault}
use Rattle.dl_bookie.specs.declared.load_fault.LoadFault.TheVariants.{Damaged, TooLarge, Crowded, Device, NoMemory}
use Rattle.dl_bookie.specs.Facts.{BookieFacts}
use Rattle.dl_bookie.specs.Standing.{StandsFor, OnFile}

-- the files of storage nodes
pub record IsNodeFile (file : ℕ) : Type 0 where
  pub above : 1 ≤ file
  pub most : file ≤ 16

-- only a fault of the device raises the count of faults, and nothing else fails but memory
abbrev pub CountsMake : {X : Type 0} → ℕ → ℕ → Result X LoadFault → Type 0
CountsMake before now (Ok x) = now ≡ before
CountsMake before now (Err Device) = Rose before now
CountsMake before now (Err NoMemory) = now ≡ before
CountsMake before now (Err (Damaged at)) = ⊥
CountsMake before now (Err (TooLarge size)) = ⊥
CountsMake before now (Err (Crowded what)) = ⊥

-- What making a storage node in a file does.
pub record Makes (old new : View) (file : ℕ) (result : Result BookieFacts LoadFault) : Type 0 where
  pub keeps : Keeps file old new
  -- the node has no item, in memory and in the file
  pub stands : IfOk result (λ k. StandsFor empty_bookie k)
  pub on_file : IfOk result (λ k. OnFile new empty_bookie k)
  pub journal : IfOk result (λ k. k.journal ≡ new_journal file)
  pub goes_on : IfOk result (λ k. Stands new k.journal)
  pub counts : CountsMake (old.faults file) (new.faults file) result
  pub calls : MakesCalls old new file (store_calls 0 start) result

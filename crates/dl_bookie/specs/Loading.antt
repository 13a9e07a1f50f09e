-- A storage node that is loaded from its journal.
use Rattle.std.specs.Prelude.{◌≡◌, ◌⊎◌, ◌≤◌, ◌<◌, ℕ, List, [], ◌∷◌, length, Some, Result, Ok, Err, IfOk, IsErrOf}
use Rattle.dl_depot.specs.View.{View, Keeps}
use Rattle.dl_depot.specs.Device.{Rose}
use Rattle.dl_depot.specs.declared.device_call.DeviceCall.TheVariants.{Sync}
use Rattle.dl_journal.specs.declared.batch.Batch.{Batch}
use Rattle.dl_journal.specs.Limits.{journal_limit}
use Rattle.dl_journal.specs.Batches.{IsJournal}
use Rattle.dl_journal.specs.Reading.{Breaks}
use Rattle.dl_journal.specs.Calls.{MakesCalls}
use Rattle.dl_journal.specs.Settled.{IsSettled, Stands}
use Rattle.dl_msg.specs.declared.resource.Resource.{Resource}
use Rattle.dl_rules_nodes.specs.Bookies.{Bookie}
use Rattle.dl_rules_nodes.specs.Loads.{LoadStop, IsDamaged, IsCrowded, loaded_bookie}
use Rattle.dl_restore.specs.Bodies.{bodies_of}
use Rattle.dl_bookie.specs.declared.load_fault.LoadFault.{LoadFault}
use Rattle.dl_bookie.specs.declared.load_fault.LoadFault.TheVariants.{Damaged, TooLarge, Crowded, Device, NoMemory}
use Rattle.dl_bookie.specs.Facts.{BookieFacts}
use Rattle.dl_bookie.specs.Standing.{StandsFor, OnFile, batches_of}

-- only a fault of the device raises the count of faults
abbrev pub CountsNodeLoad : {X : Type 0} → ℕ → ℕ → Result X LoadFault → Type 0
CountsNodeLoad before now (Ok x) = now ≡ before
CountsNodeLoad before now (Err (Damaged at)) = now ≡ before
CountsNodeLoad before now (Err (TooLarge size)) = now ≡ before
CountsNodeLoad before now (Err (Crowded what)) = now ≡ before
CountsNodeLoad before now (Err Device) = Rose before now
CountsNodeLoad before now (Err NoMemory) = now ≡ before

-- The bytes are a journal, whose batches give no storage node for this reason.
pub record StopsItems (was : List ℕ) (stop : LoadStop) : Type 0 where
  pub batches : List Batch
  pub journal : IsJournal was batches
  pub stops : (first : ℕ) → loaded_bookie first (bodies_of batches) ≡ Err stop

-- What is kept stands for this node, which the bodies of the file's batches give.
pub record IsLoaded (old new : View) (file : ℕ) (k : BookieFacts) (b : Bookie) : Type 0 where
  pub stands : StandsFor b k
  pub on_file : OnFile new b k
  pub told : (was : List ℕ) → old.shown file ≡ Some was → IsSettled new k.journal was (batches_of b)
  pub loaded : loaded_bookie b.first (bodies_of (batches_of b)) ≡ Ok b
  pub idle : b.queue ≡ []
  pub file_same : k.journal.file ≡ file
  pub goes_on : Stands new k.journal

-- What loading a storage node from a file does.
pub record LoadsNode (old new : View) (file : ℕ) (result : Result BookieFacts LoadFault) : Type 0 where
  pub keeps : Keeps file old new
  -- nothing is left that wasn't left before
  pub images : (t : ℕ) (c : List ℕ) → old.moment ≤ t → t ≤ new.moment → new.image file t c → old.image file old.moment c
  pub node : IfOk result (λ k. (b : Bookie) × IsLoaded old new file k b)
  pub too_large : (n : ℕ) → IsErrOf result (TooLarge n) → (journal_limit < n) × ((was : List ℕ) → old.shown file ≡ Some was → n ≡ length was)
  -- the layout is broken there, or the layout is whole and an item is broken there
  pub damaged : (at : ℕ) → IsErrOf result (Damaged at) → (was : List ℕ) → old.shown file ≡ Some was
      → ((length was ≤ journal_limit) × Breaks was at) ⊎ StopsItems was (IsDamaged at)
  pub crowded : (what : Resource) → IsErrOf result (Crowded what) → (was : List ℕ) → old.shown file ≡ Some was → StopsItems was (IsCrowded what)
  pub counts : CountsNodeLoad (old.faults file) (new.faults file) result
  pub calls : MakesCalls old new file (Sync ∷ []) result

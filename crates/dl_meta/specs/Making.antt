-- A metadata store is made in an empty file: its first item is the configuration.
use Rattle.std.specs.Prelude.{◌≡◌, ℕ, List, [], ◌∷◌, ◌++◌, Some, Result, Ok, Err, IfOk, IfErr}
use Rattle.dl_depot.specs.View.{View, Keeps}
use Rattle.dl_depot.specs.declared.device_call.DeviceCall.{DeviceCall}
use Rattle.dl_journal.specs.declared.batch.Batch.{Batch}
use Rattle.dl_journal.specs.State.{JournalState}
use Rattle.dl_journal.specs.Calls.{MakesCalls, store_calls}
use Rattle.dl_journal.specs.Settled.{IsSettled, Stands}
use Rattle.dl_journal.specs.Commits.{start, new_journal, batch_of, state_after, commit_calls}
use Rattle.dl_formats.specs.declared.conf.Conf.{Conf}
use Rattle.dl_rules_nodes.specs.Items.{Setup, meta_item_bytes}
use Rattle.dl_rules_nodes.specs.Metadata.{MetaNode}
use Rattle.dl_meta.specs.declared.meta_fault.MetaFault.{MetaFault}
use Rattle.dl_meta.specs.declared.meta_fault.MetaFault.TheVariants as fault
use Rattle.dl_meta.specs.State.{MetaState}
use Rattle.dl_meta.specs.Standing.{meta_file, StandsFor, OnFile}
use Rattle.dl_meta.specs.Turns.{CountsFaults}

-- a new node, with its configuration
abbrev pub made_node : Conf → MetaNode
made_node conf = record { first = 0; items = Setup conf ∷ [] }

-- the writing calls of a new journal and of the commit of its first body
abbrev pub first_calls : List ℕ → List DeviceCall
first_calls body = store_calls 0 start ++ commit_calls (new_journal meta_file) body

-- only want of memory and a fault of the device stop it
abbrev pub IsMakeStop : MetaFault → Type 0
IsMakeStop fault.Device = Unit {0}
IsMakeStop fault.NoMemory = Unit {0}
IsMakeStop _ = ⊥

-- a new journal with one body
pub record MakesJournal (old new : View) (body : List ℕ) (result : Result JournalState MetaFault) : Type 0 where
  pub keeps : Keeps meta_file old new
  pub calls : MakesCalls old new meta_file (first_calls body) result
  pub counts : CountsFaults (old.faults meta_file) (new.faults meta_file) result
  pub stop : IfErr result IsMakeStop
  pub state : IfOk result (λ j. j ≡ state_after (new_journal meta_file) body)
  pub stands : IfOk result (Stands new)
  pub settled : (was : List ℕ) → old.shown meta_file ≡ Some was
      → IfOk result (λ j. (now : List ℕ) × IsSettled new j now (batch_of (new_journal meta_file) body ∷ []))

-- what `make` does
pub record Makes (old new : View) (conf : Conf) (result : Result MetaState MetaFault) : Type 0 where
  pub keeps : Keeps meta_file old new
  pub calls : MakesCalls old new meta_file (first_calls (meta_item_bytes (Setup conf))) result
  pub counts : CountsFaults (old.faults meta_file) (new.faults meta_file) result
  pub stop : IfErr result IsMakeStop
  pub stands : IfOk result (StandsFor (made_node conf))
  pub journal : IfOk result (λ s. Stands new s.journal)
  pub on_file : (was : List ℕ) → old.shown meta_file ≡ Some was → IfOk result (OnFile new (made_node conf))

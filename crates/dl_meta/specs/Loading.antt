-- A metadata store is loaded from its file.
use Rattle.std.specs.Prelude.{◌≡◌, ◌≢◌, ◌⊎◌, ◌<◌, ◌≤◌, ◌+◌, ℕ, Bool, true, List, [], ◌∷◌, ◌++◌, length, map, take, Option, Some, None, is_some, Result, Ok, Err}
use Rattle.std.specs.Prelude.{IfOk, OnOk, MatchOption}
use Rattle.dl_fields.specs.declared.stop.Stop.{Stop}
use Rattle.dl_depot.specs.View.{View, Keeps}
use Rattle.dl_depot.specs.declared.device_call.DeviceCall.{DeviceCall}
use Rattle.dl_depot.specs.declared.device_call.DeviceCall.TheVariants.{Sync}
use Rattle.dl_journal.specs.Limits.{journal_limit}
use Rattle.dl_journal.specs.declared.batch.Batch.{Batch}
use Rattle.dl_journal.specs.declared.load_fault.LoadFault.{LoadFault}
use Rattle.dl_journal.specs.declared.load_fault.LoadFault.TheVariants as load
use Rattle.dl_journal.specs.Batches.{IsJournal}
use Rattle.dl_journal.specs.Reading.{Breaks}
use Rattle.dl_journal.specs.Settled.{IsSettled, Stands}
use Rattle.dl_tree.specs.Trees.{Nodes}
use Rattle.dl_session.specs.Sessions.{Known}
use Rattle.dl_rules_nodes.specs.Items.{MetaItem, meta_item_bytes}
use Rattle.dl_rules_nodes.specs.Metadata.{Meta, MetaNode, nothing, does, meta_of}
use Rattle.dl_rules_nodes.specs.Reading.{with_place}
use Rattle.dl_rules_nodes.specs.MetaReading.{meta_item_in}
use Rattle.dl_rules_nodes.specs.MetaOrder.{IsDue, AreInOrder, bodies_of}
use Rattle.dl_rules_nodes.specs.Loads.{meta_items_at, loaded_meta}
use Rattle.dl_meta.specs.declared.meta_fault.MetaFault.{MetaFault}
use Rattle.dl_meta.specs.declared.meta_fault.MetaFault.TheVariants as fault
use Rattle.dl_meta.specs.State.{MetaState}
use Rattle.dl_meta.specs.Standing.{meta_file, numbered, batches_of, HoldsItems, StandsFor}
use Rattle.dl_meta.specs.Turns.{CountsFaults}

-- ---- the bodies of the batches

-- the bodies of batches
abbrev pub bodies_in : List Batch → List (List ℕ)
bodies_in batches = map (λ (b : Batch). b.body) batches

-- how many bytes bodies have in a file, each with a gate, a number and a length before it
abbrev pub span : List (List ℕ) → ℕ
span [] = 0
span (body ∷ bodies) = 13 + length body + span bodies

-- a tree and sessions
abbrev pub meta_with : Nodes → Known → Meta
meta_with tree sessions = record { tree = tree; sessions = sessions }

-- the item of a body that ends at this place of the file was read behind others, and done
pub record DoesItem (end : ℕ) (is_first : Bool) (body : List ℕ) (old new : Meta) : Type 0 where
  pub item : MetaItem
  pub read : with_place end (meta_item_in is_first old.sessions body) ≡ Ok item
  pub due : IsDue is_first old.sessions item
  pub spelt : body ≡ meta_item_bytes item
  pub meta : new ≡ does old item

-- The item of a body was read behind others, and done; or the place of its first fault is told, where the body ends at this
-- place of the file.
abbrev pub DoesBody : ℕ → Bool → List ℕ → Meta → Meta → Result (Unit {0}) MetaFault → Type 0
DoesBody end is_first body old new (Ok u) = DoesItem end is_first body old new
DoesBody end is_first body old new (Err (fault.Damaged at)) = with_place end (meta_item_in is_first old.sessions body) ≡ Err at
DoesBody end is_first body old new (Err fault.NoMemory) = Unit {0}
DoesBody end is_first body old new (Err _) = ⊥

-- these bodies were read, and their items done
pub record DoesItems (bodies : List (List ℕ)) (m : Meta) : Type 0 where
  pub items : List MetaItem
  pub read : meta_items_at 8 true nothing [] bodies ≡ Ok items
  pub in_order : AreInOrder items
  pub spelt : bodies ≡ bodies_of items
  pub meta : m ≡ meta_of items

-- all bodies were read, and their items done; or the place of the first fault is told
abbrev pub DoesBodies : List (List ℕ) → Result (Nodes × Known) MetaFault → Type 0
DoesBodies bodies (Ok m) = DoesItems bodies (meta_with m.0 m.1)
DoesBodies bodies (Err (fault.Damaged at)) = meta_items_at 8 true nothing [] bodies ≡ Err at
DoesBodies bodies (Err fault.NoMemory) = Unit {0}
DoesBodies bodies (Err _) = ⊥

-- ---- the file

-- an item of a journal breaks its grammar, or may not come behind the others
pub record BreaksItems (bytes : List ℕ) (at : ℕ) : Type 0 where
  pub batches : List Batch
  pub first : ℕ
  pub in_force : IsJournal bytes (numbered first (bodies_in batches))
  pub broken : loaded_meta first (bodies_in batches) ≡ Err at

-- the first byte of a file that isn't empty and breaks the grammar: a break of the journal's layout comes first
abbrev pub IsDamagedAt : List ℕ → ℕ → Type 0
IsDamagedAt bytes at = (bytes ≢ []) × (Breaks bytes at ⊎ BreaksItems bytes at)

-- a file that is empty, or a journal without a batch in force
abbrev pub HoldsNone : List ℕ → Type 0
HoldsNone bytes = (bytes ≡ []) ⊎ IsJournal bytes []

-- the fault of a store whose journal wasn't loaded
abbrev pub fault_of : LoadFault → MetaFault
fault_of (load.Damaged at) = fault.Damaged at
fault_of (load.TooLarge size) = fault.TooLarge size
fault_of load.Device = fault.Device
fault_of load.NoMemory = fault.NoMemory

-- a store that was loaded from these bytes
pub record IsFrom (v : View) (bytes : List ℕ) (s : MetaState) : Type 0 where
  pub node : MetaNode
  pub stands : StandsFor node s
  pub settled : IsSettled v s.journal bytes (batches_of node)

-- what loading these bytes answers
abbrev pub AnswersLoad : View → List ℕ → Result (Option MetaState) MetaFault → Type 0
AnswersLoad v bytes (Ok None) = HoldsNone bytes
AnswersLoad v bytes (Ok (Some s)) = IsFrom v bytes s
AnswersLoad v bytes (Err (fault.Damaged at)) = (length bytes ≤ journal_limit) × IsDamagedAt bytes at
AnswersLoad v bytes (Err (fault.TooLarge size)) = (journal_limit < size) × (size ≡ length bytes)
AnswersLoad v bytes (Err fault.Device) = Unit {0}
AnswersLoad v bytes (Err fault.NoMemory) = Unit {0}
AnswersLoad v bytes (Err fault.Failed) = ⊥
AnswersLoad v bytes (Err fault.Full) = ⊥

-- a store stands for some node, also where bytes aren't told
pub record IsStanding (v : View) (s : MetaState) : Type 0 where
  pub node : MetaNode
  pub stands : StandsFor node s
  pub journal : Stands v s.journal

-- what `load` does
pub record Loads (old new : View) (result : Result (Option MetaState) MetaFault) : Type 0 where
  pub keeps : Keeps meta_file old new
  -- nothing is left that wasn't left before
  pub images : (t : ℕ) (c : List ℕ) → old.moment ≤ t → t ≤ new.moment → new.image meta_file t c → old.image meta_file old.moment c
  pub counts : CountsFaults (old.faults meta_file) (new.faults meta_file) result
  pub calls : (calls : List DeviceCall) → old.calls meta_file ≡ Some calls → (n : ℕ) × (new.calls meta_file ≡ Some (calls ++ take n (Sync ∷ [])))
  pub unset : old.fuse meta_file ≡ Some None → new.fuse meta_file ≡ Some None
  pub answers : (bytes : List ℕ) → old.shown meta_file ≡ Some bytes → AnswersLoad new bytes result
  pub standing : IfOk result (λ o. MatchOption o (Unit {0}) (IsStanding new))

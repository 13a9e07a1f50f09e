-- What the parts of a call do, by what the store keeps alone.
use Rattle.std.specs.Prelude.{◌≡◌, ℕ, ◌<◌, ◌≤◌, List, [], ◌∷◌, ◌++◌, Result, Ok, Err}
use Rattle.dl_depot.specs.View.{View}
use Rattle.dl_journal.specs.declared.commit_fault.CommitFault.TheVariants as commit
use Rattle.dl_journal.specs.State.{JournalState}
use Rattle.dl_journal.specs.Commits.{Committed, spare_of}
use Rattle.dl_rules_nodes.specs.Items.{MetaItem, meta_item_bytes, meta_item_length}
use Rattle.dl_rules_nodes.specs.Metadata.{does}
use Rattle.dl_meta.specs.declared.meta_fault.MetaFault.{MetaFault}
use Rattle.dl_meta.specs.declared.meta_fault.MetaFault.TheVariants as fault
use Rattle.dl_meta.specs.State.{MetaState, meta_in}
use Rattle.dl_meta.specs.Turns.{Rests}

-- twelve bytes, into which a journal puts number and length
abbrev pub blank : List ℕ
blank = 0 ∷ 0 ∷ 0 ∷ 0 ∷ 0 ∷ 0 ∷ 0 ∷ 0 ∷ 0 ∷ 0 ∷ 0 ∷ 0 ∷ []

-- a journal's frame with this body
abbrev pub framed : List ℕ → List ℕ
framed body = blank ++ (body ++ 0 ∷ [])

-- what a commit of a body does, where the journal had not failed
abbrev pub CommitsBody : View → View → JournalState → JournalState → List ℕ → Result (Unit {0}) MetaFault → Type 0
CommitsBody old new j k body (Ok u) = Committed old new j k body (Ok u)
CommitsBody old new j k body (Err fault.Device) = Committed old new j k body (Err commit.Device)
CommitsBody old new j k body (Err _) = ⊥

-- an item is committed, the store does what it says, and this is the answer
pub record IsStored {A : Type 0} (old new : View) (before after : MetaState) (x : MetaItem) (answer given : A) : Type 0 where
  pub answer_is : given ≡ answer
  pub meta : meta_in after ≡ does (meta_in before) x
  pub committed : Committed old new before.journal after.journal (meta_item_bytes x) (Ok tt)

-- what storing an item answers and does
abbrev pub Stores : {A : Type 0} → View → View → Type 0 → MetaState → MetaState → MetaItem → A → Result A MetaFault → Type 0
Stores old new Idle before after x answer (Ok given) = IsStored old new before after x answer given
Stores old new Idle before after x answer (Err fault.Device) = Committed old new before.journal after.journal (meta_item_bytes x) (Err commit.Device)
Stores old new Idle before after x answer (Err fault.NoMemory) = Rests Idle before after
Stores old new Idle before after x answer (Err _) = ⊥

-- the same, after a test of the room
pub record Runs {A : Type 0} (old new : View) (Idle : Type 0) (before after : MetaState) (x : MetaItem) (answer : A)
    (result : Result A MetaFault) : Type 0 where
  pub room : meta_item_length x ≤ spare_of before.journal → Stores old new Idle before after x answer result
  pub full : spare_of before.journal < meta_item_length x → (result ≡ Err fault.Full) × Rests Idle before after

-- What holds of journals: their bytes are read in one way, and work beside a journal leaves it as it stands.
use Rattle.std.specs.Prelude.{◌≡◌, ◌≢◌, ◌+◌, ℕ, List, ◌∷◌, ◌++◌, length, take, drop, Bool}
use Rattle.dl_depot.specs.View.{View, Keeps}
use Rattle.dl_depot.specs.Stops.{FuseSet, Revived}
use Rattle.dl_depot.specs.declared.fuse.Outcome.{Outcome}
use Rattle.dl_journal.specs.declared.batch.Batch.{Batch}
use Rattle.dl_journal.specs.Limits.{gate_size, head_size}
use Rattle.dl_journal.specs.Batches.{InRow, Spells, InForce}
use Rattle.dl_journal.specs.Reading.{Breaks}
use Rattle.dl_journal.specs.State.{JournalState}
use Rattle.dl_journal.specs.Settled.{IsSettled, Stands}

-- bytes have one list of batches in force
abbrev pub OneList : Type 0
OneList = (bytes : List ℕ) (x y : List Batch) → InForce bytes x → InForce bytes y → x ≡ y

-- bytes with batches in force break nothing
abbrev pub NotBoth : Type 0
NotBoth = (bytes : List ℕ) (x : List Batch) (at : ℕ) → InForce bytes x → Breaks bytes at → ⊥

-- the first broken part has one place
abbrev pub OnePlace : Type 0
OnePlace = (bytes : List ℕ) (m n : ℕ) → Breaks bytes m → Breaks bytes n → m ≡ n

-- a body stands in the file where `body_place` told it to begin, when the batches before it were in force
abbrev pub BodyInPlace : Type 0
BodyInPlace =
    (bytes : List ℕ) (gate next : ℕ) (before : List Batch) (batch : Batch) (later : List Batch) → InRow gate next before
    → Spells bytes (before ++ batch ∷ later)
    → take (length batch.body) (drop (gate + gate_size + head_size) bytes) ≡ batch.body

-- what a journal stood for it stands for still
pub record StandsOn (old new : View) (j : JournalState) : Type 0 where
  pub settled : (bytes : List ℕ) (batches : List Batch) → IsSettled old j bytes batches → IsSettled new j bytes batches
  pub stands : Stands old j → Stands new j

-- work on another file leaves a journal as it stands, and so does a fuse that is set on a file or taken away
pub record LeavesStanding (old new : View) : Type 0 where
  pub other : (j : JournalState) (g : ℕ) → j.file ≢ g → Keeps g old new → StandsOn old new j
  pub fused : (j : JournalState) (g calls : ℕ) (outcome : Outcome) → FuseSet old new g calls outcome → StandsOn old new j
  pub revived : (j : JournalState) (g : ℕ) (stopped : Bool) → Revived old new g stopped → StandsOn old new j

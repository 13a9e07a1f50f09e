-- Where the bytes of a file are no journal, and what reading them gives.
use Rattle.std.specs.Prelude.{◌≡◌, ◌≢◌, ◌≤◌, ◌<◌, ◌+◌, ◌^◌, ◌⊎◌, ℕ, List, [], ◌∷◌, ◌++◌, length, take, drop}
use Rattle.std.specs.Prelude.{Option, Some, None, Bool, true, false, ◌==◌, ◌&&◌, nat_le, Result, Ok, Err, ⊤}
use Rattle.std.specs.Int.{w32, w64, from_be_bytes}
use Rattle.dl_journal.specs.declared.batch.Batch.{Batch}
use Rattle.dl_journal.specs.declared.load_fault.LoadFault.{LoadFault}
use Rattle.dl_journal.specs.declared.load_fault.LoadFault.TheVariants.{Damaged, TooLarge, Device, NoMemory}
use Rattle.dl_journal.specs.Limits.{last_number, number_size, length_size, head_size, gate_size}
use Rattle.dl_journal.specs.Batches.{magic, frame_of, spell, Runs, InRow, Spells}

-- the number that bytes begin with
unfoldable pub number_of : List ℕ → ℕ
number_of bytes = from_be_bytes w64 (take number_size bytes)

-- the length behind it
unfoldable pub size_of : List ℕ → ℕ
size_of bytes = from_be_bytes w32 (take length_size (drop number_size bytes))

-- the number that must come next, behind batches of which the first has this one: any behind none
abbrev pub due_of : ℕ → List Batch → Option ℕ
due_of first [] = None
due_of first (b ∷ bs) = Some (first + length (b ∷ bs))

-- a number may come where this one must; none may be above the last one
abbrev pub is_due : Option ℕ → ℕ → Bool
is_due None n = nat_le n last_number
is_due (Some d) n = (n == d) && nat_le n last_number

-- behind an open gate the number is cut short, or may not come there
pub record BadNumber (due : Option ℕ) (more : List ℕ) : Type 0 where
  pub bad : (length more < number_size) ⊎ (is_due due (number_of more) ≡ false)

-- behind a good number the length is cut short, or passes the file's end
pub record BadLength (due : Option ℕ) (more : List ℕ) : Type 0 where
  pub whole : number_size ≤ length more
  pub number : is_due due (number_of more) ≡ true
  pub bad : (length more < head_size) ⊎ (length more < head_size + size_of more)

-- so many bytes behind an open gate the first broken part begins
abbrev pub Fault : Option ℕ → List ℕ → ℕ → Type 0
Fault due more place = (BadNumber due more × (place ≡ 0)) ⊎ (BadLength due more × (place ≡ number_size))

-- behind some batches in a row the gate is missing, or the next batch breaks the layout
pub record IsBroken (bytes : List ℕ) (at : ℕ) : Type 0 where
  pub first : ℕ
  pub batches : List Batch
  pub runs : Runs first batches
  pub rest : List ℕ
  pub spelled : bytes ≡ magic ++ (spell batches ++ rest)
  pub fault : ((rest ≡ []) × (at ≡ length magic + length (spell batches)))
      ⊎ ((more : List ℕ) × (rest ≡ 1 ∷ more) × ((place : ℕ) × Fault (due_of first batches) more place
      × (at ≡ length magic + length (spell batches) + gate_size + place)))

-- the first broken part of these bytes begins at this place
abbrev pub Breaks : List ℕ → ℕ → Type 0
Breaks bytes at = ((take (length magic) bytes ≢ magic) × (at ≡ 0)) ⊎ IsBroken bytes at

-- a batch stands behind an open gate
pub record IsFramed (due : Option ℕ) (more : List ℕ) (b : Batch) : Type 0 where
  pub number : is_due due b.number ≡ true
  pub short : length b.body < 2 ^ 32
  pub spelled : more ≡ frame_of b.number b.body ++ drop (head_size + length b.body) more

-- what is read behind an open gate, where the bytes behind it begin at this place
abbrev pub ReadsBatch : Option ℕ → List ℕ → ℕ → Result Batch LoadFault → Type 0
ReadsBatch due more at (Ok b) = IsFramed due more b
ReadsBatch due more at (Err (Damaged n)) = (place : ℕ) × Fault due more place × (n ≡ at + place)
ReadsBatch due more at (Err (TooLarge n)) = ⊥
ReadsBatch due more at (Err Device) = ⊥
ReadsBatch due more at (Err NoMemory) = ⊤

-- batches in a row, the number behind them and the place of a shut gate
pub record Holds (bytes : List ℕ) (batches : List Batch) (gate next : ℕ) : Type 0 where
  pub in_row : InRow gate next batches
  pub spells : Spells bytes batches

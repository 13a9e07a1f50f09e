-- What the bytes of a journal file stand for.
use Rattle.std.specs.Prelude.{◌≡◌, ◌≢◌, ◌≤◌, ◌<◌, ◌+◌, ◌^◌, ◌⊎◌, ℕ, List, [], ◌∷◌, ◌++◌, length, ⊤}
use Rattle.std.specs.Int.{w32, w64, to_be_bytes}
use Rattle.dl_journal.specs.declared.batch.Batch.{Batch}
use Rattle.dl_journal.specs.Limits.{journal_limit, last_number}

-- DLJRNL01
abbrev pub magic : List ℕ
magic = 68 ∷ 76 ∷ 74 ∷ 82 ∷ 78 ∷ 76 ∷ 48 ∷ 49 ∷ []

-- a number, the length of a body, and the body
unfoldable pub frame_of : ℕ → List ℕ → List ℕ
frame_of number body = to_be_bytes w64 number ++ (to_be_bytes w32 (length body) ++ body)

-- batches behind open gates
abbrev pub spell : List Batch → List ℕ
spell [] = []
spell (b ∷ bs) = 1 ∷ (frame_of b.number b.body ++ spell bs)

-- the first number is this one, and each next one is greater by one; numbers and lengths are in range
abbrev pub Runs : ℕ → List Batch → Type 0
Runs first [] = ⊤
Runs first (b ∷ bs) = (b.number ≡ first) × ((first ≤ last_number) × ((length b.body < 2 ^ 32) × Runs (first + 1) bs))

-- These batches run in a row, `next` is the number behind them, and the shut gate stands at `gate`: behind their
-- spelling, in a file within the limit.
pub record InRow (gate next : ℕ) (batches : List Batch) : Type 0 where
  pub first : ℕ
  pub runs : Runs first batches
  pub follows : next ≡ first + length batches
  pub place : gate ≡ length magic + length (spell batches)
  pub below : gate < journal_limit

-- the magic, these batches behind open gates, a gate that isn't open, and free bytes
pub record Spells (bytes : List ℕ) (batches : List Batch) : Type 0 where
  pub gate : ℕ
  pub shut : gate ≢ 1
  pub free : List ℕ
  pub spelled : bytes ≡ magic ++ (spell batches ++ gate ∷ free)

-- the batches in force are those before the first gate that isn't 1
pub record InForce (bytes : List ℕ) (batches : List Batch) : Type 0 where
  pub first : ℕ
  pub runs : Runs first batches
  pub spells : Spells bytes batches

-- a file that a load takes: no more bytes than a journal may have, with these batches in force
pub record IsJournal (bytes : List ℕ) (batches : List Batch) : Type 0 where
  pub fits : length bytes ≤ journal_limit
  pub in_force : InForce bytes batches

-- the batches before, with the new one or without
abbrev pub BeforeOrAfter : List Batch → Batch → List ℕ → Type 0
BeforeOrAfter batches batch bytes = IsJournal bytes batches ⊎ IsJournal bytes (batches ++ batch ∷ [])

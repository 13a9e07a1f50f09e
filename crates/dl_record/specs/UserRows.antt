-- A user row of an entry.
use Rattle.std.specs.Prelude.{ℕ, List}

-- its slot among the rows of the entry, its transaction id, and its payload
pub record RowOf : Type 0 where
  pub slot : ℕ
  pub txid : ℕ
  pub payload : List ℕ

-- the row of a slot
abbrev pub row_of : (slot txid : ℕ) → List ℕ → RowOf
row_of slot txid payload = record { slot = slot; txid = txid; payload = payload }

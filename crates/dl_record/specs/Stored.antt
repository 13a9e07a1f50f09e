-- What a stored record holds.
use Rattle.std.specs.Prelude.{ℕ, List, [], ◌∷◌, length}
use Rattle.dl_record.specs.declared.stored.Stored.{Stored}
use Rattle.dl_record.specs.declared.stored.Stored.TheVariants.{Plain, Control, Set}

-- the count of the user rows of the segment before it
abbrev pub position_of : Stored → ℕ
position_of (Plain position txid payload) = position
position_of (Control position txid) = position
position_of (Set position txid payloads) = position

-- its transaction id
abbrev pub txid_of : Stored → ℕ
txid_of (Plain position txid payload) = txid
txid_of (Control position txid) = txid
txid_of (Set position txid payloads) = txid

-- the payloads of its user rows, in order
abbrev pub payloads_of : Stored → List (List ℕ)
payloads_of (Plain position txid payload) = payload ∷ []
payloads_of (Control position txid) = []
payloads_of (Set position txid payloads) = payloads

-- how many user rows it holds
abbrev pub rows_in : Stored → ℕ
rows_in r = length (payloads_of r)

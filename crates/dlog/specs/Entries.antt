-- How an entry keeps its rows.
use Rattle.std.specs.Prelude.{◌≡◌, ℕ, ◌+◌, ◌≤◌, List, [], ◌∷◌, length, take, drop}
use Rattle.dl_types.specs.declared.row.Row.{Row}
use Rattle.dl_types.specs.declared.entry_bytes.TheConstants.{MAX_ENTRY}
use Rattle.dl_transcript.specs.declared.event.Event.{Event}
use Rattle.dl_transcript.specs.declared.event.Event.TheVariants.{Ack}
use Rattle.dlog.specs.declared.entry.Head.{Head}
use Rattle.dlog.specs.Machine.{entry_size}

-- a row of this head with this payload
abbrev pub row_of : Head → List ℕ → Row
row_of h payload = record { place = h.place; txid = h.txid; payload = payload; origin = h.origin }

-- the rows of these heads, whose payloads stand one behind the other in these bytes
abbrev pub rows_of : List Head → List ℕ → List Row
rows_of [] bytes = []
rows_of (h ∷ heads) bytes = row_of h (take h.length bytes) ∷ rows_of heads (drop h.length bytes)

-- how many bytes the payloads of these heads have
abbrev pub payload_bytes : List Head → ℕ
payload_bytes [] = 0
payload_bytes (h ∷ heads) = h.length + payload_bytes heads

-- the row of a head is acknowledged
abbrev pub head_ack : Head → Event
head_ack h = Ack h.origin.client h.origin.call h.place

-- The bytes are the payloads of the heads, and so many bytes have the rows as an entry, no more than an entry may have.
pub record IsPacked (size : ℕ) (heads : List Head) (bytes : List ℕ) : Type 0 where
  pub whole : payload_bytes heads ≡ length bytes
  pub size_is : size ≡ entry_size (rows_of heads bytes)
  pub within : size ≤ MAX_ENTRY

-- The parts of small transcripts by which it is shown that each rule binds.
use Rattle.std.specs.Prelude.{ℕ, List, [], ◌∷◌, ◌++◌, Option, codes}
use Rattle.dl_types.specs.declared.dlsn.Dlsn.{Dlsn}
use Rattle.dl_types.specs.declared.read_row.ReadRow.{ReadRow}
use Rattle.dl_types.specs.declared.refusal.Refusal.{Refusal}
use Rattle.dl_types.specs.declared.refusal.Refusal.TheVariants as refusal
use Rattle.dl_types.specs.Places.{place, first_place}
use Rattle.dl_transcript.specs.declared.event.Event.{Event}
use Rattle.dl_transcript.specs.declared.event.Event.TheVariants.{Took, Grow, Ack, Committed, Closed, Recovered, Point, OpenedAt, OpenedFrom, Reading, Rows}
use Rattle.dl_transcript.specs.declared.event.Event.TheVariants.{Refused}
use Rattle.dl_transcript.specs.Lines.{at_line}
use Rattle.dl_transcript.specs.Legal.{fault_of}

-- the first fault of these events, all on one line
abbrev pub fault_among : List Event → Option ℕ
fault_among events = fault_of (at_line 1 events)

-- one stream
abbrev pub stream_s : List ℕ
stream_s = codes "s"

-- another one
abbrev pub stream_t : List ℕ
stream_t = codes "t"

-- client 0 appended record n to the stream s, with an id and one byte
abbrev pub append_event : ℕ → ℕ → ℕ → Event
append_event n txid byte = Took 0 n stream_s txid (byte ∷ [])

-- record n of client 0 stands in the stream s at this place
abbrev pub row_event : Dlsn → ℕ → ℕ → ℕ → Event
row_event d n txid byte = Grow stream_s d txid 0 n (byte ∷ [])

-- record n of client 0 stands in the stream s at a slot of the first entry
abbrev pub grow_event : ℕ → ℕ → ℕ → ℕ → Event
grow_event slot n txid byte = row_event (place 1 0 slot) n txid byte

-- record n of client 0 is acknowledged at a slot of the first entry
abbrev pub ack_event : ℕ → ℕ → Event
ack_event slot n = Ack 0 n (place 1 0 slot)

-- two rows stand in the first entry of the stream s: a with the id 5, and b with the id 6
abbrev pub two_rows : List Event
two_rows = append_event 1 5 97 ∷ append_event 2 6 98 ∷ grow_event 0 1 5 97 ∷ grow_event 1 2 6 98 ∷ []

-- the first of them, as it is read
abbrev pub row_a : ReadRow
row_a = record { place = place 1 0 0; txid = 5; payload = 97 ∷ [] }

-- and the second
abbrev pub row_b : ReadRow
row_b = record { place = place 1 0 1; txid = 6; payload = 98 ∷ [] }

-- client 0 reads the stream s from this place on
abbrev pub read_at : Dlsn → List Event
read_at d = OpenedAt 0 stream_s d ∷ Reading 0 stream_s ∷ []

-- client 0 reads the stream s from its point on, from this id on
abbrev pub read_from : ℕ → List Event
read_from txid = OpenedFrom 0 stream_s txid ∷ Reading 0 stream_s ∷ []

-- client 0 is given these rows of the stream s
abbrev pub rows_event : List ReadRow → Event
rows_event rows = Rows 0 stream_s rows

-- the first segment of the stream s is closed, and its point moved to this slot of the first entry
abbrev pub point_at : ℕ → List Event
point_at slot = Closed stream_s 1 ∷ Point stream_s (place 1 0 slot) ∷ []

-- the client's read is refused since the point has passed it, which is this now
abbrev pub passed_event : Dlsn → Event
passed_event d = Refused 0 (refusal.Truncated d)

-- a read of client 0 begins, this client is refused so, and a read of client 0 begins again: the fault of that, where the
-- first one is still under way
abbrev pub fault_after_refusal : ℕ → Refusal → Option ℕ
fault_after_refusal c why = fault_among (read_at first_place ++ Refused c why ∷ Reading 0 stream_s ∷ [])

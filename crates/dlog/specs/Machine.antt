-- The plain machine: one stream that a client writes, kept as plain lists, without bookies and without a network.
use Rattle.std.specs.Prelude.{ℕ, ◌+◌, ◌<◌, Bool, nat_le, nat_lt, ◌==◌, if◌then◌else◌, List, [], ◌∷◌, ◌++◌, length, map, sum_by, Option, Some, None, IfSome}
use Rattle.std.specs.List.{flat_map}
use Rattle.dl_types.specs.declared.entry_bytes.TheConstants.{MAX_ENTRY}
use Rattle.dl_types.specs.declared.payload.TheConstants.{MAX_PAYLOAD}
use Rattle.dl_types.specs.declared.row.Row.{Row}
use Rattle.dl_types.specs.declared.refusal.Refusal.TheVariants.{TxidBack, TooLong, WindowFull}
use Rattle.dl_types.specs.Places.{place}
use Rattle.dl_schedule.specs.declared.step.Step.{Step}
use Rattle.dl_schedule.specs.declared.step.Step.TheVariants as step
use Rattle.dl_transcript.specs.declared.event.Event.{Event}
use Rattle.dl_transcript.specs.declared.event.Event.TheVariants.{Joined, Created, Writer, Took, Sent, Grow, Ack, Refused, Nothing}
use Rattle.dlog.specs.declared.order.Order.{Order}
use Rattle.dlog.specs.declared.order.Order.TheVariants as order

-- the most entries that may be sent and unconfirmed
abbrev pub window : ℕ
window = 64

-- the segment that the one writer writes
abbrev pub segment : ℕ
segment = 1

-- the bytes of a record: a header, and its payload
abbrev pub record_size : ℕ → ℕ
record_size bytes = 20 + bytes

-- the bytes of an entry: a header, and its records
abbrev pub entry_size : List Row → ℕ
entry_size rows = 8 + sum_by (λ (r : Row). record_size (length r.payload)) rows

-- a log that a client writes: how many records were taken, and the id of the last one (0 before the first); how many
-- entries were sent; the rows of those sent and not confirmed, entry by entry; the rows of the entry under way
pub record Log : Type 0 where
  pub client : ℕ
  pub stream : List ℕ
  pub taken : ℕ
  pub last : ℕ
  pub sent : ℕ
  pub waiting : List (List Row)
  pub filling : List Row

-- the sessions that were given, from 1; the order under way; the log that was opened
pub record State : Type 0 where
  pub sessions : ℕ
  pub order : Option Order
  pub log : Option Log

-- the machine before the first step
abbrev pub start : State
start = record { sessions = 0; order = None; log = None }

-- a log into which nothing was taken yet
abbrev pub new_log : ℕ → List ℕ → Log
new_log client stream = record { client = client; stream = stream; taken = 0; last = 0; sent = 0; waiting = []; filling = [] }

-- the row that the next record becomes
abbrev pub next_row : Log → ℕ → List ℕ → Row
next_row g txid payload = record {
  place = place segment g.sent (length g.filling);
  txid = txid;
  payload = payload;
  origin = record { client = g.client; call = g.taken + 1 };
}

-- what an act leaves, and what it shows
abbrev pub Effect : Type 0 → Type 0
Effect A = A × List Event

-- the record is taken into the entry under way
unfoldable pub take : Log → ℕ → List ℕ → Effect Log
take g txid payload = (
  record g { taken = g.taken + 1; last = txid; filling = g.filling ++ next_row g txid payload ∷ [] },
  Took g.client (g.taken + 1) g.stream txid payload ∷ [],
)

-- the entry under way is sent
unfoldable pub send : Log → Effect Log
send g = (
  record g { sent = g.sent + 1; waiting = g.waiting ++ g.filling ∷ []; filling = [] },
  Sent g.client segment g.sent ∷ [],
)

-- the entry under way is sent first, and the record begins the next one
unfoldable pub send_and_take : Log → ℕ → List ℕ → Effect Log
send_and_take g txid payload = ((take (send g).0 txid payload).0, (send g).1 ++ (take (send g).0 txid payload).1)

-- the record fits the entry under way
abbrev pub fits : Log → List ℕ → Bool
fits g payload = nat_le (entry_size g.filling + record_size (length payload)) MAX_ENTRY

-- no further entry may be sent
abbrev pub is_window_full : Log → Bool
is_window_full g = nat_le window (length g.waiting)

-- a record is refused as too long, then as going back, then because the entry under way would have to be sent while
-- the window is full
unfoldable pub append : Log → ℕ → List ℕ → Effect Log
append g txid payload =
    if nat_lt MAX_PAYLOAD (length payload) then (g, Refused g.client (TooLong (length payload)) ∷ [])
    else if nat_lt txid g.last then (g, Refused g.client (TxidBack g.last txid) ∷ [])
    else if fits g payload then take g txid payload
    else if is_window_full g then (g, Refused g.client WindowFull ∷ [])
    else send_and_take g txid payload

-- the entry under way is sent, where it has a record and the window isn't full
unfoldable pub flush : Log → Effect Log
flush g =
    if length g.filling == 0 then (g, Nothing ∷ [])
    else if is_window_full g then (g, Refused g.client WindowFull ∷ [])
    else send g

-- a row stands in its stream; its client is told so
abbrev pub grow : List ℕ → Row → Event
grow stream r = Grow stream r.place r.txid r.origin.client r.origin.call r.payload

-- a row is acknowledged
abbrev pub ack : Row → Event
ack r = Ack r.origin.client r.origin.call r.place

-- an entry is confirmed: its rows grow by place, and then they are acknowledged by place
abbrev pub entry_events : List ℕ → List Row → List Event
entry_events stream rows = map (grow stream) rows ++ map ack rows

-- each entry that was sent is confirmed, in order
unfoldable pub confirm : Log → Effect Log
confirm g = (record g { waiting = [] }, flat_map (entry_events g.stream) g.waiting)

-- an act of the log that was opened; without one the machine stays and shows this
abbrev pub on_log : (Log → Effect Log) → List Event → State → Option Log → Effect State
on_log f other s None = (s, other)
on_log f other s (Some g) = (record s { log = Some (f g).0 }, (f g).1)

-- the order under way ends well
abbrev pub finish : State → Option Order → Effect State
finish s None = (s, [])
finish s (Some (order.Create c stream)) = (record s { order = None }, Created c stream ∷ [])
finish s (Some (order.Open c stream)) = (record s { order = None; log = Some (new_log c stream) }, Writer c stream segment ∷ [])

-- the order under way ends, and then the entries that were sent are confirmed
unfoldable pub settle : State → Effect State
settle s =
    let now = finish s s.order in
    ((on_log confirm [] now.0 now.0.log).0, now.1 ++ (on_log confirm [] now.0 now.0.log).1)

-- one step, and what it shows; a step that no early schedule has changes nothing
unfoldable pub one : State → Step → Effect State
one s (step.Join c) = (record s { sessions = s.sessions + 1 }, Joined c (s.sessions + 1) ∷ [])
one s (step.Create c stream) = (record s { order = Some (order.Create c stream) }, [])
one s (step.Open c stream) = (record s { order = Some (order.Open c stream) }, [])
one s (step.Append c txid payload) = on_log (λ g. append g txid payload) (Nothing ∷ []) s s.log
one s (step.Flush c) = on_log flush (Nothing ∷ []) s s.log
one s step.Settle = settle s
one s _ = (s, [])

-- no count of the log has reached this number
pub record LogWithin (n : ℕ) (g : Log) : Type 0 where
  pub taken : g.taken < n
  pub sent : g.sent < n

-- no count of the machine has reached this number, as is so before the step of this number
pub record Within (n : ℕ) (s : State) : Type 0 where
  pub sessions : s.sessions < n
  pub log : IfSome s.log (LogWithin n)

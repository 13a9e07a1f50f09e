-- How streams grow: the rows of entries that are confirmed, or that a closed ledger keeps, each once and in order; and what a
-- request that ran shows at the metadata node.
use Rattle.std.specs.Prelude.{ℕ, ◌-◌, max, Bool, true, false, if◌then◌else◌, ◌==◌, List, [], ◌∷◌, ◌++◌, map, take, drop, flat_map, filter_map, Option, Some}
use Rattle.std.specs.Prelude.{None, Result, Ok, Err, bytes_eq}
use Rattle.std.specs.FinMap.{get, keys}
use Rattle.dl_types.specs.declared.meta_answer.MetaAnswer.{MetaAnswer}
use Rattle.dl_types.specs.declared.meta_answer.MetaAnswer.TheVariants as answer
use Rattle.dl_types.specs.declared.meta_op.MetaOp.{MetaOp}
use Rattle.dl_types.specs.declared.meta_op.MetaOp.TheVariants as op
use Rattle.dl_types.specs.declared.one_op.OneOp.{OneOp}
use Rattle.dl_types.specs.declared.one_op.OneOp.TheVariants.{Create, Delete, Set, Check, Get, Children}
use Rattle.dl_types.specs.declared.row.Row.{Row}
use Rattle.dl_tree.specs.declared.node.Node.{Node}
use Rattle.dl_tree.specs.Trees.{Nodes}
use Rattle.dl_formats.specs.declared.cut.Cut.{Cut}
use Rattle.dl_formats.specs.declared.fault.MetaBytesFault.{MetaBytesFault}
use Rattle.dl_formats.specs.declared.ledger.LedgerState.{LedgerState}
use Rattle.dl_formats.specs.declared.ledger.LedgerState.TheVariants.{Writing, Recovering, Closed}
use Rattle.dl_formats.specs.declared.segment.SegmentMeta.{SegmentMeta}
use Rattle.dl_formats.specs.declared.segment.SegmentMeta.TheVariants.{InProgress, Completed}
use Rattle.dl_formats.specs.Keys as key
use Rattle.dl_formats.specs.Keys.{path_of}
use Rattle.dl_formats.specs.Reading.{ledger_at, segment_at, cut_at}
use Rattle.dl_transcript.specs.declared.event.Event.{Event}
use Rattle.dl_transcript.specs.declared.event.Event.TheVariants as event
use Rattle.dl_rules_client.specs.Acts.{SentEntry, Confirmation}
use Rattle.dl_machine.specs.States.{State, LedgerSeen, Outcome, with_value, quietly, then_shows, and_then}

-- ---- rows

-- a row of a stream grows
abbrev pub grow_event : List ℕ → Row → Event
grow_event stream r = event.Grow stream r.place r.txid r.origin.client r.origin.call r.payload

-- the rows of entries grow, in order
abbrev pub grow_events : List SentEntry → List Event
grow_events entries = flat_map (λ (x : SentEntry). map (grow_event x.stream) x.rows) entries

-- the entries from the grown count up to n
abbrev pub entries_to_grow : LedgerSeen → ℕ → List SentEntry
entries_to_grow g n = take (n - g.grown) (drop g.grown g.sent)

-- a ledger that has grown to n, unless it is further
abbrev pub grown_to : LedgerSeen → ℕ → LedgerSeen
grown_to g n = record g { grown = max g.grown n }

-- a ledger that is now this one
abbrev pub with_ledger : State → ℕ → LedgerSeen → State
with_ledger s l g = record s { ledgers = with_value s.ledgers l g }

-- a ledger grows to n
abbrev pub grows : State → ℕ → ℕ → Outcome
grows s l n = record { state = with_ledger s l (grown_to (s.ledgers l) n); events = grow_events (entries_to_grow (s.ledgers l) n) }

-- a ledger of which an entry more was sent
abbrev pub with_entry : LedgerSeen → SentEntry → LedgerSeen
with_entry g x = record g { sent = g.sent ++ x ∷ [] }

-- the entry that a client sent, where it sent one
abbrev pub with_sent : State → Option SentEntry → State
with_sent s None = s
with_sent s (Some x) = with_ledger s x.ledger (with_entry (s.ledgers x.ledger) x)

-- what a writer has confirmed grows
abbrev pub confirms : State → Option Confirmation → Outcome
confirms s None = quietly s
confirms s (Some x) = grows s x.ledger x.count

-- ---- paths of streams

-- a byte in front of the first part
abbrev pub onto_part : ℕ → List (List ℕ) → List (List ℕ)
onto_part b [] = (b ∷ []) ∷ []
onto_part b (part ∷ parts) = (b ∷ part) ∷ parts

-- the parts of a path, behind the empty one before its first slash
abbrev pub parts_in : List ℕ → List (List ℕ)
parts_in [] = []
parts_in (b ∷ bytes) = if b == 47 then [] ∷ parts_in bytes else onto_part b (parts_in bytes)

-- the stream of these parts of a path, where it is the path of this one of the stream's nodes
abbrev pub stream_by : (List ℕ → key.Key) → List ℕ → List (List ℕ) → Option (List ℕ)
stream_by node path (before ∷ top ∷ stream ∷ more) = if bytes_eq (path_of (node stream)) path then Some stream else None
stream_by node path parts = None

-- the stream of whose nodes a path names this one, where it does
abbrev pub stream_in : (List ℕ → key.Key) → List ℕ → Option (List ℕ)
stream_in node path = stream_by node path (parts_in path)

-- ---- closings

-- A segment in progress whose ledger a request closed at a count.
pub record Closing : Type 0 where
  pub stream : List ℕ
  pub segment : ℕ
  pub ledger : ℕ
  pub count : ℕ

-- a segment of a stream, whose ledger this is, where the ledger's node has this path
abbrev pub closing_of : List ℕ → ℕ → Option (List ℕ) → (segment ledger : ℕ) → Option Closing
closing_of ledger_path count None segment ledger = None
closing_of ledger_path count (Some stream) segment ledger =
    if bytes_eq (path_of (key.Ledger ledger)) ledger_path
    then Some (record { stream = stream; segment = segment; ledger = ledger; count = count })
    else None

-- what a node's bytes say of it
abbrev pub closing_by : List ℕ → ℕ → List ℕ → Result SegmentMeta MetaBytesFault → Option Closing
closing_by ledger_path count path (Ok (InProgress segment ledger)) =
    closing_of ledger_path count (stream_in (λ s. key.Progress s segment) path) segment ledger
closing_by ledger_path count path (Ok (Completed segment ledger entries rows last)) = None
closing_by ledger_path count path (Err fault) = None

-- what a node says of it, where there is one at a path
abbrev pub closing_at : List ℕ → ℕ → List ℕ → Option Node → Option Closing
closing_at ledger_path count path None = None
closing_at ledger_path count path (Some n) = closing_by ledger_path count path (segment_at n.bytes)

-- the first of a list
abbrev pub first_in : {A : Type 0} → List A → Option A
first_in [] = None
first_in (x ∷ xs) = Some x

-- the segment in progress whose ledger has its node at this path
abbrev pub closing_in : Nodes → List ℕ → ℕ → Option Closing
closing_in t ledger_path count = first_in (filter_map (λ path. closing_at ledger_path count path (get t path)) (keys t))

-- the count of a ledger's node that is closed
abbrev pub closed_count : LedgerState → ℕ → Option ℕ
closed_count Writing count = None
closed_count Recovering count = None
closed_count Closed count = Some count

-- what a reading's value has, nothing where the reading has a fault
abbrev pub from_ok : {A E B : Type 0} → Result A E → (A → Option B) → Option B
from_ok (Ok x) f = f x
from_ok (Err fault) f = None

-- the same by the bytes of the node
abbrev pub count_in : List ℕ → Option ℕ
count_in bytes = from_ok (ledger_at bytes) (λ l. closed_count l.state l.count)

-- the closing of the ledger whose node at this path was closed at a count
abbrev pub closing_to : Nodes → List ℕ → Option ℕ → Option Closing
closing_to t path None = None
closing_to t path (Some count) = closing_in t path count

-- the closing that an operation which was done is: only a set closes
abbrev pub closing_with : Nodes → OneOp → Option Closing
closing_with t (Create path bytes mode) = None
closing_with t (Delete path version) = None
closing_with t (Set path bytes version) = closing_to t path (count_in bytes)
closing_with t (Check path version) = None
closing_with t (Get path) = None
closing_with t (Children path) = None

-- a closing: the rows of the segment grow up to the count, and then it is shown closed
abbrev pub closes : State → Option Closing → Outcome
closes s None = quietly s
closes s (Some x) = then_shows (grows s x.ledger x.count) (event.Closed x.stream x.segment ∷ [])

-- ---- points

-- the point of a stream is now this one
abbrev pub point_events : Option (List ℕ) → Result Cut MetaBytesFault → List Event
point_events None cut = []
point_events (Some stream) (Err fault) = []
point_events (Some stream) (Ok cut) = event.Point stream cut.point ∷ []

-- an operation that was done moved the point of a stream: only a set does
abbrev pub points_by : OneOp → List Event
points_by (Create path bytes mode) = []
points_by (Delete path version) = []
points_by (Set path bytes version) = point_events (stream_in key.Cut path) (cut_at bytes)
points_by (Check path version) = []
points_by (Get path) = []
points_by (Children path) = []

-- ---- requests that ran

-- a request was done, and changed what its operations say
abbrev pub is_done : MetaAnswer → Bool
is_done (answer.One a) = true
is_done (answer.Many answers) = true
is_done (answer.Failed place why) = false

-- the operations of a request
abbrev pub ops_of : MetaOp → List OneOp
ops_of (op.One x) = x ∷ []
ops_of (op.Multi xs) = xs

-- what an operation that was done on this tree shows: a closing with its rows, and then a point
abbrev pub shows_op : Nodes → OneOp → State → Outcome
shows_op t x s = then_shows (closes s (closing_with t x)) (points_by x)

-- what operations that were done on this tree show
abbrev pub shows_ops : Nodes → List OneOp → State → Outcome
shows_ops t [] s = quietly s
shows_ops t (x ∷ xs) s = and_then (shows_op t x s) (shows_ops t xs)

-- what a request on this tree with this answer shows
abbrev pub shows_run : Nodes → MetaOp → MetaAnswer → State → Outcome
shows_run t op a s = if is_done a then shows_ops t (ops_of op) s else quietly s

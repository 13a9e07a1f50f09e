-- The writer of a log segment by the calls that it was given (DistributedLog documentation, "Log writer"): records are packed into
-- entries, entries are sent to the segment's ledger, and a control entry makes what was confirmed readable.
use Rattle.std.specs.Prelude.{ℕ, suc, ◌+◌, ◌-◌, Bool, true, false, not, ◌&&◌, ◌==◌, nat_le, nat_lt, if◌then◌else◌, List, [], ◌∷◌, ◌++◌, length, take}
use Rattle.std.specs.Prelude.{drop, sum_by, flat_map, Option, Some, None, is_some, Result, Ok, Err}
use Rattle.dl_types.specs.declared.entry_bytes.TheConstants.{MAX_ENTRY}
use Rattle.dl_types.specs.declared.payload.TheConstants.{MAX_PAYLOAD}
use Rattle.dl_types.specs.declared.row.Origin.{Origin}
use Rattle.dl_types.specs.declared.row.Row.{Row}
use Rattle.dl_types.specs.declared.refusal.Refusal.{Refusal}
use Rattle.dl_types.specs.declared.refusal.Refusal.TheVariants as refused
use Rattle.dl_quorum.specs.Pieces.{Pieces}
use Rattle.dl_types.specs.Places.{place}
use Rattle.dl_record.specs.declared.stored.Stored.{Stored}
use Rattle.dl_record.specs.declared.stored.Stored.TheVariants.{Plain, Control, Set}
use Rattle.dl_record.specs.Grammar.{payload_bytes, entry_bytes}
use Rattle.dl_msg.specs.declared.msg.Msg.{Msg}
use Rattle.dl_msg.specs.declared.letters.Told.{Told}
use Rattle.dl_rules_ledger.specs.declared.window.TheConstants.{WINDOW}
use Rattle.dl_rules_ledger.specs.Writers as writer
use Rattle.dl_rules_ledger.specs.Writers.{WriterView, Sends, Hears, new_view, with_call, fence_bookie, add_letters}

-- how many entries may be unconfirmed
abbrev pub window : ℕ
window = WINDOW

-- the bytes of the longest payload, or of the longest set as a payload
abbrev pub longest_payload : ℕ
longest_payload = MAX_PAYLOAD

-- the bytes of the longest entry
abbrev pub longest_entry : ℕ
longest_entry = MAX_ENTRY

-- What a writer is started with: the segment, the last transaction id before it, and the ledger with its pieces.
pub record LogArgs : Type 0 where
  pub segment : ℕ
  pub last : ℕ
  pub ledger : ℕ
  pub pieces : Pieces

-- a call that a writer was given; the origin of a set is that of its first member
pub data LogCall : Type 0 where
  Appends : (origin : Origin) (txid : ℕ) (payload : List ℕ) → LogCall
  AppendsSet : (origin : Origin) (txid : ℕ) (payloads : List (List ℕ)) → LogCall
  Flushes : LogCall
  Commits : LogCall
  Closes : LogCall
  HearsFrom : (bookie : ℕ) (msg : Msg) → LogCall

-- how far a commit or a close has come: the control entry waits until all that was sent is confirmed, and then has a number
pub data LogMode : Type 0 where
  Open : LogMode
  Committing : (control : Option ℕ) → LogMode
  Committed : (control : ℕ) → LogMode
  Closing : LogMode
  Closable : LogMode

-- A record that was taken and not sent yet.
pub record Pending : Type 0 where
  pub origin : Origin
  pub txid : ℕ
  pub payload : List ℕ

-- What a writer is: its ledger's writer; the last transaction id that was taken, and the last that was sent; the stored records
-- of the entry under way with their rows; the rows of each entry sent, and how many they are; and its mode.
pub record LogNow : Type 0 where
  pub segment : ℕ
  pub ledger : WriterView
  pub last_taken : ℕ
  pub last_sent : ℕ
  pub parts : List Stored
  pub pending : List Pending
  pub entries : List (List Row)
  pub rows_sent : ℕ
  pub mode : LogMode

-- a writer that was given no call yet
abbrev pub log_started : LogArgs → LogNow
log_started x = record {
  segment = x.segment;
  ledger = new_view x.ledger x.pieces;
  last_taken = x.last;
  last_sent = x.last;
  parts = [];
  pending = [];
  entries = [];
  rows_sent = 0;
  mode = Open;
}

-- ---- what is known of it

-- how many entries were sent
abbrev pub sent_count : LogNow → ℕ
sent_count w = writer.sent_count w.ledger.calls

-- how many of the first entries are confirmed
abbrev pub confirmed_count : LogNow → ℕ
confirmed_count w = writer.confirmed_count w.ledger

-- the first bookie that said that the ledger is fenced
abbrev pub fenced_at : LogNow → Option ℕ
fenced_at w = fence_bookie w.ledger

-- whether a close has begun
abbrev pub is_closing : LogMode → Bool
is_closing Closing = true
is_closing Closable = true
is_closing mode = false

-- whether an entry is under way
abbrev pub has_parts : LogNow → Bool
has_parts w = nat_lt 0 (length w.parts)

-- whether as many entries are unconfirmed as may be
abbrev pub is_window_full : LogNow → Bool
is_window_full w = nat_le (confirmed_count w + window) (sent_count w)

-- the bytes of the entry under way
abbrev pub parts_size : List Stored → ℕ
parts_size parts = 8 + sum_by (λ part. 20 + length (payload_bytes part)) parts

-- whether a stored record with a payload of this length still fits the entry under way
abbrev pub fits : LogNow → ℕ → Bool
fits w size = nat_le (parts_size w.parts + 20 + size) longest_entry

-- ---- refusals

-- the close has begun, or the ledger is fenced
abbrev pub writer_fault : Bool → Option ℕ → Option Refusal
writer_fault true fenced = Some refused.NoWriter
writer_fault false (Some bookie) = Some (refused.Fenced bookie)
writer_fault false None = None

-- a first fault, or else the second one
abbrev pub or_fault : Option Refusal → Option Refusal → Option Refusal
or_fault (Some r) other = Some r
or_fault None other = other

-- a fault where a test holds
abbrev pub fault_if : Bool → Refusal → Option Refusal
fault_if true r = Some r
fault_if false r = None

-- why a call that sends an entry, where one is due, is refused
abbrev pub send_fault : LogNow → Bool → Option Refusal
send_fault w due = or_fault (writer_fault (is_closing w.mode) (fenced_at w)) (fault_if (due && is_window_full w) refused.WindowFull)

-- why a record of this length and id is refused
abbrev pub take_fault : LogNow → (size txid : ℕ) → Option Refusal
take_fault w size txid =
    or_fault (writer_fault (is_closing w.mode) (fenced_at w)) (or_fault (fault_if (nat_lt longest_payload size) (refused.TooLong size))
    (or_fault (fault_if (nat_lt txid w.last_taken) (refused.TxidBack w.last_taken txid)) (fault_if (not (fits w size) && is_window_full w) refused.WindowFull)))

-- ---- what is sent

-- What a call does: the writer then, the messages that it tells, and the rows that it confirms.
pub record LogMove : Type 0 where
  pub now : LogNow
  pub letters : List Told
  pub rows : List Row

-- nothing is told
abbrev pub stays : LogNow → LogMove
stays w = record { now = w; letters = []; rows = [] }

-- records at their places, from this slot of an entry on
abbrev pub rows_at : (segment entry slot : ℕ) → List Pending → List Row
rows_at segment entry slot [] = []
rows_at segment entry slot (p ∷ ps) =
    record { place = place segment entry slot; txid = p.txid; payload = p.payload; origin = p.origin } ∷ rows_at segment entry (suc slot) ps

-- the rows of the entry under way, at the places that they get as it is sent now
abbrev pub rows_due : LogNow → List Row
rows_due w = rows_at w.segment (sent_count w) 0 w.pending

-- the entry under way is sent
unfoldable pub sends_parts : LogNow → LogMove
sends_parts w = record {
  now = record w {
    ledger = with_call w.ledger (Sends (entry_bytes w.parts));
    last_sent = w.last_taken;
    parts = [];
    pending = [];
    entries = w.entries ++ rows_due w ∷ [];
    rows_sent = w.rows_sent + length w.pending;
  };
  letters = add_letters w.ledger (entry_bytes w.parts);
  rows = [];
}

-- the entry under way is sent, where there is one
abbrev pub flushes : LogNow → LogMove
flushes w = if has_parts w then sends_parts w else stays w

-- the bytes of a control entry behind all that was sent
abbrev pub control_bytes : LogNow → List ℕ
control_bytes w = entry_bytes (Control w.rows_sent w.last_sent ∷ [])

-- the control entry of a commit is sent
unfoldable pub sends_control : LogNow → LogMove
sends_control w = record {
  now = record w {
    ledger = with_call w.ledger (Sends (control_bytes w));
    entries = w.entries ++ [] ∷ [];
    mode = Committing (Some (sent_count w));
  };
  letters = add_letters w.ledger (control_bytes w);
  rows = [];
}

-- ---- how a commit or a close goes on

-- whether all that was sent is confirmed
abbrev pub all_confirmed : LogNow → Bool
all_confirmed w = confirmed_count w == sent_count w

-- the next step of the mode of a writer whose ledger is not fenced
abbrev pub mode_goes_on : LogNow → LogMode → LogMove
mode_goes_on w (Committing None) = if all_confirmed w then sends_control w else stays w
mode_goes_on w (Committing (Some n)) = if nat_lt n (confirmed_count w) then stays (record w { mode = Committed n }) else stays w
mode_goes_on w Closing = if all_confirmed w then stays (record w { mode = Closable }) else stays w
mode_goes_on w mode = stays w

-- a fenced writer goes on with nothing
unfoldable pub goes_on : LogNow → LogMove
goes_on w = if is_some (fenced_at w) then stays w else mode_goes_on w w.mode

-- a move that goes on after another
abbrev pub then_goes_on : LogMove → LogMove
then_goes_on m = let next = goes_on m.now in record { now = next.now; letters = m.letters ++ next.letters; rows = m.rows ++ next.rows }

-- ---- the calls

-- a call but hearing ends the notice of a commit
abbrev pub past_commit : LogMode → LogMode
past_commit (Committed n) = Open
past_commit mode = mode

-- a writer in another mode
abbrev pub in_mode : LogMode → LogNow → LogNow
in_mode mode w = record w { mode = mode }

-- the position of the next stored record
abbrev pub next_position : LogNow → ℕ
next_position w = w.rows_sent + length w.pending

-- a stored record with its rows is taken
abbrev pub takes_part : LogNow → ℕ → Stored → List Pending → LogNow
takes_part w txid part pending =
    record w { last_taken = txid; parts = w.parts ++ part ∷ []; pending = w.pending ++ pending; mode = past_commit w.mode }

-- the records of a set, whose calls are numbered from its first one on
abbrev pub pending_from : Origin → ℕ → List (List ℕ) → List Pending
pending_from o txid [] = []
pending_from o txid (payload ∷ payloads) =
    record { origin = o; txid = txid; payload = payload } ∷ pending_from (record o { call = o.call + 1 }) txid payloads

-- a record that doesn't fit the entry under way has that sent first
abbrev pub makes_room : LogNow → ℕ → LogMove
makes_room w size = if fits w size then stays w else sends_parts w

-- a stored record is taken behind what is sent first
abbrev pub takes_behind : LogMove → (txid : ℕ) → (ℕ → Stored) → List Pending → LogMove
takes_behind m txid part pending = record m { now = takes_part m.now txid (part (next_position m.now)) pending }

-- a call that may be refused
abbrev pub unless : Option Refusal → LogMove → Result LogMove Refusal
unless None m = Ok m
unless (Some r) m = Err r

-- a record
unfoldable pub appends : LogNow → Origin → ℕ → List ℕ → Result LogMove Refusal
appends w o txid payload =
    unless (take_fault w (length payload) txid)
    (takes_behind (makes_room w (length payload)) txid (λ position. Plain position txid payload) (pending_from o txid (payload ∷ [])))

-- the length of a set as a payload
abbrev pub set_size : List (List ℕ) → ℕ
set_size payloads = 4 + sum_by (λ payload. 4 + length payload) payloads

-- a set of records, which is one stored record
unfoldable pub appends_set : LogNow → Origin → ℕ → List (List ℕ) → Result LogMove Refusal
appends_set w o txid payloads =
    unless (take_fault w (set_size payloads) txid)
    (takes_behind (makes_room w (set_size payloads)) txid (λ position. Set position txid payloads) (pending_from o txid payloads))

-- what was taken is sent
unfoldable pub log_flushes : LogNow → Result LogMove Refusal
log_flushes w = unless (send_fault w (has_parts w)) (flushes (in_mode (past_commit w.mode) w))

-- what was taken is sent, and a control entry once all that was sent is confirmed
unfoldable pub commits : LogNow → Result LogMove Refusal
commits w = unless (send_fault w (has_parts w)) (then_goes_on (flushes (in_mode (Committing None) w)))

-- what was taken is sent, and then nothing more
unfoldable pub closes : LogNow → Result LogMove Refusal
closes w = unless (send_fault w (has_parts w)) (then_goes_on (flushes (in_mode Closing w)))

-- the rows of the entries from one count on, below another
abbrev pub rows_between : List (List Row) → (low high : ℕ) → List Row
rows_between entries low high = flat_map (λ rows. rows) (take (high - low) (drop low entries))

-- a message of a bookie is heard: the rows of the entries that it confirms
abbrev pub heard_by : LogNow → ℕ → Msg → LogMove
heard_by w b m =
    let after = record w { ledger = with_call w.ledger (Hears b m) } in
    record { now = after; letters = []; rows = rows_between w.entries (confirmed_count w) (confirmed_count after) }

-- a message of a bookie
unfoldable pub log_hears : LogNow → ℕ → Msg → LogMove
log_hears w b m = then_goes_on (heard_by w b m)

-- ---- views

-- a refused call leaves the writer as it was
abbrev pub or_same : LogNow → Result LogMove Refusal → LogNow
or_same w (Ok m) = m.now
or_same w (Err r) = w

-- the writer after one call more
unfoldable pub after_log_call : LogNow → LogCall → LogNow
after_log_call w (Appends o txid payload) = or_same w (appends w o txid payload)
after_log_call w (AppendsSet o txid payloads) = or_same w (appends_set w o txid payloads)
after_log_call w Flushes = or_same w (log_flushes w)
after_log_call w Commits = or_same w (commits w)
after_log_call w Closes = or_same w (closes w)
after_log_call w (HearsFrom b m) = (log_hears w b m).now

-- the writer after its calls, the newest first
unfoldable pub log_of : LogArgs → List LogCall → LogNow
log_of x [] = log_started x
log_of x (call ∷ calls) = after_log_call (log_of x calls) call

-- what a writer tells of its state
pub data LogState : Type 0 where
  IsOpen : LogState
  IsCommitting : LogState
  HasCommitted : (control : ℕ) → LogState
  IsClosing : LogState
  MayClose : (entries rows last : ℕ) → LogState
  IsFenced : (bookie : ℕ) → LogState

-- a fence takes the place of every other state but that of a writer that may close
abbrev pub state_by : LogNow → LogMode → Option ℕ → LogState
state_by w Closable fenced = MayClose (sent_count w) w.rows_sent w.last_sent
state_by w mode (Some bookie) = IsFenced bookie
state_by w Open None = IsOpen
state_by w (Committing control) None = IsCommitting
state_by w (Committed n) None = HasCommitted n
state_by w Closing None = IsClosing

-- the state of a writer
unfoldable pub log_state : LogNow → LogState
log_state w = state_by w w.mode (fenced_at w)

-- An entry that was sent, with its rows; a control entry has none.
pub record SentEntry : Type 0 where
  pub entry : ℕ
  pub rows : List Row

-- the last of these, and how many stand before it
abbrev pub last_behind : ℕ → List (List Row) → Option SentEntry
last_behind n [] = None
last_behind n (rows ∷ []) = Some (record { entry = n; rows = rows })
last_behind n (rows ∷ more ∷ others) = last_behind (suc n) (more ∷ others)

-- the entry that was sent last
abbrev pub last_sent_entry : LogNow → Option SentEntry
last_sent_entry w = last_behind 0 w.entries

-- What a client does with its writer: records are taken and sent, a commit waits for its control entry, and a close for all that
-- was sent.
use Rattle.std.specs.Prelude.{ℕ, suc, ◌+◌, Bool, not, ◌&&◌, ◌==◌, nat_lt, if◌then◌else◌, List, [], ◌∷◌, ◌++◌, length, map, Option, Some, None, is_none}
use Rattle.std.specs.Prelude.{option_map, Result, Ok, Err}
use Rattle.dl_types.specs.declared.refusal.Refusal.{Refusal}
use Rattle.dl_types.specs.declared.refusal.Refusal.TheVariants as why
use Rattle.dl_types.specs.declared.row.Row.{Row}
use Rattle.dl_types.specs.Places.{place}
use Rattle.dl_msg.specs.declared.msg.Msg.{Msg}
use Rattle.dl_transcript.specs.declared.event.Event.{Event}
use Rattle.dl_transcript.specs.declared.event.Event.TheVariants as event
use Rattle.dl_rules_stream.specs.Requests.{Completion}
use Rattle.dl_rules_stream.specs.Closes.{CloseArgs, close_first}
use Rattle.dl_rules_stream.specs.LogWriters.{LogCall, Appends, AppendsSet, Flushes, HearsFrom, LogNow, LogMove, LogState, HasCommitted, MayClose, IsFenced}
use Rattle.dl_rules_stream.specs.LogWriters.{log_state, appends, appends_set, log_flushes, commits, closes, log_hears, sent_count, confirmed_count}
use Rattle.dl_rules_stream.specs.LogWriters.{fenced_at, is_closing, has_parts, last_sent_entry}
use Rattle.dl_rules_stream.specs.LogWriters as log
use Rattle.dl_rules_client.specs.Acts.{ClientArgs, SentEntry, Confirmation, Acts, no_acts}
use Rattle.dl_rules_client.specs.Views.{Doing, Commits, Confirms, Closes, Order, WriterView, ClientNow, ClientMove, stays, order_doing, log_now, with_call}
use Rattle.dl_rules_client.specs.Views.{with_writer, next_origin}
use Rattle.dl_rules_client.specs.Moves.{told_letters, refusal_event, refuses, ends_with, with_order, waits, goes_on}

-- ---- what a call of the writer shows

-- the entry that a call sent, where it sent one
abbrev pub entry_between : LogNow → LogNow → Option log.SentEntry
entry_between before now = if nat_lt (sent_count before) (sent_count now) then last_sent_entry now else None

-- an entry of the writer's ledger
abbrev pub entry_of : WriterView → log.SentEntry → SentEntry
entry_of w x = record { stream = w.stream; segment = w.opened.segment; ledger = w.opened.ledger; entry = x.entry; rows = x.rows }

-- an entry that was sent, as an event
abbrev pub sent_events : ClientArgs → WriterView → Option log.SentEntry → List Event
sent_events me w None = []
sent_events me w (Some x) = event.Sent me.number w.opened.segment x.entry ∷ []

-- rows that are confirmed are acknowledged
abbrev pub ack_events : ClientArgs → List Row → List Event
ack_events me rows = map (λ (r : Row). event.Ack me.number r.origin.call r.place) rows

-- the acts of a writer's call: acknowledgements come first, and then the entry that was sent
abbrev pub move_acts : ClientArgs → WriterView → LogMove → Acts
move_acts me w m =
    let sent = entry_between (log_now w) m.now in
    record no_acts {
      letters = told_letters me m.letters;
      events = ack_events me m.rows ++ sent_events me w sent;
      sent = option_map (entry_of w) sent;
    }

-- records of one id that are taken, their calls numbered from this one on
abbrev pub took_events : ClientArgs → List ℕ → (txid call : ℕ) → List (List ℕ) → List Event
took_events me s txid call [] = []
took_events me s txid call (p ∷ ps) = event.Took me.number call s txid p ∷ took_events me s txid (suc call) ps

-- records that are taken, behind an entry that was sent to make room
abbrev pub with_taken : List Event → Acts → Acts
with_taken took acts = record acts { events = acts.events ++ took; taken = length took }

-- ---- records

-- a refused call leaves the log as it was
abbrev pub refuses_call : ClientArgs → ClientNow → WriterView → LogCall → Refusal → ClientMove
refuses_call me now w call r = refuses me (with_writer now (with_call w call)) r

-- a call by which records are taken, and what becomes of it
abbrev pub takes : ClientArgs → ClientNow → WriterView → LogCall → ℕ → List (List ℕ) → Result LogMove Refusal → ClientMove
takes me now w call txid payloads (Err r) = refuses_call me now w call r
takes me now w call txid payloads (Ok m) = record {
  now = record (with_writer now (with_call w call)) { taken = now.taken + length payloads };
  acts = with_taken (took_events me w.stream txid (suc now.taken) payloads) (move_acts me w m);
}

-- a record is appended
abbrev pub appends_one : ClientArgs → ClientNow → Option WriterView → ℕ → List ℕ → ClientMove
appends_one me now None txid payload = refuses me now why.NoWriter
appends_one me now (Some w) txid payload =
    let o = next_origin me now in
    takes me now w (Appends o txid payload) txid (payload ∷ []) (appends (log_now w) o txid payload)

-- a set of records is appended
abbrev pub appends_many : ClientArgs → ClientNow → Option WriterView → ℕ → List (List ℕ) → ClientMove
appends_many me now None txid payloads = refuses me now why.NoWriter
appends_many me now (Some w) txid payloads =
    let o = next_origin me now in
    takes me now w (AppendsSet o txid payloads) txid payloads (appends_set (log_now w) o txid payloads)

-- a call by which what was taken is sent, and what becomes of it
abbrev pub sends : ClientArgs → ClientNow → WriterView → Result LogMove Refusal → ClientMove
sends me now w (Err r) = refuses_call me now w Flushes r
sends me now w (Ok m) = record { now = with_writer now (with_call w Flushes); acts = move_acts me w m }

-- what was taken is sent
abbrev pub flushes : ClientArgs → ClientNow → Option WriterView → ClientMove
flushes me now None = refuses me now why.NoWriter
flushes me now (Some w) = sends me now w (log_flushes (log_now w))

-- ---- commit and close

-- the segment that a close completes, and with what
abbrev pub completion_of : WriterView → (entries rows last : ℕ) → Completion
completion_of w entries rows last = record {
  stream = w.stream;
  member = Some w.opened.member;
  segment = w.opened.segment;
  ledger = w.opened.ledger;
  entries = entries;
  rows = rows;
  last = last;
  greatest = w.opened.segment;
  version = w.opened.version;
}

-- what a close is started with; a writer knows its ledger's node at version 0
abbrev pub close_args : WriterView → (entries rows last : ℕ) → CloseArgs
close_args w entries rows last =
    record { completion = completion_of w entries rows last; q = w.args.pieces.q; version = 0; member = w.opened.member }

-- all that was sent is confirmed: the ledger is closed
abbrev pub begins_close : ClientArgs → ClientNow → Order → Acts → CloseArgs → ClientMove
begins_close me now o acts args =
    goes_on me now (order_doing o (Closes args [])) acts (close_first args).1 (λ (u : Unit {0}). waits now o acts)

-- a commit or a close goes on as its writer's log does: a fence ends it
unfoldable pub log_goes_on : ClientArgs → ClientNow → WriterView → Order → Acts → Doing → LogState → ClientMove
log_goes_on me now w o acts Commits (HasCommitted control) =
    ends_with now o acts (event.Committed w.stream (place w.opened.segment control 0))
log_goes_on me now w o acts Commits (IsFenced bookie) = ends_with now o acts (refusal_event me (why.Fenced bookie))
log_goes_on me now w o acts Confirms (MayClose entries rows last) = begins_close me now o acts (close_args w entries rows last)
log_goes_on me now w o acts Confirms (IsFenced bookie) = ends_with now o acts (refusal_event me (why.Fenced bookie))
log_goes_on me now w o acts doing state = waits now o acts

-- the order under way, where there is one, goes on
abbrev pub order_goes_on : ClientArgs → ClientNow → WriterView → Acts → Option Order → ClientMove
order_goes_on me now w acts None = stays now acts
order_goes_on me now w acts (Some o) = log_goes_on me now w o acts o.doing (log_state (log_now w))

-- a call of the writer, behind which an order that waits for it goes on
abbrev pub after_call : ClientArgs → ClientNow → WriterView → LogCall → LogMove → ClientMove
after_call me now w call m =
    let next = with_call w call in order_goes_on me (with_writer now next) next (move_acts me w m) now.order

-- a commit or a close that begins, or is refused
abbrev pub begins_on_log : ClientArgs → ClientNow → ℕ → WriterView → Doing → LogCall → Result LogMove Refusal → ClientMove
begins_on_log me now line w doing call (Err r) = refuses_call me now w call r
begins_on_log me now line w doing call (Ok m) =
    after_call me (with_order now (record { line = line; stream = w.stream; doing = doing })) w call m

-- a commit begins
abbrev pub begins_commit : ClientArgs → ClientNow → ℕ → Option WriterView → ClientMove
begins_commit me now line None = refuses me now why.NoWriter
begins_commit me now line (Some w) = begins_on_log me now line w Commits log.Commits (commits (log_now w))

-- a close begins: it waits until all that was sent is confirmed
abbrev pub begins_confirm : ClientArgs → ClientNow → ℕ → Option WriterView → ClientMove
begins_confirm me now line None = refuses me now why.NoWriter
begins_confirm me now line (Some w) = begins_on_log me now line w Confirms log.Closes (closes (log_now w))

-- ---- what the writer hears

-- an answer to an entry counts for the writer whose ledger it names alone
abbrev pub writer_hears : ClientArgs → ClientNow → Option WriterView → (ledger bookie : ℕ) → Msg → ClientMove
writer_hears me now None ledger b m = stays now no_acts
writer_hears me now (Some w) ledger b m =
    if ledger == w.opened.ledger then after_call me now w (HearsFrom b m) (log_hears (log_now w) b m) else stays now no_acts

-- ---- what is known of the writer

-- what the writer has confirmed
abbrev pub confirmation_of : Option WriterView → Option Confirmation
confirmation_of None = None
confirmation_of (Some w) = Some (record { ledger = w.opened.ledger; count = confirmed_count (log_now w) })

-- whether a log has nothing to send, and could
abbrev pub has_nothing_to_send : LogNow → Bool
has_nothing_to_send w = not (has_parts w) && not (is_closing w.mode) && is_none (fenced_at w)

-- What a client's orders do as they begin and as they hear something.
use Rattle.std.specs.Prelude.{ℕ, List, [], ◌∷◌, Option, Some, None}
use Rattle.dl_types.specs.declared.dlsn.Dlsn.{Dlsn}
use Rattle.dl_types.specs.declared.read_row.ReadRow.{ReadRow}
use Rattle.dl_types.specs.declared.refusal.Refusal.TheVariants as why
use Rattle.dl_types.specs.declared.start.Start.{Start}
use Rattle.dl_types.specs.declared.start.Start.TheVariants as start
use Rattle.dl_msg.specs.declared.heard.Heard.{Heard}
use Rattle.dl_transcript.specs.declared.event.Event.{Event}
use Rattle.dl_transcript.specs.declared.event.Event.TheVariants as event
use Rattle.dl_rules_stream.specs.Orders.{Next}
use Rattle.dl_rules_stream.specs.Makes.{make_hears, make_stage}
use Rattle.dl_rules_stream.specs.Removes.{remove_hears, remove_stage}
use Rattle.dl_rules_stream.specs.Opens.{OpenStage, Opened, open_first, open_hears, open_recovers, open_stage}
use Rattle.dl_rules_stream.specs.Recovers.{Found, Whole, Completes, recover_hears, recover_stage}
use Rattle.dl_rules_stream.specs.Closes.{close_hears, close_stage}
use Rattle.dl_rules_stream.specs.Seeks.{position_at, seek_first, seek_hears, seek_stage}
use Rattle.dl_rules_stream.specs.Truncates.{truncate_hears, truncate_stage}
use Rattle.dl_rules_stream.specs.Purges.{purge_hears, purge_stage}
use Rattle.dl_rules_stream.specs.LogReaders.{LogReaderCall, Reads as CallsRead, HearsAll, reader_move}
use Rattle.dl_rules_client.specs.Acts.{ClientArgs, Acts, no_acts, with_event, shows}
use Rattle.dl_rules_client.specs.Views.{Doing, Makes, Removes, Opens, Recovers, Commits, Confirms, Closes, Seeks, Reads, Truncates, Purges, Order}
use Rattle.dl_rules_client.specs.Views.{WriterView, ReaderView, ClientNow, ClientMove, stays, open_args, recover_args, truncate_args, order_doing}
use Rattle.dl_rules_client.specs.Views.{new_writer, with_writer, reader_now, with_reader_call, new_reader, with_reader}
use Rattle.dl_rules_client.specs.Moves.{refuses, without_order, ends_with, waits, goes_on}

-- ---- how orders begin

-- an order begins with what its list does first
abbrev pub begins : {A : Type 0} → ClientArgs → ClientNow → ℕ → List ℕ → Doing → (Order → Next A) → ClientMove
begins me now line s doing first =
    let o : Order = record { line = line; stream = s; doing = doing } in
    goes_on me now o no_acts (first o) (λ a. waits now o no_acts)

-- a seek begins
abbrev pub begins_seek : ClientArgs → ClientNow → ℕ → List ℕ → Start → ClientMove
begins_seek me now line s from = begins me now line s (Seeks from []) (λ o. (seek_first s).1)

-- an open begins; a client that has a writer opens no stream
abbrev pub begins_open : ClientArgs → ClientNow → ℕ → List ℕ → Option WriterView → ClientMove
begins_open me now line s (Some w) = refuses me now (why.Busy w.line)
begins_open me now line s None = begins me now line s (Opens []) (λ o. (open_first (open_args me o)).1)

-- ---- reads

-- the rows that a read found, or that it found none
abbrev pub rows_event : ClientArgs → List ℕ → List ReadRow → Event
rows_event me s [] = event.End me.number s
rows_event me s (r ∷ rs) = event.Rows me.number s (r ∷ rs)

-- a call of the reader, and what its read does next
abbrev pub reader_goes_on : ClientArgs → ClientNow → Order → ReaderView → Acts → LogReaderCall → ClientMove
reader_goes_on me now o r acts call =
    let next = with_reader now (with_reader_call r call) in
    goes_on me next o acts (reader_move r.args (reader_now r) call).1 (λ rows. ends_with next o acts (rows_event me o.stream rows))

-- a read begins
abbrev pub begins_read : ClientArgs → ClientNow → (line count : ℕ) → Option ReaderView → ClientMove
begins_read me now line count None = stays now no_acts
begins_read me now line count (Some r) =
    let o : Order = record { line = line; stream = r.args.stream; doing = Reads } in
    reader_goes_on me now o r (shows (event.Reading me.number o.stream)) (CallsRead line count)

-- a read hears something
abbrev pub read_hears : ClientArgs → ClientNow → Order → Option ReaderView → Heard → ClientMove
read_hears me now o None h = waits now o no_acts
read_hears me now o (Some r) h = reader_goes_on me now o r no_acts (HearsAll h)

-- ---- how orders end

-- a segment that an open completed on its way
abbrev pub recovered_acts : ClientArgs → List ℕ → Option Dlsn → Acts
recovered_acts me s None = no_acts
recovered_acts me s (Some end) = shows (event.Recovered me.number s end)

-- an open ends: the client has a writer
abbrev pub ends_open : ClientArgs → ClientNow → Order → Acts → Opened → ClientMove
ends_open me now o acts x = record {
  now = with_writer (without_order now o) (new_writer me o x);
  acts = with_event (event.Writer me.number o.stream x.segment) acts;
}

-- what a recovery found
abbrev pub found_event : ClientArgs → List ℕ → Found → Event
found_event me s Whole = event.Whole me.number s
found_event me s (Completes end) = event.Recovered me.number s end

-- where a reader starts
abbrev pub opened_event : ClientArgs → List ℕ → Start → Dlsn → Event
opened_event me s (start.Tx txid) point = event.OpenedFrom me.number s txid
opened_event me s (start.Place d) point = event.OpenedAt me.number s (position_at point (start.Place d)).cursor
opened_event me s start.Oldest point = event.OpenedAt me.number s (position_at point start.Oldest).cursor

-- a seek ends: the client has a reader, in place of an earlier one
abbrev pub ends_seek : ClientArgs → ClientNow → Order → Start → Dlsn → ClientMove
ends_seek me now o from point = record {
  now = with_reader (without_order now o) (new_reader me o.stream from point);
  acts = shows (opened_event me o.stream from point);
}

-- ---- what orders hear

-- an order that heard something goes on, and once it is done ends with an event
abbrev pub goes_to : {A : Type 0} → ClientArgs → ClientNow → Order → Doing → Next A → (A → Event) → ClientMove
goes_to me now o doing next end = goes_on me now (order_doing o doing) no_acts next (λ a. ends_with now o no_acts (end a))

-- an open that heard something goes on; a segment that it completes on its way is shown first
abbrev pub open_goes_on : ClientArgs → ClientNow → Order → Heard → List Heard → OpenStage → ClientMove
open_goes_on me now o h heard stage =
    let acts = recovered_acts me o.stream (open_recovers stage h) in
    goes_on me now (order_doing o (Opens (h ∷ heard))) acts (open_hears (open_args me o) stage h).1 (ends_open me now o acts)

-- the order under way hears the reply to its request, or a message that is tagged as its own
unfoldable pub order_hears : ClientArgs → ClientNow → Order → Heard → Doing → ClientMove
order_hears me now o h (Makes heard) =
    goes_to me now o (Makes (h ∷ heard)) (make_hears o.stream (make_stage o.stream heard) h).1 (λ u. event.Created me.number o.stream)
order_hears me now o h (Removes heard) =
    goes_to me now o (Removes (h ∷ heard)) (remove_hears o.stream (remove_stage o.stream heard) h).1
    (λ u. event.Removed me.number o.stream)
order_hears me now o h (Opens heard) = open_goes_on me now o h heard (open_stage (open_args me o) heard)
order_hears me now o h (Recovers heard) =
    let args = recover_args me o in
    goes_to me now o (Recovers (h ∷ heard)) (recover_hears args (recover_stage args heard) h).1 (found_event me o.stream)
order_hears me now o h Commits = waits now o no_acts
order_hears me now o h Confirms = waits now o no_acts
order_hears me now o h (Closes args heard) =
    goes_to me now o (Closes args (h ∷ heard)) (close_hears args (close_stage args heard) h).1 (λ u. event.Released me.number o.stream)
order_hears me now o h (Seeks from heard) =
    goes_on me now (order_doing o (Seeks from (h ∷ heard))) no_acts (seek_hears o.stream (seek_stage o.stream heard) h).1
    (ends_seek me now o from)
order_hears me now o h Reads = read_hears me now o now.reader h
order_hears me now o h (Truncates to heard) =
    let args = truncate_args o to in
    goes_to me now o (Truncates to (h ∷ heard)) (truncate_hears args (truncate_stage args heard) h).1
    (event.Truncated me.number o.stream)
order_hears me now o h (Purges heard) =
    goes_to me now o (Purges (h ∷ heard)) (purge_hears o.stream (purge_stage o.stream heard) h).1 (event.Purged me.number o.stream)

-- The ranges of what orders keep and show, as they begin and as they hear something.
use Rattle.std.proofs.Common.{ℕ, ◌*◌, ◌≤◌, List, [], ◌∷◌, Option, Some, None, arith, suc}
use Rattle.dl_types.specs.declared.dlsn.Dlsn.{Dlsn}
use Rattle.dl_types.specs.declared.read_row.ReadRow.{ReadRow}
use Rattle.dl_types.specs.declared.refusal.Refusal.TheVariants as why
use Rattle.dl_types.specs.Places.{is_before}
use Rattle.dl_types.specs.declared.start.Start.{Start}
use Rattle.dl_types.specs.declared.start.Start.TheVariants as start
use Rattle.dl_text.specs.NameFields.{IsName}
use Rattle.dl_text.specs.Numbers.{most_u64}
use Rattle.dl_text.specs.PlaceFields.{IsPlaceFrom}
use Rattle.dl_msg.specs.declared.heard.Heard.{Heard}
use Rattle.dl_schedule.specs.StepLines.{IsClient}
use Rattle.dl_transcript.specs.Ranges.{IsU32}
use Rattle.dl_transcript.specs.declared.event.Event.{Event}
use Rattle.dl_transcript.specs.declared.event.Event.TheVariants as event
use Rattle.dl_rules_stream.specs.Orders.{Next}
use Rattle.dl_rules_stream.specs.Makes.{make_hears, make_stage}
use Rattle.dl_rules_stream.specs.Removes.{remove_hears, remove_stage}
use Rattle.dl_rules_stream.specs.Opens.{OpenStage, Opened, open_first, open_hears, open_recovers, open_stage}
use Rattle.dl_rules_stream.specs.Recovers.{RecoverArgs, Found, Whole, Completes, recover_hears, recover_stage}
use Rattle.dl_rules_stream.specs.Closes.{close_hears, close_stage}
use Rattle.dl_rules_stream.specs.Seeks.{seek_hears, seek_stage}
use Rattle.dl_rules_stream.specs.Truncates.{truncate_hears, truncate_stage}
use Rattle.dl_rules_stream.specs.Purges.{purge_hears, purge_stage}
use Rattle.dl_rules_stream.specs.LogWriters.{log_of}
use Rattle.dl_rules_stream.specs.LogReaders.{reader_of, after_reader_call, LogReaderCall, Reads as CallsRead, HearsAll, reader_move}
use Rattle.dl_rules_client.specs.Acts.{ClientArgs, Acts, no_acts, shows}
use Rattle.dl_rules_client.specs.Views.{Doing, Makes, Removes, Opens, Recovers, Commits, Confirms, Closes, Seeks, Reads, Truncates, Purges, Order}
use Rattle.dl_rules_client.specs.Views.{WriterView, ReaderView, ClientNow, open_args, recover_args, truncate_args, order_doing, new_writer}
use Rattle.dl_rules_client.specs.Views.{reader_now, with_reader_call, new_reader, with_reader}
use Rattle.dl_rules_client.specs.Moves.{without_order}
use Rattle.dl_rules_client.specs.Orders.{begins, begins_open, rows_event, reader_goes_on, begins_read, read_hears, recovered_acts, ends_open}
use Rattle.dl_rules_client.specs.Orders.{found_event, opened_event, ends_seek, goes_to, open_goes_on, order_hears}
use Rattle.dl_rules_client.specs.EventRanges.{set_most}
use Rattle.dl_transcript.specs.Ranges.{IsEvent}
use Rattle.dl_rules_client.proofs.RangeLists.{Any, AllSome, cond_both}
use Rattle.dl_rules_client.proofs.NextRanges.{HeardFits, NextFits, any_next}
use Rattle.dl_schedule.specs.StepLines.{IsCount}
use Rattle.dl_rules_stream.specs.Nodes.{new_sizes}
use Rattle.dl_rules_client.proofs.TellRanges.{TellsFit, members_fit, any_place, make_told, remove_told, close_told, seek_told, truncate_told, purge_told}
use Rattle.dl_schedule.specs.declared.up_to.TheConstants.{MAX_ROWS}
use Rattle.dl_rules_client.proofs.RowRanges.{GivenFits}
use Rattle.dl_rules_client.proofs.TellRecoveries.{IsReaderCall, open_told, recover_told, reader_move_fits}
use Rattle.dl_rules_client.proofs.PurgeRanges.{purge_fits, purge_count}
use Rattle.dl_rules_client.proofs.OpenRanges.{OpenArgsFit, RecoverArgsFit, OpenedFits, OpenStageFits, open_fits}
use Rattle.dl_rules_client.proofs.OpenRanges.{open_begun, open_later, recovers_fit, FoundFits, recover_fits}
use Rattle.dl_rules_client.proofs.PurgeRanges.{purge_fits, purge_count}
use Rattle.dl_rules_client.proofs.OpenRanges.{recover_later, truncated_fits}
use Rattle.dl_rules_client.proofs.LogRanges.{started_fit}
use Rattle.dl_rules_client.proofs.ClientRanges.{StartFits, DoingFits, OrderFits, WriterFits, ReaderFits, NowFits, ActsFit, MoveFits, no_acts_fit}
use Rattle.dl_rules_client.proofs.ClientRanges.{event_fits, shows_fit, without_fits, stays_fits, refuses_fits, waits_fits, ends_fits, goes_fits}

-- an order begins
pub begins_fits : {A : Type 0} (me : ClientArgs) (n k more : ℕ) (now : ClientNow) (line : ℕ) (s : List ℕ) (doing : Doing) (first : Order → Next A)
    → IsClient me.number → IsU32 line → IsName s → DoingFits me k (record { line = line; stream = s; doing = doing }) doing
    → TellsFit (first (record { line = line; stream = s; doing = doing })) → NowFits me n k now
    → MoveFits me n k more (begins me now line s doing first)
begins_fits me n k more now line s doing first c number name is told fit =
    let o : Order = record { line = line; stream = s; doing = doing } in
    let order : OrderFits me k o = record { stream = name; line = number; doing = is } in
    goes_fits me n k more now o no_acts Any (first o) _ c order fit (no_acts_fit more) told (any_next (first o))
    (λ a u. waits_fits me n k more now o no_acts order fit (no_acts_fit more))

-- an open begins
pub begins_open_fits : (me : ClientArgs) (n k more : ℕ) (now : ClientNow) (line : ℕ) (s : List ℕ) (w : Option WriterView)
    → IsClient me.number → IsU32 line → IsName s → AllSome (WriterFits n) w → NowFits me n k now → MoveFits me n k more (begins_open me now line s w)
begins_open_fits me n k more now line s (Some w) c number name writer fit = refuses_fits me n k more now (why.Busy w.line) c writer.line fit
begins_open_fits me n k more now line s None c number name writer fit =
    begins_fits me n k more now line s (Opens []) (λ o. (open_first (open_args me o)).1) c number name
    (open_begun (open_args me (record { line = line; stream = s; doing = Opens [] }))) name fit

-- ---- reads

-- what a read found
rows_fit : (me : ClientArgs) (s : List ℕ) (rows : List ReadRow) → IsClient me.number → IsName s → GivenFits rows → IsEvent (rows_event me s rows)
rows_fit me s [] c name given = (c, name)
rows_fit me s (r ∷ rs) c name given = (c, (name, record { some = omega arith; most = omega (arith, given.0); valid = given.1 }))

-- a client with this reader
reader_fits : (me : ClientArgs) (n k : ℕ) (now : ClientNow) (r : ReaderView) → ReaderFits r → NowFits me n k now → NowFits me n k (with_reader now r)
reader_fits me n k now r is fit = record { count = fit.count; taken = fit.taken; order = fit.order; writer = fit.writer; reader = is }

-- a call of the reader
reader_goes_fits : (me : ClientArgs) (n k more : ℕ) (now : ClientNow) (o : Order) (r : ReaderView) (acts : Acts) (call : LogReaderCall)
    → IsClient me.number → OrderFits me k o → ReaderFits r → IsReaderCall call → NowFits me n k now → ActsFit more acts
    → MoveFits me n k more (reader_goes_on me now o r acts call)
unfolding reader_of after_reader_call
reader_goes_fits me n k more now o r acts call c order is heard fit acted =
    let moves = reader_move_fits r.args (reader_now r) call is.0 is.1 heard in
    let next : ClientNow = with_reader now (with_reader_call r call) in
    let next_fits : NowFits me n k next = reader_fits me n k now (with_reader_call r call) (is.0, moves.stage) fit in
    let move : Next (List ReadRow) = (reader_move r.args (reader_now r) call).1 in
    goes_fits me n k more next o acts GivenFits move _ c order next_fits acted moves.tells moves.gives
    (λ rows given. ends_fits me n k more next o acts (rows_event me o.stream rows) next_fits acted (rows_fit me o.stream rows c order.stream given))

-- a read begins
pub begins_read_fits : (me : ClientArgs) (n k more : ℕ) (now : ClientNow) (line count : ℕ) (r : Option ReaderView)
    → IsClient me.number → IsU32 line → count ≤ MAX_ROWS → AllSome ReaderFits r → NowFits me n k now
    → MoveFits me n k more (begins_read me now line count r)
begins_read_fits me n k more now line count None c number few is fit = stays_fits me n k more now fit
begins_read_fits me n k more now line count (Some r) c number few is fit =
    let o : Order = record { line = line; stream = r.args.stream; doing = Reads } in
    reader_goes_fits me n k more now o r (shows (event.Reading me.number o.stream)) (CallsRead line count) c
    (record { stream = is.0.stream; line = number; doing = tt }) is few fit
    (shows_fit more (event.Reading me.number o.stream) (c, is.0.stream))

-- a read hears something
read_fits : (me : ClientArgs) (n k more : ℕ) (now : ClientNow) (o : Order) (r : Option ReaderView) (h : Heard)
    → IsClient me.number → OrderFits me k o → AllSome ReaderFits r → HeardFits h → NowFits me n k now → MoveFits me n k more (read_hears me now o r h)
read_fits me n k more now o None h c order is heard fit = waits_fits me n k more now o no_acts order fit (no_acts_fit more)
read_fits me n k more now o (Some r) h c order is heard fit = reader_goes_fits me n k more now o r no_acts (HearsAll h) c order is heard fit (no_acts_fit more)

-- ---- how orders end

-- a segment that an open completed
recovered_fit : (me : ClientArgs) (more : ℕ) (s : List ℕ) (end : Option Dlsn) → IsClient me.number → IsName s → AllSome (IsPlaceFrom 0) end
    → ActsFit more (recovered_acts me s end)
recovered_fit me more s None c name is = no_acts_fit more
recovered_fit me more s (Some d) c name is = shows_fit more (event.Recovered me.number s d) (c, (name, is))

-- the writer that an open ends with
new_writer_fits : (me : ClientArgs) (n k : ℕ) (o : Order) (x : Opened) → IsCount me.conf.b → IsName o.stream → IsU32 o.line → OpenedFits x
    → WriterFits n (new_writer me o x)
unfolding log_of
new_writer_fits me n k o x b name line is =
    let few : x.segment ≤ most_u64 = omega (arith, is.segment) in
    record {
      stream = name;
      line = line;
      segment = (omega arith, few);
      member = is.member;
      log = started_fit (set_most * n) (2 * n) (new_writer me o x).args (omega arith, few) is.last
          (λ entry. members_fit x.ledger me.conf.b (new_sizes me.conf) entry b);
    }

-- an open ends
ends_open_fits : (me : ClientArgs) (n k more : ℕ) (now : ClientNow) (o : Order) (acts : Acts) (x : Opened)
    → IsClient me.number → IsName o.stream → IsU32 o.line → OpenedFits x → NowFits me n k now → ActsFit more acts
    → MoveFits me n k more (ends_open me now o acts x)
ends_open_fits me n k more now o acts x c name line is fit acted =
    let ended = without_fits me n k now o fit in
    let few : x.segment ≤ most_u64 = omega (arith, is.segment) in
    record {
      now = record { count = ended.count; taken = ended.taken; order = tt; writer = new_writer_fits me n k o x fit.count name line is; reader = ended.reader };
      acts = event_fits more (event.Writer me.number o.stream x.segment) acts (c, (name, (omega arith, few))) acted;
    }

-- what a recovery found
found_fits : (me : ClientArgs) (s : List ℕ) (f : Found) → IsClient me.number → IsName s → FoundFits f → IsEvent (found_event me s f)
found_fits me s Whole c name is = (c, name)
found_fits me s (Completes end) c name is = (c, (name, is))

-- where a reader starts
opened_fits : (me : ClientArgs) (s : List ℕ) (from : Start) (point : Dlsn) → IsClient me.number → IsName s → StartFits from → IsPlaceFrom 0 point
    → IsEvent (opened_event me s from point)
opened_fits me s (start.Tx txid) point c name is at = (c, (name, is))
opened_fits me s (start.Place d) point c name is at = (c, (name, cond_both (IsPlaceFrom 0) (is_before d point) point d at is))
opened_fits me s start.Oldest point c name is at = (c, (name, at))

-- a seek ends
ends_seek_fits : (me : ClientArgs) (n k more : ℕ) (now : ClientNow) (o : Order) (from : Start) (point : Dlsn)
    → IsClient me.number → IsName o.stream → StartFits from → IsPlaceFrom 0 point → NowFits me n k now
    → MoveFits me n k more (ends_seek me now o from point)
unfolding reader_of
ends_seek_fits me n k more now o from point c name is at fit = record {
  now = reader_fits me n k (without_order now o) (new_reader me o.stream from point) (record { count = fit.count; stream = name }, tt)
      (without_fits me n k now o fit);
  acts = shows_fit more (opened_event me o.stream from point) (opened_fits me o.stream from point c name is at);
}

-- ---- what orders hear

-- an order that heard something goes on, and ends with an event
goes_to_fits : {A : Type 0} (me : ClientArgs) (n k more : ℕ) (now : ClientNow) (o : Order) (doing : Doing) (P : A → Type 0) (next : Next A) (end : A → Event)
    → IsClient me.number → OrderFits me k (order_doing o doing) → NowFits me n k now → TellsFit next → NextFits P next → ((a : A) → P a → IsEvent (end a))
    → MoveFits me n k more (goes_to me now o doing next end)
goes_to_fits me n k more now o doing P next end c order fit told h shown =
    goes_fits me n k more now (order_doing o doing) no_acts P next _ c order fit (no_acts_fit more) told h
    (λ a p. ends_fits me n k more now o no_acts (end a) fit (no_acts_fit more) (shown a p))

-- an open that heard something
open_goes_fits : (me : ClientArgs) (n k more : ℕ) (now : ClientNow) (o : Order) (h : Heard) (heard : List Heard)
    → IsClient me.number → IsName o.stream → IsU32 o.line → OpenStageFits (open_stage (open_args me o) heard) → HeardFits h → NowFits me n k now
    → MoveFits me n k more (open_goes_on me now o h heard (open_stage (open_args me o) heard))
open_goes_fits me n k more now o h heard c name line is said fit =
    let args : OpenArgsFit (open_args me o) = record { count = fit.count; stream = name } in
    let stage : OpenStage = open_stage (open_args me o) heard in
    let acts : Acts = recovered_acts me o.stream (open_recovers stage h) in
    let acted : ActsFit more acts = recovered_fit me more o.stream (open_recovers stage h) c name (recovers_fit stage h is) in
    goes_fits me n k more now (order_doing o (Opens (h ∷ heard))) acts OpenedFits (open_hears (open_args me o) stage h).1 _ c
    (record { stream = name; line = line; doing = open_later (open_args me o) h heard args is said }) fit acted
    (open_told (open_args me o) stage h args is said) (open_fits (open_args me o) stage h args is said).1
    (λ x p. ends_open_fits me n k more now o acts x c name line p fit acted)

-- an order of this doing, on the stream of another
order_of : (me : ClientArgs) (k : ℕ) (o : Order) (doing : Doing) → IsName o.stream → IsU32 o.line → DoingFits me k o doing
    → OrderFits me k (order_doing o doing)
order_of me k o doing name line is = record { stream = name; line = line; doing = is }

-- the order under way hears something
pub order_fits : (me : ClientArgs) (n k more : ℕ) (now : ClientNow) (o : Order) (h : Heard) (doing : Doing)
    → IsClient me.number → suc k ≤ most_u64 → IsName o.stream → DoingFits me k o doing → HeardFits h → OrderFits me (suc k) o → NowFits me n (suc k) now
    → MoveFits me n (suc k) more (order_hears me now o h doing)
unfolding order_hears
order_fits me n k more now o h (Makes heard) c few name is said order fit =
    goes_to_fits me n (suc k) more now o (Makes (h ∷ heard)) Any (make_hears o.stream (make_stage o.stream heard) h).1 (λ u. event.Created me.number o.stream)
    c (order_of me (suc k) o (Makes (h ∷ heard)) name order.line tt) fit (make_told o.stream (make_stage o.stream heard) h name said) (any_next _)
    (λ a p. (c, name))
order_fits me n k more now o h (Removes heard) c few name is said order fit =
    goes_to_fits me n (suc k) more now o (Removes (h ∷ heard)) Any (remove_hears o.stream (remove_stage o.stream heard) h).1
    (λ u. event.Removed me.number o.stream)
    c (order_of me (suc k) o (Removes (h ∷ heard)) name order.line tt) fit (remove_told o.stream (remove_stage o.stream heard) h name said) (any_next _)
    (λ a p. (c, name))
order_fits me n k more now o h (Opens heard) c few name is said order fit = open_goes_fits me n (suc k) more now o h heard c name order.line is said fit
order_fits me n k more now o h (Recovers heard) c few name is said order fit =
    let args : RecoverArgs = recover_args me o in
    let own : RecoverArgsFit args = record { count = fit.count; stream = name } in
    goes_to_fits me n (suc k) more now o (Recovers (h ∷ heard)) FoundFits (recover_hears args (recover_stage args heard) h).1 (found_event me o.stream)
    c (order_of me (suc k) o (Recovers (h ∷ heard)) name order.line (recover_later args h heard own is)) fit
    (recover_told args (recover_stage args heard) h own is said)
    (recover_fits args (recover_stage args heard) h own is).1
    (λ a p. found_fits me o.stream a c name p)
order_fits me n k more now o h Commits c few name is said order fit = waits_fits me n (suc k) more now o no_acts order fit (no_acts_fit more)
order_fits me n k more now o h Confirms c few name is said order fit = waits_fits me n (suc k) more now o no_acts order fit (no_acts_fit more)
order_fits me n k more now o h (Closes args heard) c few name is said order fit =
    goes_to_fits me n (suc k) more now o (Closes args (h ∷ heard)) Any (close_hears args (close_stage args heard) h).1 (λ u. event.Released me.number o.stream)
    c (order_of me (suc k) o (Closes args (h ∷ heard)) name order.line is) fit (close_told args (close_stage args heard) h is said) (any_next _)
    (λ a p. (c, name))
order_fits me n k more now o h (Seeks from heard) c few name is said order fit =
    let seeks = seek_told o.stream (seek_stage o.stream heard) h name said in
    goes_fits me n (suc k) more now (order_doing o (Seeks from (h ∷ heard))) no_acts (IsPlaceFrom 1) (seek_hears o.stream (seek_stage o.stream heard) h).1 _ c
    (order_of me (suc k) o (Seeks from (h ∷ heard)) name order.line is) fit (no_acts_fit more) seeks.0 seeks.1
    (λ point p. ends_seek_fits me n (suc k) more now o from point c name is (any_place point p) fit)
order_fits me n k more now o h Reads c few name is said order fit = read_fits me n (suc k) more now o now.reader h c order fit.reader said fit
order_fits me n k more now o h (Truncates to heard) c few name is said order fit =
    goes_to_fits me n (suc k) more now o (Truncates to (h ∷ heard)) (IsPlaceFrom 0)
    (truncate_hears (truncate_args o to) (truncate_stage (truncate_args o to) heard) h).1 (event.Truncated me.number o.stream)
    c (order_of me (suc k) o (Truncates to (h ∷ heard)) name order.line is) fit
    (truncate_told (truncate_args o to) (truncate_stage (truncate_args o to) heard) h (name, is) said)
    (truncated_fits (truncate_args o to) (truncate_stage (truncate_args o to) heard) h (any_place to is))
    (λ d p. (c, (name, p)))
order_fits me n k more now o h (Purges heard) c few name is said order fit =
    goes_to_fits me n (suc k) more now o (Purges (h ∷ heard)) (λ count. count ≤ suc k) (purge_hears o.stream (purge_stage o.stream heard) h).1
    (event.Purged me.number o.stream)
    c (order_of me (suc k) o (Purges (h ∷ heard)) name order.line (omega (arith, is))) fit
    (purge_told o.stream (purge_stage o.stream heard) h name said)
    (purge_fits o.stream (purge_stage o.stream heard) h k (omega (arith, is, purge_count o.stream heard)))
    (λ count p. (c, (name, (omega arith, omega (arith, p, few)))))

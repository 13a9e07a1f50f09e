-- What a client's orders show as they begin, and as they hear something.
use Rattle.std.proofs.Common.{◌≡◌, ℕ, Bool, true, false, List, [], ◌∷◌, Option, Some, None, refl, sym, subst}
use Rattle.dl_types.specs.declared.dlsn.Dlsn.{Dlsn}
use Rattle.dl_types.specs.declared.read_row.ReadRow.{ReadRow}
use Rattle.dl_types.specs.declared.refusal.Refusal.TheVariants as why
use Rattle.dl_types.specs.declared.start.Start.{Start}
use Rattle.dl_types.specs.declared.start.Start.TheVariants as start
use Rattle.dl_msg.specs.declared.heard.Heard.{Heard}
use Rattle.dl_transcript.specs.declared.event.Event.{Event}
use Rattle.dl_transcript.specs.declared.event.Event.TheVariants as event
use Rattle.dl_transcript.specs.Legal.{History}
use Rattle.dl_rules_stream.specs.Orders.{Next}
use Rattle.dl_rules_stream.specs.Makes.{make_hears, make_stage}
use Rattle.dl_rules_stream.specs.Removes.{remove_hears, remove_stage}
use Rattle.dl_rules_stream.specs.Opens.{OpenStage, Opened, open_first, open_hears, open_recovers, open_stage}
use Rattle.dl_rules_stream.specs.Recovers.{RecoverArgs, Found, Whole, Completes, recover_hears, recover_stage}
use Rattle.dl_rules_stream.specs.Closes.{close_hears, close_stage}
use Rattle.dl_rules_stream.specs.Seeks.{position_at, seek_hears, seek_stage}
use Rattle.dl_rules_stream.specs.Truncates.{truncate_hears, truncate_stage}
use Rattle.dl_rules_stream.specs.Purges.{purge_hears, purge_stage}
use Rattle.dl_rules_stream.specs.LogReaders.{LogReaderCall, Reads as CallsRead, HearsAll, reader_move}
use Rattle.dl_rules_client.specs.Acts.{ClientArgs, Acts, no_acts, shows}
use Rattle.dl_rules_client.specs.Views.{Doing, Makes, Removes, Opens, Recovers, Commits, Confirms, Closes, Seeks, Reads, Truncates, Purges, Order}
use Rattle.dl_rules_client.specs.Views.{WriterView, ReaderView, ClientNow, open_args, recover_args, truncate_args, order_doing}
use Rattle.dl_rules_client.specs.Views.{reader_now, with_reader_call, with_reader}
use Rattle.dl_rules_client.specs.Moves.{ends_with, waits}
use Rattle.dl_rules_client.specs.Orders.{begins, begins_open, rows_event, reader_goes_on, begins_read, read_hears, recovered_acts, ends_open}
use Rattle.dl_rules_client.specs.Orders.{found_event, opened_event, ends_seek, goes_to, open_goes_on, order_hears}
use Rattle.dl_law_legal.proofs.Asides.{IsAside}
use Rattle.dl_law_client.specs.Seen.{is_read, has_read, stream_read, PartsSeen, ClientSeen}
use Rattle.dl_law_client.proofs.Shown.{Shows, aside_shows, reading_shows, end_shows, rows_shows, opened_shows, opened_from_shows}
use Rattle.dl_law_client.proofs.Refusals.{EndsBy, no_read_ends, reader_ends}
use Rattle.dl_law_client.proofs.Tells.{TellsAsks, make_asks, remove_asks, close_asks, seek_asks, truncate_asks, purge_asks, open_asks}
use Rattle.dl_law_client.proofs.Tells.{recover_asks, reader_asks}
use Rattle.dl_law_client.proofs.Moves.{none_lead, event_leads, MoveLeads, SoFar, stays_lead, refuses_lead, waits_lead, ends_lead, ends_aside, goes_lead}

-- ---- how orders begin

-- a client with no read under way was shown so
abbrev pub FreeSeen : ClientArgs → History → ClientNow → Type 0
FreeSeen me s now = PartsSeen now.taken (stream_read now.reader) false (s.clients me.number)

-- it has done nothing yet
free_lead : (me : ClientArgs) (s : History) (now : ClientNow) → FreeSeen me s now → SoFar me now.taken now.asked s now false no_acts
free_lead me s now h = none_lead me s now (stream_read now.reader) false h

-- an order begins that is no read
pub begins_lead : {A : Type 0} (me : ClientArgs) (s : History) (now : ClientNow) (line : ℕ) (stream : List ℕ) (doing : Doing) (first : Order → Next A)
    → is_read doing ≡ false → TellsAsks (first (record { line = line; stream = stream; doing = doing })) → FreeSeen me s now
    → MoveLeads me now.taken now.asked s (begins me now line stream doing first)
begins_lead me s now line stream doing first e asks h =
    let o : Order = record { line = line; stream = stream; doing = doing } in
    let acts : SoFar me now.taken now.asked s now (is_read doing) no_acts =
    subst (λ (b : Bool). SoFar me now.taken now.asked s now b no_acts) (sym e) (free_lead me s now h) in
    goes_lead me now.taken now.asked s now o no_acts (first o) (λ a. waits now o no_acts) acts
    (subst (λ (b : Bool). EndsBy b (first o)) (sym e) (no_read_ends (first o))) asks
    (λ a. waits_lead me now.taken now.asked s now o no_acts acts)

-- a client without a read is shown as it is
pub free_is : (me : ClientArgs) (s : History) (now : ClientNow) → has_read now.order ≡ false → FreeSeen me s now → ClientSeen now (s.clients me.number)
free_is me s now e h = subst (λ (b : Bool). PartsSeen now.taken (stream_read now.reader) b (s.clients me.number)) (sym e) h

-- an open begins
pub begins_open_lead : (me : ClientArgs) (s : History) (now : ClientNow) (line : ℕ) (stream : List ℕ) (w : Option WriterView) → has_read now.order ≡ false
    → FreeSeen me s now → MoveLeads me now.taken now.asked s (begins_open me now line stream w)
begins_open_lead me s now line stream (Some w) e h = refuses_lead me s now (why.Busy w.line) refl (free_is me s now e h)
begins_open_lead me s now line stream None e h =
    begins_lead me s now line stream (Opens []) (λ o. (open_first (open_args me o)).1) refl tt h

-- ---- reads

-- what a read found is shown
found_shows : (me : ClientArgs) (t : History) (stream : List ℕ) (rows : List ReadRow) (count : ℕ) (of : Option (List ℕ)) (reading : Bool)
    → PartsSeen count of reading (t.clients me.number) → Shows me.number t (rows_event me stream rows) count of false
found_shows me t stream [] count of reading h = end_shows me.number t stream count of reading h
found_shows me t stream (r ∷ rs) count of reading h = rows_shows me.number t stream (r ∷ rs) count of reading h

-- an order that ends by refusals of a read may be no read
may_end : {A : Type 0} (reading : Bool) (next : Next A) → EndsBy true next → EndsBy reading next
may_end true next h = h
may_end false next h = no_read_ends next

-- a call of the reader
reader_goes_lead : (me : ClientArgs) (before first : ℕ) (s : History) (now : ClientNow) (o : Order) (r : ReaderView) (acts : Acts) (call : LogReaderCall)
    → SoFar me before first s (with_reader now r) (is_read o.doing) acts → MoveLeads me before first s (reader_goes_on me now o r acts call)
reader_goes_lead me before first s now o r acts call h =
    let next : ClientNow = with_reader now (with_reader_call r call) in
    let move : Next (List ReadRow) = (reader_move r.args (reader_now r) call).1 in
    goes_lead me before first s next o acts move (λ rows. ends_with next o acts (rows_event me o.stream rows)) h
    (may_end (is_read o.doing) move (reader_ends r.args (reader_now r) call)) (reader_asks r.args (reader_now r) call)
    (λ rows. ends_lead me before first s next o acts (rows_event me o.stream rows) (is_read o.doing) h
    (λ t f. found_shows me t o.stream rows now.taken (Some r.args.stream) (is_read o.doing) f))

-- a read begins
pub begins_read_lead : (me : ClientArgs) (s : History) (now : ClientNow) (line count : ℕ) (r : Option ReaderView) → now.reader ≡ r → has_read now.order ≡ false
    → FreeSeen me s now → MoveLeads me now.taken now.asked s (begins_read me now line count r)
begins_read_lead me s now line count None w e h = stays_lead me s now (free_is me s now e h)
begins_read_lead me s now line count (Some r) w e h =
    let o : Order = record { line = line; stream = r.args.stream; doing = Reads } in
    let seen : PartsSeen now.taken (Some r.args.stream) false (s.clients me.number) =
    subst (λ (x : Option ReaderView). PartsSeen now.taken (stream_read x) false (s.clients me.number)) w h in
    reader_goes_lead me now.taken now.asked s now o r (shows (event.Reading me.number o.stream)) (CallsRead line count)
    (event_leads me now.taken now.asked s now.taken now.asked (Some r.args.stream) (Some r.args.stream) false true no_acts (event.Reading me.number o.stream)
    (none_lead me s now (Some r.args.stream) false seen)
    (λ t f. reading_shows me.number t r.args.stream now.taken f))

-- a read hears something
read_lead : (me : ClientArgs) (before first : ℕ) (s : History) (now : ClientNow) (o : Order) (r : Option ReaderView) (h : Heard) → now.reader ≡ r
    → SoFar me before first s now (is_read o.doing) no_acts → MoveLeads me before first s (read_hears me now o r h)
read_lead me before first s now o None h w f = waits_lead me before first s now o no_acts f
read_lead me before first s now o (Some r) h w f =
    reader_goes_lead me before first s now o r no_acts (HearsAll h)
    (subst (λ (x : Option ReaderView). SoFar me before first s (record now { reader = x }) (is_read o.doing) no_acts) w f)

-- ---- how orders end

-- a segment that an open completed on its way
recovered_lead : (me : ClientArgs) (before first : ℕ) (s : History) (now : ClientNow) (stream : List ℕ) (end : Option Dlsn)
    → SoFar me before first s now false no_acts → SoFar me before first s now false (recovered_acts me stream end)
recovered_lead me before first s now stream None h = h
recovered_lead me before first s now stream (Some d) h =
    let of : Option (List ℕ) = stream_read now.reader in
    event_leads me before first s now.taken now.asked of of false false no_acts (event.Recovered me.number stream d) h
    (λ t f. aside_shows me.number t (event.Recovered me.number stream d) now.taken of false refl f)

-- an open ends
ends_open_lead : (me : ClientArgs) (before first : ℕ) (s : History) (now : ClientNow) (o : Order) (acts : Acts) (x : Opened)
    → SoFar me before first s now false acts → MoveLeads me before first s (ends_open me now o acts x)
ends_open_lead me before first s now o acts x h =
    let of : Option (List ℕ) = stream_read now.reader in
    let all = event_leads me before first s now.taken now.asked of of false false acts (event.Writer me.number o.stream x.segment) h
    (λ t f. aside_shows me.number t (event.Writer me.number o.stream x.segment) now.taken of false refl f) in
    record { leads = all.leads; taken = all.taken; letters = all.letters; asks = all.asks }

-- what a recovery found goes aside
found_aside : (me : ClientArgs) (stream : List ℕ) (f : Found) → IsAside (found_event me stream f)
found_aside me stream Whole = refl
found_aside me stream (Completes end) = refl

-- where a reader starts is shown
opened_event_shows : (me : ClientArgs) (t : History) (stream : List ℕ) (from : Start) (point : Dlsn) (count : ℕ) (of : Option (List ℕ))
    → PartsSeen count of false (t.clients me.number) → Shows me.number t (opened_event me stream from point) count (Some stream) false
opened_event_shows me t stream (start.Tx txid) point count of h = opened_from_shows me.number t stream txid count of false h
opened_event_shows me t stream (start.Place d) point count of h =
    opened_shows me.number t stream (position_at point (start.Place d)).cursor count of false h
opened_event_shows me t stream start.Oldest point count of h = opened_shows me.number t stream (position_at point start.Oldest).cursor count of false h

-- a seek ends
ends_seek_lead : (me : ClientArgs) (before first : ℕ) (s : History) (now : ClientNow) (o : Order) (from : Start) (point : Dlsn)
    → SoFar me before first s now false no_acts → MoveLeads me before first s (ends_seek me now o from point)
ends_seek_lead me before first s now o from point h =
    let of : Option (List ℕ) = stream_read now.reader in
    let all = event_leads me before first s now.taken now.asked of (Some o.stream) false false no_acts (opened_event me o.stream from point) h
    (λ t f. opened_event_shows me t o.stream from point now.taken of f) in
    record { leads = all.leads; taken = all.taken; letters = all.letters; asks = all.asks }

-- ---- what orders hear

-- an order that is no read heard something, goes on, and ends with an event that goes aside
goes_to_lead : {A : Type 0} (me : ClientArgs) (before first : ℕ) (s : History) (now : ClientNow) (o : Order) (doing : Doing) (next : Next A) (end : A → Event)
    → is_read doing ≡ false → TellsAsks next → ((a : A) → IsAside (end a)) → SoFar me before first s now false no_acts
    → MoveLeads me before first s (goes_to me now o doing next end)
goes_to_lead me before first s now o doing next end e asks aside h =
    goes_lead me before first s now (order_doing o doing) no_acts next (λ a. ends_with now o no_acts (end a))
    (subst (λ (b : Bool). SoFar me before first s now b no_acts) (sym e) h)
    (subst (λ (b : Bool). EndsBy b next) (sym e) (no_read_ends next)) asks
    (λ a. ends_aside me before first s now o no_acts (end a) (aside a) h)

-- an open that heard something
open_goes_lead : (me : ClientArgs) (before first : ℕ) (s : History) (now : ClientNow) (o : Order) (h : Heard) (heard : List Heard) (stage : OpenStage)
    → SoFar me before first s now false no_acts → MoveLeads me before first s (open_goes_on me now o h heard stage)
open_goes_lead me before first s now o h heard stage f =
    let acts : Acts = recovered_acts me o.stream (open_recovers stage h) in
    let acted : SoFar me before first s now false acts = recovered_lead me before first s now o.stream (open_recovers stage h) f in
    goes_lead me before first s now (order_doing o (Opens (h ∷ heard))) acts (open_hears (open_args me o) stage h).1 (ends_open me now o acts)
    acted (no_read_ends (open_hears (open_args me o) stage h).1) (open_asks (open_args me o) stage h) (λ x. ends_open_lead me before first s now o acts x acted)

-- the order under way hears something
pub order_lead : (me : ClientArgs) (before first : ℕ) (s : History) (now : ClientNow) (o : Order) (h : Heard) (doing : Doing) → o.doing ≡ doing
    → SoFar me before first s now (is_read doing) no_acts → MoveLeads me before first s (order_hears me now o h doing)
unfolding order_hears
order_lead me before first s now o h (Makes heard) e f =
    goes_to_lead me before first s now o (Makes (h ∷ heard)) (make_hears o.stream (make_stage o.stream heard) h).1 (λ u. event.Created me.number o.stream)
    refl (make_asks o.stream (make_stage o.stream heard) h) (λ u. refl) f
order_lead me before first s now o h (Removes heard) e f =
    goes_to_lead me before first s now o (Removes (h ∷ heard)) (remove_hears o.stream (remove_stage o.stream heard) h).1
    (λ u. event.Removed me.number o.stream) refl (remove_asks o.stream (remove_stage o.stream heard) h) (λ u. refl) f
order_lead me before first s now o h (Opens heard) e f = open_goes_lead me before first s now o h heard (open_stage (open_args me o) heard) f
order_lead me before first s now o h (Recovers heard) e f =
    let args : RecoverArgs = recover_args me o in
    goes_to_lead me before first s now o (Recovers (h ∷ heard)) (recover_hears args (recover_stage args heard) h).1 (found_event me o.stream)
    refl (recover_asks args (recover_stage args heard) h) (λ x. found_aside me o.stream x) f
order_lead me before first s now o h Commits e f =
    waits_lead me before first s now o no_acts (subst (λ (d : Doing). SoFar me before first s now (is_read d) no_acts) (sym e) f)
order_lead me before first s now o h Confirms e f =
    waits_lead me before first s now o no_acts (subst (λ (d : Doing). SoFar me before first s now (is_read d) no_acts) (sym e) f)
order_lead me before first s now o h (Closes args heard) e f =
    goes_to_lead me before first s now o (Closes args (h ∷ heard)) (close_hears args (close_stage args heard) h).1 (λ u. event.Released me.number o.stream)
    refl (close_asks args (close_stage args heard) h) (λ u. refl) f
order_lead me before first s now o h (Seeks from heard) e f =
    goes_lead me before first s now (order_doing o (Seeks from (h ∷ heard))) no_acts (seek_hears o.stream (seek_stage o.stream heard) h).1
    (ends_seek me now o from) f (no_read_ends (seek_hears o.stream (seek_stage o.stream heard) h).1) (seek_asks o.stream (seek_stage o.stream heard) h)
    (λ point. ends_seek_lead me before first s now o from point f)
order_lead me before first s now o h Reads e f =
    read_lead me before first s now o now.reader h refl (subst (λ (d : Doing). SoFar me before first s now (is_read d) no_acts) (sym e) f)
order_lead me before first s now o h (Truncates to heard) e f =
    goes_to_lead me before first s now o (Truncates to (h ∷ heard)) (truncate_hears (truncate_args o to) (truncate_stage (truncate_args o to) heard) h).1
    (event.Truncated me.number o.stream) refl (truncate_asks (truncate_args o to) (truncate_stage (truncate_args o to) heard) h) (λ d. refl) f
order_lead me before first s now o h (Purges heard) e f =
    goes_to_lead me before first s now o (Purges (h ∷ heard)) (purge_hears o.stream (purge_stage o.stream heard) h).1 (event.Purged me.number o.stream)
    refl (purge_asks o.stream (purge_stage o.stream heard) h) (λ n. refl) f

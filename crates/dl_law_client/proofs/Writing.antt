-- What a client shows of its writer: records that are taken are counted on, and no refusal of a writer ends a read.
use Rattle.std.proofs.Common.{◌≡◌, ℕ, suc, ◌+◌, Bool, false, ◌==◌, List, [], ◌∷◌, length, Option, Some, None, Result, Ok, Err}
use Rattle.std.proofs.Common.{refl, sym, ap, subst, arith}
use Rattle.dl_types.specs.declared.refusal.Refusal.{Refusal}
use Rattle.dl_types.specs.declared.refusal.Refusal.TheVariants as why
use Rattle.dl_types.specs.declared.row.Row.{Row}
use Rattle.dl_types.specs.Places.{place}
use Rattle.dl_msg.specs.declared.msg.Msg.{Msg}
use Rattle.dl_transcript.specs.declared.event.Event.TheVariants as event
use Rattle.dl_transcript.specs.Legal.{History}
use Rattle.dl_rules_stream.specs.Closes.{CloseArgs, close_first}
use Rattle.dl_rules_stream.specs.LogWriters.{LogCall, Appends, AppendsSet, Flushes, HearsFrom, LogMove, LogState, HasCommitted, MayClose, IsFenced}
use Rattle.dl_rules_stream.specs.LogWriters.{log_state, appends, appends_set, log_flushes, commits, closes, log_hears}
use Rattle.dl_rules_stream.specs.LogWriters as log
use Rattle.dl_rules_client.specs.Acts.{ClientArgs, Acts, no_acts}
use Rattle.dl_rules_client.specs.Views.{Doing, Commits, Confirms, Closes, Order, WriterView, ClientNow, stays, order_doing, log_now, with_call}
use Rattle.dl_rules_client.specs.Views.{with_writer, next_origin}
use Rattle.dl_rules_client.specs.Moves.{refusal_event, with_order, waits}
use Rattle.dl_rules_client.specs.Writing.{entry_between, sent_events, ack_events, move_acts, took_events, refuses_call, takes, appends_one, appends_many}
use Rattle.dl_rules_client.specs.Writing.{sends, flushes, close_args, begins_close, log_goes_on, order_goes_on, after_call, begins_on_log, begins_commit}
use Rattle.dl_rules_client.specs.Writing.{begins_confirm, writer_hears}
use Rattle.dl_rules_client.proofs.RangeLists.{cond_both}
use Rattle.dl_law_legal.specs.Ruled.{is_ruled, Leads}
use Rattle.dl_law_legal.proofs.Leads.{leads_none}
use Rattle.dl_law_client.specs.Seen.{is_read, has_read, stream_read, PartsSeen, ClientSeen, SeenOf, ActsLead}
use Rattle.dl_law_client.proofs.Shown.{others_same, aside_shows, ack_shows, took_shows, beside_shows}
use Rattle.dl_law_client.proofs.Refusals.{no_read_ends, LeavesRead, CallLeaves, appends_leave, sets_leave, flushes_leave, commits_leave, closes_leave}
use Rattle.dl_law_client.proofs.Tells.{MoveAsks, CallAsks, appends_ask, sets_ask, flushes_ask, commits_ask, closes_ask, log_hears_ask}
use Rattle.dl_law_client.proofs.Moves.{events_then, told_are_of, told_ask, MoveLeads, SoFar, stays_lead, refuses_lead, waits_lead, ends_lead, ends_aside}
use Rattle.dl_law_client.proofs.Moves.{goes_lead}
use Rattle.dl_law_client.proofs.Orders.{FreeSeen, free_is}

-- ---- what a call of the writer shows

-- nothing is shown
none_shown : (c : ℕ) (t : History) (count : ℕ) (of : Option (List ℕ)) (reading : Bool) → PartsSeen count of reading (t.clients c)
    → Leads is_ruled (SeenOf c t count of reading) t []
none_shown c t count of reading h = leads_none is_ruled (SeenOf c t count of reading) t (record { client = h; others = others_same c t })

-- rows that are confirmed are acknowledged
acks_lead : (me : ClientArgs) (rows : List Row) (t : History) (count : ℕ) (of : Option (List ℕ)) (reading : Bool)
    → PartsSeen count of reading (t.clients me.number)
    → Leads is_ruled (SeenOf me.number t count of reading) t (ack_events me rows)
acks_lead me [] t count of reading h = none_shown me.number t count of reading h
acks_lead me (r ∷ rows) t count of reading h =
    events_then me.number t count count of of reading reading (event.Ack me.number r.origin.call r.place ∷ []) (ack_events me rows)
    (ack_shows me.number t r.origin.call r.place count of reading h) (λ u f. acks_lead me rows u count of reading f)

-- the entry that was sent
sent_lead : (me : ClientArgs) (w : WriterView) (x : Option log.SentEntry) (t : History) (count : ℕ) (of : Option (List ℕ)) (reading : Bool)
    → PartsSeen count of reading (t.clients me.number) → Leads is_ruled (SeenOf me.number t count of reading) t (sent_events me w x)
sent_lead me w None t count of reading h = none_shown me.number t count of reading h
sent_lead me w (Some x) t count of reading h =
    aside_shows me.number t (event.Sent me.number w.opened.segment x.entry) count of reading refl h

-- the acts of a writer's call
move_lead : (me : ClientArgs) (w : WriterView) (m : LogMove) (s : History) (count asked : ℕ) (of : Option (List ℕ)) (reading : Bool)
    → MoveAsks m → PartsSeen count of reading (s.clients me.number) → ActsLead me count asked s count asked of reading (move_acts me w m)
move_lead me w m s count asked of reading tells h = record {
  leads = events_then me.number s count count of of reading reading (ack_events me m.rows) (sent_events me w (entry_between (log_now w) m.now))
      (acks_lead me m.rows s count of reading h) (λ t f. sent_lead me w (entry_between (log_now w) m.now) t count of reading f);
  taken = omega arith;
  letters = told_are_of me m.letters tells;
  asks = told_ask me asked m.letters;
}

-- records that are taken are counted on
tooks_lead : (me : ClientArgs) (stream : List ℕ) (txid call : ℕ) (payloads : List (List ℕ)) (t : History) (count : ℕ) (of : Option (List ℕ)) (reading : Bool)
    → call ≡ suc count → PartsSeen count of reading (t.clients me.number)
    → Leads is_ruled (SeenOf me.number t (count + length payloads) of reading) t (took_events me stream txid call payloads)
tooks_lead me stream txid call [] t count of reading e h =
    let same : count ≡ count + length {A = List ℕ} [] = omega arith in
    none_shown me.number t (count + length {A = List ℕ} []) of reading (subst (λ n. PartsSeen n of reading (t.clients me.number)) same h)
tooks_lead me stream txid call (p ∷ ps) t count of reading e h =
    let same : suc count + length ps ≡ count + length (p ∷ ps) = omega arith in
    subst (λ n. Leads is_ruled (SeenOf me.number t n of reading) t (took_events me stream txid call (p ∷ ps))) same
    (events_then me.number t (suc count) (suc count + length ps) of of reading reading (event.Took me.number call stream txid p ∷ [])
    (took_events me stream txid (suc call) ps)
    (took_shows me.number t call stream txid p count of reading e h)
    (λ u f. tooks_lead me stream txid (suc call) ps u (suc count) of reading (ap suc e) f))

-- how many events show them
tooks_length : (me : ClientArgs) (stream : List ℕ) (txid call : ℕ) (payloads : List (List ℕ))
    → length (took_events me stream txid call payloads) ≡ length payloads
tooks_length me stream txid call [] = refl
tooks_length me stream txid call (p ∷ ps) = omega (arith, tooks_length me stream txid (suc call) ps)

-- ---- records

-- a call that is refused beside a read
refused_call_lead : (me : ClientArgs) (s : History) (now : ClientNow) (w : WriterView) (call : LogCall) (r : Refusal) → LeavesRead r
    → ClientSeen now (s.clients me.number) → MoveLeads me now.taken now.asked s (refuses_call me now w call r)
refused_call_lead me s now w call r e h = refuses_lead me s (with_writer now (with_call w call)) r e h

-- a call by which records are taken
takes_lead : (me : ClientArgs) (s : History) (now : ClientNow) (w : WriterView) (call : LogCall) (txid : ℕ) (payloads : List (List ℕ))
    (result : Result LogMove Refusal) → CallLeaves result → CallAsks result → ClientSeen now (s.clients me.number)
    → MoveLeads me now.taken now.asked s (takes me now w call txid payloads result)
takes_lead me s now w call txid payloads (Err r) e tells h = refused_call_lead me s now w call r e h
takes_lead me s now w call txid payloads (Ok m) e tells h =
    let of : Option (List ℕ) = stream_read now.reader in
    let reading : Bool = has_read now.order in
    let first = move_lead me w m s now.taken now.asked of reading tells h in
    record {
      leads = events_then me.number s now.taken (now.taken + length payloads) of of reading reading (move_acts me w m).events
          (took_events me w.stream txid (suc now.taken) payloads) first.leads
          (λ t f. tooks_lead me w.stream txid (suc now.taken) payloads t now.taken of reading refl f);
      taken = omega (arith, tooks_length me w.stream txid (suc now.taken) payloads);
      letters = first.letters;
      asks = first.asks;
    }

-- a record is appended
pub appends_one_lead : (me : ClientArgs) (s : History) (now : ClientNow) (w : Option WriterView) (txid : ℕ) (payload : List ℕ)
    → ClientSeen now (s.clients me.number) → MoveLeads me now.taken now.asked s (appends_one me now w txid payload)
appends_one_lead me s now None txid payload h = refuses_lead me s now why.NoWriter refl h
appends_one_lead me s now (Some w) txid payload h =
    takes_lead me s now w (Appends (next_origin me now) txid payload) txid (payload ∷ []) (appends (log_now w) (next_origin me now) txid payload)
    (appends_leave (log_now w) (next_origin me now) txid payload) (appends_ask (log_now w) (next_origin me now) txid payload) h

-- a set of records is appended
pub appends_many_lead : (me : ClientArgs) (s : History) (now : ClientNow) (w : Option WriterView) (txid : ℕ) (payloads : List (List ℕ))
    → ClientSeen now (s.clients me.number) → MoveLeads me now.taken now.asked s (appends_many me now w txid payloads)
appends_many_lead me s now None txid payloads h = refuses_lead me s now why.NoWriter refl h
appends_many_lead me s now (Some w) txid payloads h =
    takes_lead me s now w (AppendsSet (next_origin me now) txid payloads) txid payloads (appends_set (log_now w) (next_origin me now) txid payloads)
    (sets_leave (log_now w) (next_origin me now) txid payloads) (sets_ask (log_now w) (next_origin me now) txid payloads) h

-- what was taken is sent
sends_lead : (me : ClientArgs) (s : History) (now : ClientNow) (w : WriterView) (result : Result LogMove Refusal) → CallLeaves result → CallAsks result
    → ClientSeen now (s.clients me.number) → MoveLeads me now.taken now.asked s (sends me now w result)
sends_lead me s now w (Err r) e tells h = refused_call_lead me s now w Flushes r e h
sends_lead me s now w (Ok m) e tells h =
    let first = move_lead me w m s now.taken now.asked (stream_read now.reader) (has_read now.order) tells h in
    record { leads = first.leads; taken = first.taken; letters = first.letters; asks = first.asks }

-- a flush
pub flushes_lead : (me : ClientArgs) (s : History) (now : ClientNow) (w : Option WriterView) → ClientSeen now (s.clients me.number)
    → MoveLeads me now.taken now.asked s (flushes me now w)
flushes_lead me s now None h = refuses_lead me s now why.NoWriter refl h
flushes_lead me s now (Some w) h = sends_lead me s now w (log_flushes (log_now w)) (flushes_leave (log_now w)) (flushes_ask (log_now w)) h

-- ---- commit and close

-- a close goes on with its requests
close_goes_lead : (me : ClientArgs) (before first : ℕ) (s : History) (now : ClientNow) (o : Order) (acts : Acts) (args : CloseArgs) → is_read o.doing ≡ false
    → SoFar me before first s now false acts → MoveLeads me before first s (begins_close me now o acts args)
close_goes_lead me before first s now o acts args e h =
    goes_lead me before first s now (order_doing o (Closes args [])) acts (close_first args).1 (λ (u : Unit {0}). waits now o acts) h
    (no_read_ends (close_first args).1) tt
    (λ u. waits_lead me before first s now o acts (subst (λ (b : Bool). SoFar me before first s now b acts) (sym e) h))

-- what an order does that is this
doing_is : (me : ClientArgs) (before first : ℕ) (s : History) (now : ClientNow) (o : Order) (acts : Acts) (doing : Doing) → o.doing ≡ doing
    → SoFar me before first s now (is_read o.doing) acts → SoFar me before first s now (is_read doing) acts
doing_is me before first s now o acts doing e h = subst (λ (d : Doing). SoFar me before first s now (is_read d) acts) e h

-- a commit or a close goes on as its log does
log_goes_lead : (me : ClientArgs) (before first : ℕ) (s : History) (now : ClientNow) (w : WriterView) (o : Order) (acts : Acts) (doing : Doing)
    (state : LogState)
    → o.doing ≡ doing → SoFar me before first s now (is_read o.doing) acts → MoveLeads me before first s (log_goes_on me now w o acts doing state)
unfolding log_goes_on
log_goes_lead me before first s now w o acts Commits (HasCommitted control) e h =
    ends_aside me before first s now o acts (event.Committed w.stream (place w.opened.segment control 0)) refl
    (doing_is me before first s now o acts Commits e h)
log_goes_lead me before first s now w o acts Commits (IsFenced bookie) e h =
    ends_lead me before first s now o acts (refusal_event me (why.Fenced bookie)) false (doing_is me before first s now o acts Commits e h)
    (λ t f. beside_shows me.number t (why.Fenced bookie) now.taken (stream_read now.reader) false refl f)
log_goes_lead me before first s now w o acts Confirms (MayClose entries rows last) e h =
    close_goes_lead me before first s now o acts (close_args w entries rows last) (ap is_read e) (doing_is me before first s now o acts Confirms e h)
log_goes_lead me before first s now w o acts Confirms (IsFenced bookie) e h =
    ends_lead me before first s now o acts (refusal_event me (why.Fenced bookie)) false (doing_is me before first s now o acts Confirms e h)
    (λ t f. beside_shows me.number t (why.Fenced bookie) now.taken (stream_read now.reader) false refl f)
log_goes_lead me before first s now w o acts doing state e h = waits_lead me before first s now o acts h

-- the order under way goes on
order_goes_lead : (me : ClientArgs) (before first : ℕ) (s : History) (now : ClientNow) (w : WriterView) (acts : Acts) (o : Option Order) → now.order ≡ o
    → SoFar me before first s now (has_read o) acts → MoveLeads me before first s (order_goes_on me now w acts o)
order_goes_lead me before first s now w acts None e h = subst (λ (b : Bool). SoFar me before first s now b acts) (sym (ap has_read e)) h
order_goes_lead me before first s now w acts (Some o) e h = log_goes_lead me before first s now w o acts o.doing (log_state (log_now w)) refl h

-- a call of the writer, behind which the order under way goes on
call_lead : (me : ClientArgs) (s : History) (now : ClientNow) (w : WriterView) (call : LogCall) (m : LogMove) → MoveAsks m
    → ClientSeen now (s.clients me.number)
    → MoveLeads me now.taken now.asked s (after_call me now w call m)
call_lead me s now w call m tells h =
    order_goes_lead me now.taken now.asked s (with_writer now (with_call w call)) (with_call w call) (move_acts me w m) now.order refl
    (move_lead me w m s now.taken now.asked (stream_read now.reader) (has_read now.order) tells h)

-- a commit or a close that begins, or is refused
begins_on_lead : (me : ClientArgs) (s : History) (now : ClientNow) (line : ℕ) (w : WriterView) (doing : Doing) (call : LogCall)
    (result : Result LogMove Refusal) → CallLeaves result → CallAsks result → is_read doing ≡ false → has_read now.order ≡ false → FreeSeen me s now
    → MoveLeads me now.taken now.asked s (begins_on_log me now line w doing call result)
begins_on_lead me s now line w doing call (Err r) e tells apart free h = refused_call_lead me s now w call r e (free_is me s now free h)
begins_on_lead me s now line w doing call (Ok m) e tells apart free h =
    call_lead me s (with_order now (record { line = line; stream = w.stream; doing = doing })) w call m tells
    (subst (λ (b : Bool). PartsSeen now.taken (stream_read now.reader) b (s.clients me.number)) (sym apart) h)

-- a commit begins
pub commit_lead : (me : ClientArgs) (s : History) (now : ClientNow) (line : ℕ) (w : Option WriterView) → has_read now.order ≡ false → FreeSeen me s now
    → MoveLeads me now.taken now.asked s (begins_commit me now line w)
commit_lead me s now line None free h = refuses_lead me s now why.NoWriter refl (free_is me s now free h)
commit_lead me s now line (Some w) free h =
    begins_on_lead me s now line w Commits log.Commits (commits (log_now w)) (commits_leave (log_now w)) (commits_ask (log_now w)) refl free h

-- a close begins
pub confirm_lead : (me : ClientArgs) (s : History) (now : ClientNow) (line : ℕ) (w : Option WriterView) → has_read now.order ≡ false → FreeSeen me s now
    → MoveLeads me now.taken now.asked s (begins_confirm me now line w)
confirm_lead me s now line None free h = refuses_lead me s now why.NoWriter refl (free_is me s now free h)
confirm_lead me s now line (Some w) free h =
    begins_on_lead me s now line w Confirms log.Closes (closes (log_now w)) (closes_leave (log_now w)) (closes_ask (log_now w)) refl free h

-- ---- what the writer hears

-- an answer to an entry
pub writer_lead : (me : ClientArgs) (s : History) (now : ClientNow) (w : Option WriterView) (ledger b : ℕ) (m : Msg) → ClientSeen now (s.clients me.number)
    → MoveLeads me now.taken now.asked s (writer_hears me now w ledger b m)
writer_lead me s now None ledger b m h = stays_lead me s now h
writer_lead me s now (Some w) ledger b m h =
    cond_both (MoveLeads me now.taken now.asked s) (ledger == w.opened.ledger) (after_call me now w (HearsFrom b m) (log_hears (log_now w) b m))
    (stays now no_acts)
    (call_lead me s now w (HearsFrom b m) (log_hears (log_now w) b m) (log_hears_ask (log_now w) b m) h) (stays_lead me s now h)

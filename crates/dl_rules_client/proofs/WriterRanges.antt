-- The ranges of what a client does with its writer.
use Rattle.std.proofs.Common.{◌≡◌, ℕ, suc, ◌+◌, ◌*◌, ◌≤◌, List, [], ◌∷◌, length, Option, Some, None, option_map, Result, Ok}
use Rattle.std.proofs.Common.{Err, refl, arith}
use Rattle.std.specs.List.{AllByRecursion}
use Rattle.std.specs.Prelude.{◌==◌, nat_lt}
use Rattle.dl_types.specs.declared.refusal.Refusal.{Refusal}
use Rattle.dl_types.specs.declared.refusal.Refusal.TheVariants as why
use Rattle.dl_types.specs.Places.{place}
use Rattle.dl_text.specs.Hex.{AllBytes}
use Rattle.dl_text.specs.NameFields.{IsName}
use Rattle.dl_text.specs.Numbers.{most_u32, most_u64}
use Rattle.dl_msg.specs.declared.msg.Msg.{Msg}
use Rattle.dl_schedule.specs.StepLines.{IsClient, IsBookie, IsTxid}
use Rattle.dl_transcript.specs.declared.event.Event.TheVariants as event
use Rattle.dl_transcript.specs.Ranges.{IsU32, IsU64}
use Rattle.dl_rules_stream.specs.Closes.{CloseArgs, close_first}
use Rattle.dl_rules_stream.specs.LogWriters.{LogCall, Appends, AppendsSet, Flushes, HearsFrom, LogNow, LogMove, LogState, IsOpen, IsCommitting}
use Rattle.dl_rules_stream.specs.LogWriters.{HasCommitted, IsClosing, MayClose, IsFenced, log_state, appends, appends_set, log_flushes, commits, closes}
use Rattle.dl_rules_stream.specs.LogWriters.{log_hears, sent_count, last_sent_entry, after_log_call, log_of}
use Rattle.dl_rules_stream.specs.LogWriters as log
use Rattle.dl_rules_client.specs.Acts.{ClientArgs, Acts, no_acts}
use Rattle.dl_rules_client.specs.Views.{Doing, Commits, Confirms, Closes, Order}
use Rattle.dl_rules_client.specs.Views.{WriterView, ClientNow, stays, order_doing, log_now, with_call, with_writer, next_origin}
use Rattle.dl_rules_client.specs.Moves.{refusal_event, with_order}
use Rattle.dl_rules_client.specs.Writing.{entry_between, entry_of, sent_events, ack_events, move_acts, took_events, refuses_call, takes}
use Rattle.dl_rules_client.specs.Writing.{appends_one, appends_many, sends, flushes, close_args, begins_close, log_goes_on, order_goes_on, after_call}
use Rattle.dl_rules_client.specs.Writing.{begins_on_log, begins_commit, begins_confirm, writer_hears}
use Rattle.dl_transcript.specs.Ranges.{IsRefusal}
use Rattle.dl_rules_client.specs.EventRanges.{ArgsFit, set_most}
use Rattle.dl_transcript.specs.Ranges.{IsEvent}
use Rattle.dl_rules_client.proofs.RangeLists.{Any, cond_both}
use Rattle.dl_rules_client.proofs.RangeLists.{AllSome, all-append, all-map}
use Rattle.dl_rules_client.proofs.NextRanges.{any_next}
use Rattle.dl_rules_client.proofs.LogRanges.{IsRow, LogFits, LogMoveFits, CallFits, EntryFits, IsTaken, IsCall, ToldUpTo, log_more, appends_fit}
use Rattle.dl_rules_client.proofs.LogRanges.{sets_fit, flush_fit, commit_fit, close_fit, hears_fit, called_fit, told_fit, state_fit, last_entry_fit}
use Rattle.dl_rules_client.proofs.ClientRanges.{each_letter_fits, DoingFits, OrderFits, WriterFits, NowFits, SentFits, ActsFit, MoveFits, now_more}
use Rattle.dl_rules_client.proofs.ClientRanges.{stays_fits, refuses_fits, waits_fits, ends_fits, with_fits, goes_fits}
use Rattle.dl_rules_client.proofs.TellRanges.{CloseArgsFit}

-- ---- a writer behind a call

-- a writer behind a call of a line
call_fits : (n : ℕ) (w : WriterView) (call : LogCall) → set_most * n ≤ most_u32 → suc (suc (2 * n)) ≤ most_u64 → IsCall call → WriterFits n w
    → WriterFits (suc n) (with_call w call)
unfolding log_of
call_fits n w call h k is fit = record {
  stream = fit.stream;
  line = fit.line;
  segment = fit.segment;
  member = fit.member;
  log = log_more (set_most * n + set_most) (set_most * suc n) (suc (suc (2 * n))) (2 * suc n) _ (omega arith) (omega arith)
      (called_fit (set_most * n) (2 * n) (log_now w) call h k is fit.log);
}

-- a writer behind a message of a bookie
hears_fits : (n : ℕ) (w : WriterView) (b : ℕ) (m : Msg) → 2 * n ≤ most_u64 → IsBookie b → WriterFits n w → WriterFits n (with_call w (HearsFrom b m))
unfolding log_of
hears_fits n w b m k from fit =
    record {
      stream = fit.stream;
      line = fit.line;
      segment = fit.segment;
      member = fit.member;
      log = told_fit (set_most * n) (2 * n) (log_now w) b m k from fit.log;
    }

-- a client with this writer
writer_fits : (me : ClientArgs) (n k : ℕ) (now : ClientNow) (w : WriterView) → WriterFits n w → NowFits me n k now → NowFits me n k (with_writer now w)
writer_fits me n k now w is fit = record { count = fit.count; taken = fit.taken; order = fit.order; writer = is; reader = fit.reader }

-- ---- what a call shows

-- an entry of the writer's ledger
entry_fits : (w : WriterView) (x : Option log.SentEntry) → IsName w.stream → AllSome EntryFits x → AllSome SentFits (option_map (entry_of w) x)
entry_fits w None name fit = tt
entry_fits w (Some x) name fit = record { stream = name; rows = fit.rows }

-- an entry that was sent, as an event
sent_fits : (me : ClientArgs) (w : WriterView) (x : Option log.SentEntry) → IsClient me.number → IsU64 w.opened.segment → AllSome EntryFits x
    → AllByRecursion IsEvent (sent_events me w x)
sent_fits me w None c is fit = tt
sent_fits me w (Some x) c is fit = ((c, (is, fit.entry)), tt)

-- the entry that a call sent, where it sent one
between_fits : (r e : ℕ) (before now : LogNow) → e ≤ most_u64 → LogFits r e now → AllSome EntryFits (entry_between before now)
between_fits r e before now k fit =
    cond_both (AllSome EntryFits) (nat_lt (sent_count before) (sent_count now)) (last_sent_entry now) None (last_entry_fit r e now k fit) tt

-- the acts of a writer's call
move_acts_fit : (me : ClientArgs) (n k more r e : ℕ) (w : WriterView) (m : LogMove) → IsClient me.number → e ≤ most_u64 → WriterFits n w → LogMoveFits r e m
    → ActsFit more (move_acts me w m)
move_acts_fit me n k more r e w m c small fit move =
    let sent : Option log.SentEntry = entry_between (log_now w) m.now in
    let entry : AllSome EntryFits sent = between_fits r e (log_now w) m.now small move.now in
    record {
      events = all-append IsEvent (ack_events me m.rows) (sent_events me w sent)
          (all-map IsRow IsEvent _ (λ row is. (c, (is.call, is.place))) m.rows move.rows) (sent_fits me w sent c fit.segment entry);
      sent = entry_fits w sent fit.stream entry;
      taken = omega arith;
      letters = each_letter_fits me m.letters c move.letters;
    }

-- records that are taken
took_fit : (me : ClientArgs) (s : List ℕ) (txid call : ℕ) (payloads : List (List ℕ)) → IsClient me.number → IsName s → IsTxid txid
    → call + length payloads ≤ suc most_u32 → AllByRecursion AllBytes payloads → AllByRecursion IsEvent (took_events me s txid call payloads)
took_fit me s txid call [] c name t few each = tt
took_fit me s txid call (p ∷ ps) c name t few each =
    let here : call ≤ most_u32 = omega arith in
    let more : suc call + length ps ≤ suc most_u32 = omega arith in
    ((c, ((omega arith, here), (name, (t, each.0)))), took_fit me s txid (suc call) ps c name t more each.1)

-- how many events show them
took_length : (me : ClientArgs) (s : List ℕ) (txid call : ℕ) (payloads : List (List ℕ)) → length (took_events me s txid call payloads) ≡ length payloads
took_length me s txid call [] = refl
took_length me s txid call (p ∷ ps) = omega (arith, took_length me s txid (suc call) ps)

-- ---- records

-- a refused call
refuses_call_fits : (me : ClientArgs) (n k more : ℕ) (now : ClientNow) (w : WriterView) (call : LogCall) (r : Refusal)
    → IsClient me.number → IsRefusal r → WriterFits n (with_call w call) → NowFits me n k now → MoveFits me n k more (refuses_call me now w call r)
refuses_call_fits me n k more now w call r c told is fit =
    refuses_fits me n k more (with_writer now (with_call w call)) r c told (writer_fits me n k now (with_call w call) is fit)

-- a call by which records are taken
takes_fits : (me : ClientArgs) (n k : ℕ) (now : ClientNow) (w : WriterView) (call : LogCall) (txid : ℕ) (payloads : List (List ℕ))
    (result : Result LogMove Refusal)
    → ArgsFit (suc n) k me → IsCall call → IsTaken (next_origin me now) txid payloads → WriterFits n w → NowFits me n k now
    → CallFits (set_most * n + set_most) (suc (suc (2 * n))) result → MoveFits me (suc n) k 1 (takes me now w call txid payloads result)
takes_fits me n k now w call txid payloads (Err r) args is taken writer fit result =
    let h : set_most * n ≤ most_u32 = omega (arith, args.calls) in
    let room : suc (suc (2 * n)) ≤ most_u64 = omega (arith, args.calls) in
    refuses_call_fits me (suc n) k 1 now w call r args.number result (call_fits n w call h room is writer) (now_more me n k (suc n) now (omega arith) fit)
takes_fits me n k now w call txid payloads (Ok m) args is taken writer fit result =
    let h : set_most * n ≤ most_u32 = omega (arith, args.calls) in
    let f : suc (suc (2 * n)) ≤ most_u64 = omega (arith, args.calls) in
    let next = now_more me n k (suc n) now (omega arith) fit in
    let acts = move_acts_fit me n k 1 (set_most * n + set_most) (suc (suc (2 * n))) w m args.number f writer result in
    record {
      now = record {
        count = fit.count;
        taken = omega (arith, fit.taken, taken.few);
        order = next.order;
        writer = call_fits n w call h f is writer;
        reader = next.reader;
      };
      acts = record {
        events = all-append IsEvent (move_acts me w m).events (took_events me w.stream txid (suc now.taken) payloads) acts.events
            (took_fit me w.stream txid (suc now.taken) payloads args.number writer.stream taken.id taken.calls taken.bytes);
        sent = acts.sent;
        letters = acts.letters;
        taken = omega (arith, taken.few, took_length me w.stream txid (suc now.taken) payloads);
      };
    }

-- the records of a line are such as a writer may take
origin_fits : (me : ClientArgs) (n k : ℕ) (now : ClientNow) (txid : ℕ) (payloads : List (List ℕ)) → ArgsFit (suc n) k me → NowFits me n k now → IsTxid txid
    → AllByRecursion AllBytes payloads → length payloads ≤ set_most → log.set_size payloads ≤ most_u64 → IsTaken (next_origin me now) txid payloads
origin_fits me n k now txid payloads args fit t bytes few size = record {
  client = args.number;
  id = t;
  calls = omega (arith, args.calls, fit.taken, few);
  bytes = bytes;
  few = few;
  size = size;
}

-- a record is appended
pub appends_one_fits : (me : ClientArgs) (n k : ℕ) (now : ClientNow) (w : Option WriterView) (txid : ℕ) (payload : List ℕ)
    → ArgsFit (suc n) k me → IsTxid txid → AllBytes payload → log.set_size (payload ∷ []) ≤ most_u64 → AllSome (WriterFits n) w → NowFits me n k now
    → MoveFits me (suc n) k 1 (appends_one me now w txid payload)
appends_one_fits me n k now None txid payload args t bytes size writer fit =
    refuses_fits me (suc n) k 1 now why.NoWriter args.number tt (now_more me n k (suc n) now (omega arith) fit)
appends_one_fits me n k now (Some w) txid payload args t bytes size writer fit =
    let taken = origin_fits me n k now txid (payload ∷ []) args fit t (bytes, tt) (omega arith) size in
    takes_fits me n k now w (Appends (next_origin me now) txid payload) txid (payload ∷ []) (appends (log_now w) (next_origin me now) txid payload)
    args taken taken writer fit
    (appends_fit (set_most * n) (2 * n) (log_now w) (next_origin me now) txid payload (omega (arith, args.calls)) (omega (arith, args.calls)) taken writer.log)

-- a set of records is appended
pub appends_many_fits : (me : ClientArgs) (n k : ℕ) (now : ClientNow) (w : Option WriterView) (txid : ℕ) (payloads : List (List ℕ))
    → ArgsFit (suc n) k me → IsTxid txid → AllByRecursion AllBytes payloads → length payloads ≤ set_most
    → log.set_size payloads ≤ most_u64 → AllSome (WriterFits n) w → NowFits me n k now
    → MoveFits me (suc n) k 1 (appends_many me now w txid payloads)
appends_many_fits me n k now None txid payloads args t bytes few size writer fit =
    refuses_fits me (suc n) k 1 now why.NoWriter args.number tt (now_more me n k (suc n) now (omega arith) fit)
appends_many_fits me n k now (Some w) txid payloads args t bytes few size writer fit =
    let taken = origin_fits me n k now txid payloads args fit t bytes few size in
    takes_fits me n k now w (AppendsSet (next_origin me now) txid payloads) txid payloads (appends_set (log_now w) (next_origin me now) txid payloads)
    args taken taken writer fit
    (sets_fit (set_most * n) (2 * n) (log_now w) (next_origin me now) txid payloads (omega (arith, args.calls)) (omega (arith, args.calls)) taken writer.log)

-- what was taken is sent
sends_fits : (me : ClientArgs) (n k : ℕ) (now : ClientNow) (w : WriterView) (result : Result LogMove Refusal)
    → ArgsFit (suc n) k me → WriterFits n w → NowFits me n k now → CallFits (set_most * n + set_most) (suc (suc (2 * n))) result
    → MoveFits me (suc n) k 1 (sends me now w result)
sends_fits me n k now w (Err r) args writer fit result =
    refuses_call_fits me (suc n) k 1 now w Flushes r args.number result
    (call_fits n w Flushes (omega (arith, args.calls)) (omega (arith, args.calls)) tt writer) (now_more me n k (suc n) now (omega arith) fit)
sends_fits me n k now w (Ok m) args writer fit result = record {
  now = writer_fits me (suc n) k now (with_call w Flushes)
      (call_fits n w Flushes (omega (arith, args.calls)) (omega (arith, args.calls)) tt writer) (now_more me n k (suc n) now (omega arith) fit);
  acts = move_acts_fit me n k 1 (set_most * n + set_most) (suc (suc (2 * n))) w m args.number (omega (arith, args.calls)) writer result;
}

-- a flush
pub flushes_fits : (me : ClientArgs) (n k : ℕ) (now : ClientNow) (w : Option WriterView) → ArgsFit (suc n) k me → AllSome (WriterFits n) w → NowFits me n k now
    → MoveFits me (suc n) k 1 (flushes me now w)
flushes_fits me n k now None args writer fit = refuses_fits me (suc n) k 1 now why.NoWriter args.number tt (now_more me n k (suc n) now (omega arith) fit)
flushes_fits me n k now (Some w) args writer fit =
    sends_fits me n k now w (log_flushes (log_now w)) args writer fit
    (flush_fit (set_most * n) (2 * n) (log_now w) (omega (arith, args.calls)) (omega (arith, args.calls)) writer.log)

-- ---- commit and close

-- a close goes on with its requests
close_goes_fits : (me : ClientArgs) (n k more : ℕ) (now : ClientNow) (o : Order) (acts : Acts) (args : CloseArgs)
    → IsClient me.number → CloseArgsFit args → OrderFits me k o → NowFits me n k now → ActsFit more acts
    → MoveFits me n k more (begins_close me now o acts args)
close_goes_fits me n k more now o acts args c is order fit acted =
    goes_fits me n k more now (order_doing o (Closes args [])) acts Any (close_first args).1 _ c
    (record { stream = order.stream; line = order.line; doing = is }) fit acted tt
    (any_next (close_first args).1) (λ u p. waits_fits me n k more now o acts order fit acted)

-- a commit or a close goes on
log_goes_fits : (me : ClientArgs) (n k more most : ℕ) (now : ClientNow) (w : WriterView) (o : Order) (acts : Acts) (doing : Doing) (state : LogState)
    → IsClient me.number → WriterFits n w → most ≤ most_u64 → ToldUpTo most state → OrderFits me k o → NowFits me n k now
    → ActsFit more acts
    → MoveFits me n k more (log_goes_on me now w o acts doing state)
unfolding log_goes_on
log_goes_fits me n k more most now w o acts Commits (HasCommitted control) c writer small told order fit acted =
    ends_fits me n k more now o acts (event.Committed w.stream (place w.opened.segment control 0)) fit acted
    (writer.stream, (writer.segment, ((omega arith, omega (arith, small, told)), (omega arith, omega arith))))
log_goes_fits me n k more most now w o acts Commits (IsFenced bookie) c writer small told order fit acted =
    ends_fits me n k more now o acts (refusal_event me (why.Fenced bookie)) fit acted (c, told)
log_goes_fits me n k more most now w o acts Confirms (MayClose entries rows last) c writer small told order fit acted =
    close_goes_fits me n k more now o acts (close_args w entries rows last) c
    (record { stream = writer.stream; owner = writer.member; member = writer.member }) order fit acted
log_goes_fits me n k more most now w o acts Confirms (IsFenced bookie) c writer small told order fit acted =
    ends_fits me n k more now o acts (refusal_event me (why.Fenced bookie)) fit acted (c, told)
log_goes_fits me n k more most now w o acts doing state c writer small told order fit acted = waits_fits me n k more now o acts order fit acted

-- the order under way goes on
order_goes_fits : (me : ClientArgs) (n k more : ℕ) (now : ClientNow) (w : WriterView) (acts : Acts) (o : Option Order)
    → IsClient me.number → 2 * n ≤ most_u64 → WriterFits n w → AllSome (OrderFits me k) o → NowFits me n k now → ActsFit more acts
    → MoveFits me n k more (order_goes_on me now w acts o)
order_goes_fits me n k more now w acts None c small writer order fit acted = record { now = fit; acts = acted }
order_goes_fits me n k more now w acts (Some o) c small writer order fit acted =
    log_goes_fits me n k more (2 * n) now w o acts o.doing (log_state (log_now w)) c writer small
    (state_fit (set_most * n) (2 * n) (log_now w) writer.log) order fit acted

-- a commit or a close that begins, or is refused
begins_on_fits : (me : ClientArgs) (n k : ℕ) (now : ClientNow) (line : ℕ) (w : WriterView) (doing : Doing) (call : LogCall) (result : Result LogMove Refusal)
    → ArgsFit (suc n) k me → IsU32 line → IsCall call → ((o : Order) → DoingFits me k o doing) → WriterFits n w → NowFits me n k now
    → CallFits (set_most * n + set_most) (suc (suc (2 * n))) result → MoveFits me (suc n) k 1 (begins_on_log me now line w doing call result)
begins_on_fits me n k now line w doing call (Err r) args number is does writer fit result =
    refuses_call_fits me (suc n) k 1 now w call r args.number result
    (call_fits n w call (omega (arith, args.calls)) (omega (arith, args.calls)) is writer) (now_more me n k (suc n) now (omega arith) fit)
begins_on_fits me n k now line w doing call (Ok m) args number is does writer fit result =
    let o : Order = record { line = line; stream = w.stream; doing = doing } in
    let order : OrderFits me k o = record { stream = writer.stream; line = number; doing = does o } in
    let next : WriterView = with_call w call in
    let called : WriterFits (suc n) next = call_fits n w call (omega (arith, args.calls)) (omega (arith, args.calls)) is writer in
    let begun = with_fits me (suc n) k now o order (now_more me n k (suc n) now (omega arith) fit) in
    order_goes_fits me (suc n) k 1 (with_writer (with_order now o) next) next (move_acts me w m) (Some o) args.number (omega (arith, args.calls)) called order
    (writer_fits me (suc n) k (with_order now o) next called begun)
    (move_acts_fit me n k 1 (set_most * n + set_most) (suc (suc (2 * n))) w m args.number (omega (arith, args.calls)) writer result)

-- a commit begins
pub commit_fits : (me : ClientArgs) (n k : ℕ) (now : ClientNow) (line : ℕ) (w : Option WriterView) → ArgsFit (suc n) k me → IsU32 line
    → AllSome (WriterFits n) w → NowFits me n k now → MoveFits me (suc n) k 1 (begins_commit me now line w)
commit_fits me n k now line None args number writer fit =
    refuses_fits me (suc n) k 1 now why.NoWriter args.number tt (now_more me n k (suc n) now (omega arith) fit)
commit_fits me n k now line (Some w) args number writer fit =
    begins_on_fits me n k now line w Commits log.Commits (commits (log_now w)) args number tt (λ o. tt) writer fit
    (commit_fit (set_most * n) (2 * n) (log_now w) (omega (arith, args.calls)) (omega (arith, args.calls)) writer.log)

-- a close begins
pub confirm_fits : (me : ClientArgs) (n k : ℕ) (now : ClientNow) (line : ℕ) (w : Option WriterView) → ArgsFit (suc n) k me → IsU32 line
    → AllSome (WriterFits n) w → NowFits me n k now → MoveFits me (suc n) k 1 (begins_confirm me now line w)
confirm_fits me n k now line None args number writer fit =
    refuses_fits me (suc n) k 1 now why.NoWriter args.number tt (now_more me n k (suc n) now (omega arith) fit)
confirm_fits me n k now line (Some w) args number writer fit =
    begins_on_fits me n k now line w Confirms log.Closes (closes (log_now w)) args number tt (λ o. tt) writer fit
    (close_fit (set_most * n) (2 * n) (log_now w) (omega (arith, args.calls)) (omega (arith, args.calls)) writer.log)

-- ---- what the writer hears

-- an answer to an entry
pub writer_hears_fits : (me : ClientArgs) (n k : ℕ) (now : ClientNow) (w : Option WriterView) (ledger b : ℕ) (m : Msg)
    → ArgsFit n k me → IsBookie b → AllSome (WriterFits n) w → NowFits me n k now → MoveFits me n k 0 (writer_hears me now w ledger b m)
writer_hears_fits me n k now None ledger b m args from writer fit = stays_fits me n k 0 now fit
writer_hears_fits me n k now (Some w) ledger b m args from writer fit =
    let next : WriterView = with_call w (HearsFrom b m) in
    let small : 2 * n ≤ most_u64 = omega (arith, args.calls) in
    let heard : WriterFits n next = hears_fits n w b m small from writer in
    cond_both (MoveFits me n k 0) (ledger == w.opened.ledger) (after_call me now w (HearsFrom b m) (log_hears (log_now w) b m)) (stays now no_acts)
    (order_goes_fits me n k 0 (with_writer now next) next (move_acts me w (log_hears (log_now w) b m)) now.order args.number (omega (arith, args.calls)) heard
    fit.order (writer_fits me n k now next heard fit)
    (move_acts_fit me n k 0 (set_most * n) (2 * n) w (log_hears (log_now w) b m) args.number (omega (arith, args.calls)) writer
    (hears_fit (set_most * n) (2 * n) (log_now w) b m small from writer.log)))
    (stays_fits me n k 0 now fit)

-- The ranges of what a client keeps and shows: its order under way, its writer, its reader, and its events.
use Rattle.std.proofs.Common.{ℕ, ◌+◌, ◌*◌, ◌≤◌, Bool, true, false, List, Option, Some, None, suc, length}
use Rattle.std.proofs.Common.{arith, refl}
use Rattle.std.specs.List.{AllByRecursion}
use Rattle.dl_types.specs.declared.refusal.Refusal.{Refusal}
use Rattle.dl_types.specs.declared.start.Start.{Start}
use Rattle.dl_types.specs.declared.start.Start.TheVariants as start
use Rattle.dl_fields.specs.Paths.{IsPathField}
use Rattle.dl_text.specs.NameFields.{IsName}
use Rattle.dl_text.specs.PlaceFields.{IsPlaceFrom}
use Rattle.dl_msg.specs.declared.letter.Letter.{Letter}
use Rattle.dl_schedule.specs.StepLines.{IsCount, IsClient, IsTxid}
use Rattle.dl_transcript.specs.declared.event.Event.{Event}
use Rattle.dl_transcript.specs.Ranges.{IsU32, IsU64, IsRefusal}
use Rattle.dl_rules_stream.specs.Orders.{Next, Wait, Ask, Tell, Done, Refused}
use Rattle.dl_rules_client.specs.Acts.{ClientArgs, SentEntry, Acts, no_acts, with_letters, with_event, shows}
use Rattle.dl_rules_client.specs.Views.{reader_now, Doing, Makes, Removes, Opens, Recovers, Commits, Confirms, Closes, Seeks, Reads, Truncates, Purges, Order}
use Rattle.dl_rules_client.specs.Views.{WriterView, ReaderView, ClientNow, ClientMove, stays, open_args, recover_args, log_now, new_client}
use Rattle.dl_rules_client.specs.Moves.{told_letter, told_letters, refusal_event, refuses, is_close, writer_behind, without_order, ends_with, with_order}
use Rattle.dl_rules_client.specs.Moves.{waits, goes_on}
use Rattle.dl_rules_stream.specs.Recovers.{recover_stage}
use Rattle.dl_rules_stream.specs.Opens.{open_stage}
use Rattle.dl_rules_client.specs.EventRanges.{LetterFits, set_most}
use Rattle.dl_transcript.specs.Ranges.{IsEvent}
use Rattle.dl_rules_client.proofs.RangeLists.{all-append, all-map, AllSome, all-last}
use Rattle.dl_rules_client.proofs.LogRanges.{IsRow, LogFits, log_more}
use Rattle.dl_rules_client.proofs.NextRanges.{NextFits}
use Rattle.dl_msg.specs.declared.letters.Told.{Told}
use Rattle.dl_rules_client.proofs.TellRanges.{ToldFits, TellsFit, CloseArgsFit}
use Rattle.dl_rules_client.proofs.TellRecoveries.{ReaderArgsFit, ReadStageFits}
use Rattle.dl_rules_client.proofs.OpenRanges.{OpenStageFits, RecoverStageFits}

-- ---- what a client keeps

-- where a reader begins
abbrev pub StartFits : Start → Type 0
StartFits start.Oldest = Unit {0}
StartFits (start.Place d) = IsPlaceFrom 0 d
StartFits (start.Tx txid) = IsTxid txid

-- what an order does, where at most so many lines and letters were taken
abbrev pub DoingFits : ClientArgs → ℕ → Order → Doing → Type 0
DoingFits me k o (Makes heard) = Unit {0}
DoingFits me k o (Removes heard) = Unit {0}
DoingFits me k o (Opens heard) = OpenStageFits (open_stage (open_args me o) heard)
DoingFits me k o (Recovers heard) = RecoverStageFits (recover_stage (recover_args me o) heard)
DoingFits me k o Commits = Unit {0}
DoingFits me k o Confirms = Unit {0}
DoingFits me k o (Closes args heard) = CloseArgsFit args
DoingFits me k o (Seeks from heard) = StartFits from
DoingFits me k o Reads = Unit {0}
DoingFits me k o (Truncates to heard) = IsPlaceFrom 1 to
DoingFits me k o (Purges heard) = length heard ≤ k

-- An order, where at most so many lines and letters were taken.
pub record OrderFits (me : ClientArgs) (k : ℕ) (o : Order) : Type 0 where
  pub stream : IsName o.stream
  pub line : IsU32 o.line
  pub doing : DoingFits me k o o.doing

-- A writer, where at most so many lines were taken.
pub record WriterFits (n : ℕ) (w : WriterView) : Type 0 where
  pub stream : IsName w.stream
  pub line : IsU32 w.line
  pub segment : IsU64 w.opened.segment
  pub member : IsPathField w.opened.member
  pub log : LogFits (set_most * n) (2 * n) (log_now w)

-- a reader is on a stream, and its read goes over the ledgers of its configuration
abbrev pub ReaderFits : ReaderView → Type 0
ReaderFits r = ReaderArgsFit r.args × ReadStageFits (reader_now r).stage

-- A client, where at most so many lines were taken, and so many lines and letters.
pub record NowFits (me : ClientArgs) (n k : ℕ) (now : ClientNow) : Type 0 where
  pub count : IsCount me.conf.b
  pub taken : now.taken ≤ me.calls + set_most * n
  pub order : AllSome (OrderFits me k) now.order
  pub writer : AllSome (WriterFits n) now.writer
  pub reader : AllSome ReaderFits now.reader

-- ---- what it does

-- An entry that was sent.
pub record SentFits (x : SentEntry) : Type 0 where
  pub stream : IsName x.stream
  pub rows : AllByRecursion IsRow x.rows

-- What a client does as it takes so many lines more.
pub record ActsFit (more : ℕ) (acts : Acts) : Type 0 where
  pub events : AllByRecursion IsEvent acts.events
  pub sent : AllSome SentFits acts.sent
  pub taken : acts.taken ≤ set_most * more
  pub letters : AllByRecursion LetterFits acts.letters

-- A client that takes something, and what it does.
pub record MoveFits (me : ClientArgs) (n k more : ℕ) (move : ClientMove) : Type 0 where
  pub now : NowFits me n k move.now
  pub acts : ActsFit more move.acts

-- ---- lines more

-- a writer behind lines more
writer_more : (n m : ℕ) → n ≤ m → (w : Option WriterView) → AllSome (WriterFits n) w → AllSome (WriterFits m) w
writer_more n m h None fit = tt
writer_more n m h (Some w) fit = record {
  stream = fit.stream;
  line = fit.line;
  segment = fit.segment;
  member = fit.member;
  log = log_more (set_most * n) (set_most * m) (2 * n) (2 * m) (log_now w) (omega (arith, h)) (omega (arith, h)) fit.log;
}

-- a client behind lines more
pub now_more : (me : ClientArgs) (n k m : ℕ) (now : ClientNow) → n ≤ m → NowFits me n k now → NowFits me m k now
now_more me n k m now h fit = record {
  count = fit.count;
  taken = omega (arith, h, fit.taken);
  order = fit.order;
  writer = writer_more n m h now.writer fit.writer;
  reader = fit.reader;
}

-- an order behind a line or a letter more
order_later : (me : ClientArgs) (k : ℕ) (o : Order) (doing : Doing) → DoingFits me k o doing → DoingFits me (suc k) o doing
order_later me k o (Makes heard) is = tt
order_later me k o (Removes heard) is = tt
order_later me k o (Opens heard) is = is
order_later me k o (Recovers heard) is = is
order_later me k o Commits is = tt
order_later me k o Confirms is = tt
order_later me k o (Closes args heard) is = is
order_later me k o (Seeks from heard) is = is
order_later me k o Reads is = tt
order_later me k o (Truncates to heard) is = is
order_later me k o (Purges heard) is = omega (arith, is)

-- the same, where there is one
pub some_later : (me : ClientArgs) (k : ℕ) (o : Option Order) → AllSome (OrderFits me k) o → AllSome (OrderFits me (suc k)) o
some_later me k None is = tt
some_later me k (Some o) is = record { stream = is.stream; line = is.line; doing = order_later me k o o.doing is.doing }

-- a client behind a line or a letter more
pub now_later : (me : ClientArgs) (n k : ℕ) (now : ClientNow) → NowFits me n k now → NowFits me n (suc k) now
now_later me n k now fit = record {
  count = fit.count;
  taken = fit.taken;
  order = some_later me k now.order fit.order;
  writer = fit.writer;
  reader = fit.reader;
}

-- a client that has taken nothing yet
pub new_fits : (me : ClientArgs) (n k : ℕ) → IsCount me.conf.b → NowFits me n k (new_client me)
new_fits me n k is = record { count = is; taken = omega arith; order = tt; writer = tt; reader = tt }

-- ---- acts

-- it does nothing
pub no_acts_fit : (more : ℕ) → ActsFit more no_acts
no_acts_fit more = record { events = tt; sent = tt; taken = omega arith; letters = tt }

-- letters more
pub letters_fit : (more : ℕ) (letters : List Letter) (acts : Acts) → AllByRecursion LetterFits letters → ActsFit more acts
    → ActsFit more (with_letters letters acts)
letters_fit more letters acts each fit =
    record { events = fit.events; sent = fit.sent; taken = fit.taken; letters = all-append LetterFits acts.letters letters fit.letters each }

-- messages that are told, as letters
pub each_letter_fits : (me : ClientArgs) (ts : List Told) → IsClient me.number → AllByRecursion ToldFits ts → AllByRecursion LetterFits (told_letters me ts)
each_letter_fits me ts c each = all-map ToldFits LetterFits (told_letter me) (λ t is. ((c, is.0), is.1)) ts each

-- an event more
pub event_fits : (more : ℕ) (e : Event) (acts : Acts) → IsEvent e → ActsFit more acts → ActsFit more (with_event e acts)
event_fits more e acts h fit = record { events = all-last IsEvent acts.events e fit.events h; sent = fit.sent; taken = fit.taken; letters = fit.letters }

-- one event alone
pub shows_fit : (more : ℕ) (e : Event) → IsEvent e → ActsFit more (shows e)
shows_fit more e h = event_fits more e no_acts h (no_acts_fit more)

-- ---- moves

-- the writer behind an order that has ended
behind_fits : (n : ℕ) (ends : Bool) (w : Option WriterView) → AllSome (WriterFits n) w → AllSome (WriterFits n) (writer_behind ends w)
behind_fits n true w fit = tt
behind_fits n false w fit = fit

-- a client whose order has ended
pub without_fits : (me : ClientArgs) (n k : ℕ) (now : ClientNow) (o : Order) → NowFits me n k now → NowFits me n k (without_order now o)
without_fits me n k now o fit = record {
  count = fit.count;
  taken = fit.taken;
  order = tt;
  writer = behind_fits n (is_close o.doing) now.writer fit.writer;
  reader = fit.reader;
}

-- a client with an order under way
pub with_fits : (me : ClientArgs) (n k : ℕ) (now : ClientNow) (o : Order) → OrderFits me k o → NowFits me n k now → NowFits me n k (with_order now o)
with_fits me n k now o is fit = record { count = fit.count; taken = fit.taken; order = is; writer = fit.writer; reader = fit.reader }

-- a client that takes something and stays as it is
pub stays_fits : (me : ClientArgs) (n k more : ℕ) (now : ClientNow) → NowFits me n k now → MoveFits me n k more (stays now no_acts)
stays_fits me n k more now fit = record { now = fit; acts = no_acts_fit more }

-- a line that is refused
pub refuses_fits : (me : ClientArgs) (n k more : ℕ) (now : ClientNow) (r : Refusal) → IsClient me.number → IsRefusal r → NowFits me n k now
    → MoveFits me n k more (refuses me now r)
refuses_fits me n k more now r c is fit = record { now = fit; acts = shows_fit more (refusal_event me r) (c, is) }

-- an order that waits
pub waits_fits : (me : ClientArgs) (n k more : ℕ) (now : ClientNow) (o : Order) (acts : Acts) → OrderFits me k o → NowFits me n k now → ActsFit more acts
    → MoveFits me n k more (waits now o acts)
waits_fits me n k more now o acts is fit done = record { now = with_fits me n k now o is fit; acts = done }

-- an order that ends with an event
pub ends_fits : (me : ClientArgs) (n k more : ℕ) (now : ClientNow) (o : Order) (acts : Acts) (e : Event) → NowFits me n k now → ActsFit more acts
    → IsEvent e → MoveFits me n k more (ends_with now o acts e)
ends_fits me n k more now o acts e fit done h = record { now = without_fits me n k now o fit; acts = event_fits more e acts h done }

-- an order that goes on
pub goes_fits : {A : Type 0} (me : ClientArgs) (n k more : ℕ) (now : ClientNow) (o : Order) (acts : Acts) (P : A → Type 0) (next : Next A)
    (done : A → ClientMove)
    → IsClient me.number → OrderFits me k o → NowFits me n k now → ActsFit more acts → TellsFit next → NextFits P next
    → ((a : A) → P a → MoveFits me n k more (done a)) → MoveFits me n k more (goes_on me now o acts next done)
goes_fits me n k more now o acts P Wait done c is fit acted told h later = waits_fits me n k more now o acts is fit acted
goes_fits me n k more now o acts P (Ask r) done c is fit acted told h later = record {
  now = record { count = fit.count; taken = fit.taken; order = is; writer = fit.writer; reader = fit.reader };
  acts = letters_fit more _ acts ((c, record { request = r; same = refl; fits = told }), tt) acted;
}
goes_fits me n k more now o acts P (Tell ts) done c is fit acted told h later =
    waits_fits me n k more now o (with_letters (told_letters me ts) acts) is fit
    (letters_fit more (told_letters me ts) acts (each_letter_fits me ts c told) acted)
goes_fits me n k more now o acts P (Done a) done c is fit acted told h later = later a h
goes_fits me n k more now o acts P (Refused r) done c is fit acted told h later = ends_fits me n k more now o acts (refusal_event me r) fit acted (c, told)

-- The ranges of what a client keeps and shows, by all that it took.
use Rattle.std.proofs.Common.{ℕ, suc, ◌≤◌, false, ◌&&◌, ◌==◌, List, [], ◌∷◌, Option, Some, None, arith, length}
use Rattle.std.specs.List.{AllByRecursion}
use Rattle.dl_types.specs.declared.address.Address.{Address}
use Rattle.dl_types.specs.declared.address.Address.TheVariants.{Client, Bookie as AtBookie, Meta as AtMeta}
use Rattle.dl_types.specs.declared.refusal.Refusal.TheVariants as why
use Rattle.dl_types.specs.declared.start.Start.TheVariants as start
use Rattle.dl_msg.specs.declared.heard.Heard.{Heard}
use Rattle.dl_msg.specs.declared.heard.Heard.TheVariants.{Reply, From}
use Rattle.dl_msg.specs.declared.letter.Letter.{Letter}
use Rattle.dl_msg.specs.declared.meta_reply.MetaReply.{MetaReply}
use Rattle.dl_msg.specs.declared.meta_reply.MetaReply.TheVariants.{Expired, Answer}
use Rattle.dl_msg.specs.declared.msg.Msg.{Msg}
use Rattle.dl_msg.specs.declared.msg.Msg.TheVariants as msg
use Rattle.dl_schedule.specs.declared.step.Step.{Step}
use Rattle.dl_schedule.specs.declared.step.Step.TheVariants as step
use Rattle.dl_schedule.specs.StepLines.{IsStep, IsBookie, IsLink}
use Rattle.dl_transcript.specs.Ranges.{IsU32}
use Rattle.dl_rules_stream.specs.Makes.{make_first}
use Rattle.dl_rules_stream.specs.Removes.{remove_first}
use Rattle.dl_rules_stream.specs.Recovers.{recover_first}
use Rattle.dl_rules_stream.specs.Truncates.{truncate_first}
use Rattle.dl_rules_stream.specs.Purges.{purge_first}
use Rattle.dl_rules_stream.specs.Seeks.{seek_first}
use Rattle.dl_rules_client.specs.Acts.{Input, Line, Came, ClientArgs, no_acts}
use Rattle.dl_rules_client.specs.Views.{Makes, Removes, Recovers, Seeks, Truncates, Purges, Order, ClientNow, ClientMove, stays, recover_args}
use Rattle.dl_rules_client.specs.Views.{truncate_args}
use Rattle.dl_rules_client.specs.Moves.{refusal_event}
use Rattle.dl_rules_client.specs.Writing.{writer_hears}
use Rattle.dl_rules_client.specs.Orders.{order_hears}
use Rattle.dl_rules_client.specs.Clients.{reply_hears, meta_hears, tagged_hears, takes_msg, bookie_in, takes_order, if_free, takes_line}
use Rattle.dl_rules_client.specs.Clients.{with_confirmation, client_takes, client_of, acts_of}
use Rattle.dl_rules_client.proofs.RangeLists.{cond_both}
use Rattle.dl_rules_client.specs.EventRanges.{ClientActsFit, IsInput, IsCountable, ReplyFits, MsgFits, LetterFits, lines_in, ArgsFit}
use Rattle.dl_rules_client.proofs.NextRanges.{HeardFits}
use Rattle.dl_rules_client.proofs.TellRanges.{any_place}
use Rattle.dl_rules_client.proofs.OpenRanges.{recover_begun}
use Rattle.dl_rules_client.proofs.RangeLists.{AllSome}
use Rattle.dl_rules_client.proofs.ClientRanges.{now_later, some_later, OrderFits, NowFits, MoveFits, now_more, new_fits, no_acts_fit, stays_fits}
use Rattle.dl_rules_client.proofs.ClientRanges.{refuses_fits, ends_fits}
use Rattle.dl_rules_client.proofs.OrderRanges.{begins_fits, begins_open_fits, begins_read_fits, order_fits}
use Rattle.dl_rules_client.proofs.WriterRanges.{appends_one_fits, appends_many_fits, flushes_fits, commit_fits, confirm_fits, writer_hears_fits}

-- ---- letters

-- a client whose request has its reply
settled_fits : (me : ClientArgs) (n k : ℕ) (now : ClientNow) → NowFits me n k now → NowFits me n k (record now { awaits = false })
settled_fits me n k now fit = record { count = fit.count; taken = fit.taken; order = fit.order; writer = fit.writer; reader = fit.reader }

-- the order under way hears something
heard_fits : (me : ClientArgs) (n k : ℕ) (now : ClientNow) (o : Order) (h : Heard) → ArgsFit n (suc k) me → HeardFits h → OrderFits me k o → NowFits me n k now
    → MoveFits me n (suc k) 0 (order_hears me now o h o.doing)
heard_fits me n k now o h args said order fit =
    order_fits me n k 0 now o h o.doing args.number args.counted order.stream order.doing said (some_later me k (Some o) order) (now_later me n k now fit)

-- a client that takes a letter and stays as it is
idle_fits : (me : ClientArgs) (n k : ℕ) (now : ClientNow) → NowFits me n k now → MoveFits me n (suc k) 0 (stays now no_acts)
idle_fits me n k now fit = stays_fits me n (suc k) 0 now (now_later me n k now fit)

-- the reply to the present request
reply_fits : (me : ClientArgs) (n k : ℕ) (now : ClientNow) (o : Option Order) (r : MetaReply) → ArgsFit n (suc k) me → ReplyFits r
    → AllSome (OrderFits me k) o → NowFits me n k now → MoveFits me n (suc k) 0 (reply_hears me now o r)
reply_fits me n k now None r args said order fit = idle_fits me n k now fit
reply_fits me n k now (Some o) Expired args said order fit =
    ends_fits me n (suc k) 0 now o no_acts (refusal_event me (why.Expired me.session)) (now_later me n k now fit) (no_acts_fit 0)
    (args.number, args.session)
reply_fits me n k now (Some o) (Answer a) args said order fit = heard_fits me n k now o (Reply a) args said order fit

-- a reply
meta_fits : (me : ClientArgs) (n k : ℕ) (now : ClientNow) (session number : ℕ) (r : MetaReply) → ArgsFit n (suc k) me → ReplyFits r → NowFits me n k now
    → MoveFits me n (suc k) 0 (meta_hears me now session number r)
meta_fits me n k now session number r args said fit =
    cond_both (MoveFits me n (suc k) 0) (session == me.session && number == now.asked && now.awaits)
    (reply_hears me (record now { awaits = false }) now.order r) (stays now no_acts)
    (reply_fits me n k (record now { awaits = false }) now.order r args said fit.order (settled_fits me n k now fit)) (idle_fits me n k now fit)

-- a tagged message
tagged_fits : (me : ClientArgs) (n k : ℕ) (now : ClientNow) (o : Option Order) (tag b : ℕ) (m : Msg) → ArgsFit n (suc k) me → MsgFits m
    → AllSome (OrderFits me k) o → NowFits me n k now → MoveFits me n (suc k) 0 (tagged_hears me now o tag b m)
tagged_fits me n k now None tag b m args said order fit = idle_fits me n k now fit
tagged_fits me n k now (Some o) tag b m args said order fit =
    cond_both (MoveFits me n (suc k) 0) (tag == o.line) (order_hears me now o (From b m) o.doing) (stays now no_acts)
    (heard_fits me n k now o (From b m) args said order fit) (idle_fits me n k now fit)

-- an answer to an entry
answered_fits : (me : ClientArgs) (n k : ℕ) (now : ClientNow) (l b : ℕ) (m : Msg) → ArgsFit n (suc k) me → IsBookie b → NowFits me n k now
    → MoveFits me n (suc k) 0 (writer_hears me now now.writer l b m)
answered_fits me n k now l b m args from fit = writer_hears_fits me n (suc k) now now.writer l b m args from fit.writer (now_later me n k now fit)

-- a message by its kind
msg_fits : (me : ClientArgs) (n k : ℕ) (now : ClientNow) (b : ℕ) (m : Msg) → ArgsFit n (suc k) me → IsBookie b → MsgFits m → NowFits me n k now
    → MoveFits me n (suc k) 0 (takes_msg me now b m)
unfolding takes_msg
msg_fits me n k now b (msg.Add l e c bytes) args from said fit = idle_fits me n k now fit
msg_fits me n k now b (msg.Copy t l e c bytes) args from said fit = idle_fits me n k now fit
msg_fits me n k now b (msg.AskLac t l f) args from said fit = idle_fits me n k now fit
msg_fits me n k now b (msg.AskEntry t l e) args from said fit = idle_fits me n k now fit
msg_fits me n k now b (msg.AddOk l e) args from said fit = answered_fits me n k now l b (msg.AddOk l e) args from fit
msg_fits me n k now b (msg.AddFenced l e) args from said fit = answered_fits me n k now l b (msg.AddFenced l e) args from fit
msg_fits me n k now b (msg.Full what l e) args from said fit = idle_fits me n k now fit
msg_fits me n k now b (msg.CopyOk t l e) args from said fit = tagged_fits me n k now now.order t b (msg.CopyOk t l e) args said fit.order fit
msg_fits me n k now b (msg.LacIs t l f c) args from said fit = tagged_fits me n k now now.order t b (msg.LacIs t l f c) args said fit.order fit
msg_fits me n k now b (msg.EntryIs t l e bytes) args from said fit = tagged_fits me n k now now.order t b (msg.EntryIs t l e bytes) args said fit.order fit
msg_fits me n k now b (msg.NoEntry t l e f) args from said fit = tagged_fits me n k now now.order t b (msg.NoEntry t l e f) args said fit.order fit
msg_fits me n k now b (msg.MetaAsk session number op) args from said fit = idle_fits me n k now fit
msg_fits me n k now b (msg.MetaReply session number r) args from said fit = meta_fits me n k now session number r args said fit

-- ---- lines

-- an order that begins
order_line_fits : (me : ClientArgs) (n k : ℕ) (now : ClientNow) (line : ℕ) (x : Step) → ArgsFit (suc n) k me → IsU32 line × IsStep x → NowFits me n k now
    → MoveFits me (suc n) k 1 (takes_order me now line x)
unfolding takes_order
order_line_fits me n k now line (step.Create c s) args is fit =
    begins_fits me (suc n) k 1 now line s (Makes []) (λ o. (make_first s).1) args.number is.0 is.1.1 tt is.1.1 (now_more me n k (suc n) now (omega arith) fit)
order_line_fits me n k now line (step.Remove c s) args is fit =
    begins_fits me (suc n) k 1 now line s (Removes []) (λ o. (remove_first s).1) args.number is.0 is.1.1 tt is.1.1
    (now_more me n k (suc n) now (omega arith) fit)
order_line_fits me n k now line (step.Open c s) args is fit =
    let next = now_more me n k (suc n) now (omega arith) fit in
    begins_open_fits me (suc n) k 1 now line s now.writer args.number is.0 is.1.1 next.writer next
order_line_fits me n k now line (step.Recover c s) args is fit =
    begins_fits me (suc n) k 1 now line s (Recovers []) (λ o. (recover_first (recover_args me o)).1) args.number is.0 is.1.1
    (recover_begun (record { tag = line; stream = s; conf = me.conf })) is.1.1 (now_more me n k (suc n) now (omega arith) fit)
order_line_fits me n k now line (step.Purge c s) args is fit =
    begins_fits me (suc n) k 1 now line s (Purges []) (λ o. (purge_first s).1) args.number is.0 is.1.1 (omega arith) is.1.1
    (now_more me n k (suc n) now (omega arith) fit)
order_line_fits me n k now line (step.Commit c) args is fit = commit_fits me n k now line now.writer args is.0 fit.writer fit
order_line_fits me n k now line (step.Close c) args is fit = confirm_fits me n k now line now.writer args is.0 fit.writer fit
order_line_fits me n k now line (step.SeekOldest c s) args is fit =
    begins_fits me (suc n) k 1 now line s (Seeks start.Oldest []) (λ o. (seek_first s).1) args.number is.0 is.1.1 tt is.1.1
    (now_more me n k (suc n) now (omega arith) fit)
order_line_fits me n k now line (step.SeekPlace c s d) args is fit =
    begins_fits me (suc n) k 1 now line s (Seeks (start.Place d) []) (λ o. (seek_first s).1) args.number is.0 is.1.1.0 (any_place d is.1.1.1) is.1.1.0
    (now_more me n k (suc n) now (omega arith) fit)
order_line_fits me n k now line (step.SeekTxid c s txid) args is fit =
    begins_fits me (suc n) k 1 now line s (Seeks (start.Tx txid) []) (λ o. (seek_first s).1) args.number is.0 is.1.1.0 is.1.1.1 is.1.1.0
    (now_more me n k (suc n) now (omega arith) fit)
order_line_fits me n k now line (step.Read c count) args is fit =
    begins_read_fits me (suc n) k 1 now line count now.reader args.number is.0 is.1.1.1 fit.reader (now_more me n k (suc n) now (omega arith) fit)
order_line_fits me n k now line (step.Truncate c s d) args is fit =
    begins_fits me (suc n) k 1 now line s (Truncates d []) (λ o. (truncate_first (truncate_args o d)).1) args.number is.0 is.1.1.0 is.1.1.1 is.1.1.0
    (now_more me n k (suc n) now (omega arith) fit)
order_line_fits me n k now line x args is fit = stays_fits me (suc n) k 1 now (now_more me n k (suc n) now (omega arith) fit)

-- a client has one order under way
free_fits : (me : ClientArgs) (n k : ℕ) (now : ClientNow) (o : Option Order) (line : ℕ) (x : Step) → ArgsFit (suc n) k me → IsU32 line × IsStep x
    → AllSome (OrderFits me k) o → NowFits me n k now
    → MoveFits me (suc n) k 1 (if_free me now o line x)
free_fits me n k now (Some o) line x args is order fit =
    refuses_fits me (suc n) k 1 now (why.Busy o.line) args.number order.line (now_more me n k (suc n) now (omega arith) fit)
free_fits me n k now None line x args is order fit = order_line_fits me n k now line x args is fit

-- a line
line_fits : (me : ClientArgs) (n k : ℕ) (now : ClientNow) (line : ℕ) (x : Step) → ArgsFit (suc n) k me → IsU32 line × (IsStep x × IsCountable x)
    → NowFits me n k now → MoveFits me (suc n) k 1 (takes_line me now line x)
unfolding takes_line
line_fits me n k now line (step.Append c txid payload) args is fit =
    appends_one_fits me n k now now.writer txid payload args is.1.0.1.0 is.1.0.1.1 is.1.1 fit.writer fit
line_fits me n k now line (step.Set c txid payloads) args is fit =
    appends_many_fits me n k now now.writer txid payloads args is.1.0.1.0 is.1.0.1.1.valid (omega (arith, is.1.0.1.1.most)) is.1.1 fit.writer fit
line_fits me n k now line (step.Flush c) args is fit = flushes_fits me n k now now.writer args fit.writer fit
line_fits me n k now line x args is fit = free_fits me n k now now.order line x args (is.0, is.1.0) fit.order fit

-- ---- views

-- what the writer has confirmed is no part of this
confirmed_fits : (me : ClientArgs) (n k more : ℕ) (move : ClientMove) → MoveFits me n k more move → MoveFits me n k more (with_confirmation move)
confirmed_fits me n k more move fit = record {
  now = fit.now;
  acts = record { events = fit.acts.events; sent = fit.acts.sent; taken = fit.acts.taken; letters = fit.acts.letters };
}

-- a client that takes a line
pub taken_line_fits : (me : ClientArgs) (n k : ℕ) (now : ClientNow) (line : ℕ) (x : Step) → ArgsFit (suc n) (suc k) me → IsU32 line × (IsStep x × IsCountable x)
    → NowFits me n k now
    → MoveFits me (suc n) (suc k) 1 (client_takes me now (Line line x))
unfolding client_takes
taken_line_fits me n k now line x args is fit =
    confirmed_fits me (suc n) (suc k) 1 (takes_line me now line x) (line_fits me n (suc k) now line x args is (now_later me n k now fit))

-- the storage node that a letter on a link is from
from_fits : (from to : Address) → IsLink from to → IsBookie (bookie_in from)
from_fits (AtBookie b) (Client c) link = link.0
from_fits (AtBookie b) to link = absurd link
from_fits AtMeta to link = (omega arith, omega arith)
from_fits (Client c) to link = (omega arith, omega arith)

-- a client that takes a letter
pub taken_letter_fits : (me : ClientArgs) (n k : ℕ) (now : ClientNow) (l : Letter) → ArgsFit n (suc k) me → LetterFits l → NowFits me n k now
    → MoveFits me n (suc k) 0 (client_takes me now (Came l))
unfolding client_takes
taken_letter_fits me n k now l args link fit =
    confirmed_fits me n (suc k) 0 (takes_msg me now (bookie_in l.from) l.msg)
    (msg_fits me n k now (bookie_in l.from) l.msg args (from_fits l.from l.to link.0) link.1 fit)

-- a client with fewer lines and letters
pub fewer : (me : ClientArgs) (n m i j : ℕ) → n ≤ m → i ≤ j → ArgsFit m j me → ArgsFit n i me
fewer me n m i j h g args = record {
  number = args.number;
  session = args.session;
  count = args.count;
  calls = omega (arith, h, args.calls);
  counted = omega (arith, g, args.counted);
}

-- a client by all that it took
pub client_fits : (me : ClientArgs) (view : List Input) → ArgsFit (lines_in view) (length view) me → AllByRecursion IsInput view
    → NowFits me (lines_in view) (length view) (client_of me view)
unfolding client_of
client_fits me [] args each = new_fits me 0 0 args.count
client_fits me (Line line x ∷ view) args each =
    let n : ℕ = lines_in view in
    let k : ℕ = length view in
    (taken_line_fits me n k (client_of me view) line x args each.0
    (client_fits me view (fewer me n (suc n) k (suc k) (omega arith) (omega arith) args) each.1)).now
client_fits me (Came l ∷ view) args each =
    let n : ℕ = lines_in view in
    let k : ℕ = length view in
    (taken_letter_fits me n k (client_of me view) l args each.0 (client_fits me view (fewer me n n k (suc k) (omega arith) (omega arith) args) each.1)).now

-- what a client does as it takes something more
done_fits : (me : ClientArgs) (n k more : ℕ) (move : ClientMove) → MoveFits me n k more move → ClientActsFit move.acts
done_fits me n k more move fit = record { events = fit.acts.events; letters = fit.acts.letters }

-- a client that takes something more
pub input_fits : (me : ClientArgs) (view : List Input) (x : Input) → ArgsFit (lines_in (x ∷ view)) (length (x ∷ view)) me
    → AllByRecursion IsInput (x ∷ view) → ClientActsFit (acts_of me view x)
input_fits me view (Line line x) args each =
    let n : ℕ = lines_in view in
    let k : ℕ = length view in
    done_fits me (suc n) (suc k) 1 _ (taken_line_fits me n k (client_of me view) line x args each.0
    (client_fits me view (fewer me n (suc n) k (suc k) (omega arith) (omega arith) args) each.1))
input_fits me view (Came l) args each =
    let n : ℕ = lines_in view in
    let k : ℕ = length view in
    done_fits me n (suc k) 0 _ (taken_letter_fits me n k (client_of me view) l args each.0
    (client_fits me view (fewer me n n k (suc k) (omega arith) (omega arith) args) each.1))

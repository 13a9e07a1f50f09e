-- What a client shows, whatever it takes.
use Rattle.std.proofs.Common.{◌≡◌, ℕ, false, ◌&&◌, ◌==◌, [], Option, Some, None, refl, ap, subst}
use Rattle.dl_types.specs.declared.refusal.Refusal.TheVariants as why
use Rattle.dl_types.specs.declared.start.Start.TheVariants as start
use Rattle.dl_msg.specs.declared.heard.Heard.{Heard}
use Rattle.dl_msg.specs.declared.heard.Heard.TheVariants.{Reply, From}
use Rattle.dl_msg.specs.declared.meta_reply.MetaReply.{MetaReply}
use Rattle.dl_msg.specs.declared.meta_reply.MetaReply.TheVariants.{Expired, Answer}
use Rattle.dl_msg.specs.declared.msg.Msg.{Msg}
use Rattle.dl_msg.specs.declared.msg.Msg.TheVariants as msg
use Rattle.dl_schedule.specs.declared.step.Step.{Step}
use Rattle.dl_schedule.specs.declared.step.Step.TheVariants as step
use Rattle.dl_transcript.specs.Legal.{History}
use Rattle.dl_rules_stream.specs.Makes.{make_first}
use Rattle.dl_rules_stream.specs.Removes.{remove_first}
use Rattle.dl_rules_stream.specs.Recovers.{recover_first}
use Rattle.dl_rules_stream.specs.Truncates.{truncate_first}
use Rattle.dl_rules_stream.specs.Purges.{purge_first}
use Rattle.dl_rules_stream.specs.Seeks.{seek_first}
use Rattle.dl_rules_client.specs.Acts.{Input, Line, Came, ClientArgs, no_acts}
use Rattle.dl_rules_client.specs.Views.{Makes, Removes, Recovers, Seeks, Truncates, Purges, Order, ClientNow, ClientMove, stays, recover_args}
use Rattle.dl_rules_client.specs.Views.{truncate_args}
use Rattle.dl_rules_client.specs.Moves.{refusal_event}
use Rattle.dl_rules_client.specs.Orders.{order_hears}
use Rattle.dl_rules_client.specs.Clients.{reply_hears, meta_hears, tagged_hears, takes_msg, bookie_in, takes_order, if_free, takes_line}
use Rattle.dl_rules_client.specs.Clients.{takes_input, with_confirmation, client_takes, client_of}
use Rattle.dl_rules_client.proofs.RangeLists.{cond_both}
use Rattle.dl_law_client.specs.Seen.{is_read, has_read, stream_read, PartsSeen, ClientSeen}
use Rattle.dl_law_client.specs.Laws.{EachClientLeads}
use Rattle.dl_law_client.proofs.Shown.{refused_shows}
use Rattle.dl_law_client.proofs.Moves.{none_lead, MoveLeads, stays_lead, refuses_lead, ends_lead}
use Rattle.dl_law_client.proofs.Orders.{FreeSeen, free_is, begins_lead, begins_open_lead, begins_read_lead, order_lead}
use Rattle.dl_law_client.proofs.Writing.{appends_one_lead, appends_many_lead, flushes_lead, commit_lead, confirm_lead, writer_lead}

-- ---- letters

-- what was shown of a client whose order under way is this
with_order_seen : (me : ClientArgs) (s : History) (now : ClientNow) (o : Order) → now.order ≡ Some o → ClientSeen now (s.clients me.number)
    → PartsSeen now.taken (stream_read now.reader) (is_read o.doing) (s.clients me.number)
with_order_seen me s now o e h =
    subst (λ (x : Option Order). PartsSeen now.taken (stream_read now.reader) (has_read x) (s.clients me.number)) e h

-- the order under way hears something
hears_lead : (me : ClientArgs) (s : History) (now : ClientNow) (o : Order) (h : Heard) → now.order ≡ Some o → ClientSeen now (s.clients me.number)
    → MoveLeads me now.taken now.asked s (order_hears me now o h o.doing)
hears_lead me s now o h e f =
    order_lead me now.taken now.asked s now o h o.doing refl
    (none_lead me s now (stream_read now.reader) (is_read o.doing) (with_order_seen me s now o e f))

-- the reply to the present request
reply_lead : (me : ClientArgs) (s : History) (now : ClientNow) (o : Option Order) (r : MetaReply) → now.order ≡ o → ClientSeen now (s.clients me.number)
    → MoveLeads me now.taken now.asked s (reply_hears me now o r)
reply_lead me s now None r e f = stays_lead me s now f
reply_lead me s now (Some o) Expired e f =
    ends_lead me now.taken now.asked s now o no_acts (refusal_event me (why.Expired me.session)) (is_read o.doing)
    (none_lead me s now (stream_read now.reader) (is_read o.doing) (with_order_seen me s now o e f))
    (λ t g. refused_shows me.number t (why.Expired me.session) now.taken (stream_read now.reader) (is_read o.doing) (λ u w. absurd cc) g)
reply_lead me s now (Some o) (Answer a) e f = hears_lead me s now o (Reply a) e f

-- a reply
meta_lead : (me : ClientArgs) (s : History) (now : ClientNow) (session number : ℕ) (r : MetaReply) → ClientSeen now (s.clients me.number)
    → MoveLeads me now.taken now.asked s (meta_hears me now session number r)
meta_lead me s now session number r f =
    cond_both (MoveLeads me now.taken now.asked s) (session == me.session && number == now.asked && now.awaits)
    (reply_hears me (record now { awaits = false }) now.order r) (stays now no_acts)
    (reply_lead me s (record now { awaits = false }) now.order r refl f) (stays_lead me s now f)

-- a tagged message
tagged_lead : (me : ClientArgs) (s : History) (now : ClientNow) (o : Option Order) (tag b : ℕ) (m : Msg) → now.order ≡ o
    → ClientSeen now (s.clients me.number) → MoveLeads me now.taken now.asked s (tagged_hears me now o tag b m)
tagged_lead me s now None tag b m e f = stays_lead me s now f
tagged_lead me s now (Some o) tag b m e f =
    cond_both (MoveLeads me now.taken now.asked s) (tag == o.line) (order_hears me now o (From b m) o.doing) (stays now no_acts)
    (hears_lead me s now o (From b m) e f) (stays_lead me s now f)

-- a message by its kind
msg_lead : (me : ClientArgs) (s : History) (now : ClientNow) (b : ℕ) (m : Msg) → ClientSeen now (s.clients me.number)
    → MoveLeads me now.taken now.asked s (takes_msg me now b m)
unfolding takes_msg
msg_lead me s now b (msg.Add l e n bytes) f = stays_lead me s now f
msg_lead me s now b (msg.Copy t l e n bytes) f = stays_lead me s now f
msg_lead me s now b (msg.AskLac t l fence) f = stays_lead me s now f
msg_lead me s now b (msg.AskEntry t l e) f = stays_lead me s now f
msg_lead me s now b (msg.AddOk l e) f = writer_lead me s now now.writer l b (msg.AddOk l e) f
msg_lead me s now b (msg.AddFenced l e) f = writer_lead me s now now.writer l b (msg.AddFenced l e) f
msg_lead me s now b (msg.Full what l e) f = stays_lead me s now f
msg_lead me s now b (msg.CopyOk t l e) f = tagged_lead me s now now.order t b (msg.CopyOk t l e) refl f
msg_lead me s now b (msg.LacIs t l fence n) f = tagged_lead me s now now.order t b (msg.LacIs t l fence n) refl f
msg_lead me s now b (msg.EntryIs t l e bytes) f = tagged_lead me s now now.order t b (msg.EntryIs t l e bytes) refl f
msg_lead me s now b (msg.NoEntry t l e fence) f = tagged_lead me s now now.order t b (msg.NoEntry t l e fence) refl f
msg_lead me s now b (msg.MetaAsk session number op) f = stays_lead me s now f
msg_lead me s now b (msg.MetaReply session number r) f = meta_lead me s now session number r f

-- ---- lines

-- an order that begins, where none is under way
line_order_lead : (me : ClientArgs) (s : History) (now : ClientNow) (line : ℕ) (x : Step) → has_read now.order ≡ false → FreeSeen me s now
    → MoveLeads me now.taken now.asked s (takes_order me now line x)
unfolding takes_order
line_order_lead me s now line (step.Create c stream) e f = begins_lead me s now line stream (Makes []) (λ o. (make_first stream).1) refl tt f
line_order_lead me s now line (step.Remove c stream) e f = begins_lead me s now line stream (Removes []) (λ o. (remove_first stream).1) refl tt f
line_order_lead me s now line (step.Open c stream) e f = begins_open_lead me s now line stream now.writer e f
line_order_lead me s now line (step.Recover c stream) e f =
    begins_lead me s now line stream (Recovers []) (λ o. (recover_first (recover_args me o)).1) refl tt f
line_order_lead me s now line (step.Purge c stream) e f = begins_lead me s now line stream (Purges []) (λ o. (purge_first stream).1) refl tt f
line_order_lead me s now line (step.Commit c) e f = commit_lead me s now line now.writer e f
line_order_lead me s now line (step.Close c) e f = confirm_lead me s now line now.writer e f
line_order_lead me s now line (step.SeekOldest c stream) e f =
    begins_lead me s now line stream (Seeks start.Oldest []) (λ o. (seek_first stream).1) refl tt f
line_order_lead me s now line (step.SeekPlace c stream d) e f =
    begins_lead me s now line stream (Seeks (start.Place d) []) (λ o. (seek_first stream).1) refl tt f
line_order_lead me s now line (step.SeekTxid c stream txid) e f =
    begins_lead me s now line stream (Seeks (start.Tx txid) []) (λ o. (seek_first stream).1) refl tt f
line_order_lead me s now line (step.Read c count) e f = begins_read_lead me s now line count now.reader refl e f
line_order_lead me s now line (step.Truncate c stream d) e f =
    begins_lead me s now line stream (Truncates d []) (λ o. (truncate_first (truncate_args o d)).1) refl tt f
line_order_lead me s now line x e f = stays_lead me s now (free_is me s now e f)

-- a client has one order under way
if_free_lead : (me : ClientArgs) (s : History) (now : ClientNow) (o : Option Order) (line : ℕ) (x : Step) → now.order ≡ o
    → ClientSeen now (s.clients me.number) → MoveLeads me now.taken now.asked s (if_free me now o line x)
if_free_lead me s now (Some o) line x e f = refuses_lead me s now (why.Busy o.line) refl f
if_free_lead me s now None line x e f =
    line_order_lead me s now line x (ap has_read e)
    (subst (λ (y : Option Order). PartsSeen now.taken (stream_read now.reader) (has_read y) (s.clients me.number)) e f)

-- a line
line_lead : (me : ClientArgs) (s : History) (now : ClientNow) (line : ℕ) (x : Step) → ClientSeen now (s.clients me.number)
    → MoveLeads me now.taken now.asked s (takes_line me now line x)
unfolding takes_line
line_lead me s now line (step.Append c txid payload) f = appends_one_lead me s now now.writer txid payload f
line_lead me s now line (step.Set c txid payloads) f = appends_many_lead me s now now.writer txid payloads f
line_lead me s now line (step.Flush c) f = flushes_lead me s now now.writer f
line_lead me s now line x f = if_free_lead me s now now.order line x refl f

-- ---- what a client takes

-- a line, or a letter
input_lead : (me : ClientArgs) (s : History) (now : ClientNow) (x : Input) → ClientSeen now (s.clients me.number)
    → MoveLeads me now.taken now.asked s (takes_input me now x)
input_lead me s now (Line line x) f = line_lead me s now line x f
input_lead me s now (Came l) f = msg_lead me s now (bookie_in l.from) l.msg f

-- what the writer has confirmed is no part of this
confirmed_lead : (me : ClientArgs) (before first : ℕ) (s : History) (move : ClientMove) → MoveLeads me before first s move
    → MoveLeads me before first s (with_confirmation move)
confirmed_lead me before first s move h = record { leads = h.leads; taken = h.taken; letters = h.letters; asks = h.asks }

-- whatever a client takes
taken_lead : (me : ClientArgs) (s : History) (now : ClientNow) (x : Input) → ClientSeen now (s.clients me.number)
    → MoveLeads me now.taken now.asked s (client_takes me now x)
unfolding client_takes
taken_lead me s now x f = confirmed_lead me now.taken now.asked s (takes_input me now x) (input_lead me s now x f)

-- a client, by all that it took
pub each_client_leads : EachClientLeads
unfolding client_of
each_client_leads me view x s f = taken_lead me s (client_of me view) x f

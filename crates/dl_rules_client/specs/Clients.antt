-- A client process (DistributedLog documentation, "Log writer" and "Log reader"): what it does with a line of the schedule or a
-- letter, and what it is, as a fold over all that it took.
use Rattle.std.specs.Prelude.{ℕ, Bool, false, if◌then◌else◌, ◌&&◌, ◌==◌, List, [], ◌∷◌, Option, Some, None, is_none}
use Rattle.dl_types.specs.declared.address.Address.{Address}
use Rattle.dl_types.specs.declared.address.Address.TheVariants.{Client, Bookie as AtBookie, Meta as AtMeta}
use Rattle.dl_types.specs.declared.refusal.Refusal.TheVariants as why
use Rattle.dl_types.specs.declared.start.Start.TheVariants as start
use Rattle.dl_msg.specs.declared.heard.Heard.TheVariants.{Reply, From}
use Rattle.dl_msg.specs.declared.meta_reply.MetaReply.{MetaReply}
use Rattle.dl_msg.specs.declared.meta_reply.MetaReply.TheVariants.{Expired, Answer}
use Rattle.dl_msg.specs.declared.msg.Msg.{Msg}
use Rattle.dl_msg.specs.declared.msg.Msg.TheVariants as msg
use Rattle.dl_schedule.specs.declared.step.Step.{Step}
use Rattle.dl_schedule.specs.declared.step.Step.TheVariants as step
use Rattle.dl_rules_stream.specs.Makes.{make_first}
use Rattle.dl_rules_stream.specs.Removes.{remove_first}
use Rattle.dl_rules_stream.specs.Recovers.{recover_first}
use Rattle.dl_rules_stream.specs.Truncates.{truncate_first}
use Rattle.dl_rules_stream.specs.Purges.{purge_first}
use Rattle.dl_rules_client.specs.Acts.{Input, Line, Came, ClientArgs, Acts, no_acts}
use Rattle.dl_rules_client.specs.Views.{Makes, Removes, Recovers, Truncates, Purges, Order, WriterView, ClientNow, ClientMove, new_client, stays}
use Rattle.dl_rules_client.specs.Views.{recover_args, truncate_args, log_now}
use Rattle.dl_rules_client.specs.Moves.{refusal_event, refuses, ends_with}
use Rattle.dl_rules_client.specs.Writing.{appends_one, appends_many, flushes, begins_commit, begins_confirm, writer_hears, confirmation_of, has_nothing_to_send}
use Rattle.dl_rules_client.specs.Orders.{begins, begins_seek, begins_open, begins_read, order_hears}

-- ---- letters

-- the reply to the present request
abbrev pub reply_hears : ClientArgs → ClientNow → Option Order → MetaReply → ClientMove
reply_hears me now None r = stays now no_acts
reply_hears me now (Some o) Expired = ends_with now o no_acts (refusal_event me (why.Expired me.session))
reply_hears me now (Some o) (Answer a) = order_hears me now o (Reply a) o.doing

-- a reply counts for the present request alone, and once
abbrev pub meta_hears : ClientArgs → ClientNow → (session number : ℕ) → MetaReply → ClientMove
meta_hears me now session number r =
    if session == me.session && number == now.asked && now.awaits then reply_hears me (record now { awaits = false }) now.order r
    else stays now no_acts

-- a tagged message counts for the order of its line alone
abbrev pub tagged_hears : ClientArgs → ClientNow → Option Order → (tag bookie : ℕ) → Msg → ClientMove
tagged_hears me now None tag b m = stays now no_acts
tagged_hears me now (Some o) tag b m = if tag == o.line then order_hears me now o (From b m) o.doing else stays now no_acts

-- a message by its kind; one that is for a node says nothing to a client, and a Full counts as no answer
unfoldable pub takes_msg : ClientArgs → ClientNow → ℕ → Msg → ClientMove
takes_msg me now b (msg.Add l e n bytes) = stays now no_acts
takes_msg me now b (msg.Copy t l e n bytes) = stays now no_acts
takes_msg me now b (msg.AskLac t l f) = stays now no_acts
takes_msg me now b (msg.AskEntry t l e) = stays now no_acts
takes_msg me now b (msg.AddOk l e) = writer_hears me now now.writer l b (msg.AddOk l e)
takes_msg me now b (msg.AddFenced l e) = writer_hears me now now.writer l b (msg.AddFenced l e)
takes_msg me now b (msg.Full what l e) = stays now no_acts
takes_msg me now b (msg.CopyOk t l e) = tagged_hears me now now.order t b (msg.CopyOk t l e)
takes_msg me now b (msg.LacIs t l f n) = tagged_hears me now now.order t b (msg.LacIs t l f n)
takes_msg me now b (msg.EntryIs t l e bytes) = tagged_hears me now now.order t b (msg.EntryIs t l e bytes)
takes_msg me now b (msg.NoEntry t l e f) = tagged_hears me now now.order t b (msg.NoEntry t l e f)
takes_msg me now b (msg.MetaAsk session number op) = stays now no_acts
takes_msg me now b (msg.MetaReply session number r) = meta_hears me now session number r

-- the storage node that a letter is from; the kinds that name none come from the metadata node
abbrev pub bookie_in : Address → ℕ
bookie_in (AtBookie b) = b
bookie_in AtMeta = 0
bookie_in (Client c) = 0

-- ---- lines

-- an order that begins, where none is under way
unfoldable pub takes_order : ClientArgs → ClientNow → ℕ → Step → ClientMove
takes_order me now line (step.Create c s) = begins me now line s (Makes []) (λ o. (make_first s).1)
takes_order me now line (step.Remove c s) = begins me now line s (Removes []) (λ o. (remove_first s).1)
takes_order me now line (step.Open c s) = begins_open me now line s now.writer
takes_order me now line (step.Recover c s) = begins me now line s (Recovers []) (λ o. (recover_first (recover_args me o)).1)
takes_order me now line (step.Purge c s) = begins me now line s (Purges []) (λ o. (purge_first s).1)
takes_order me now line (step.Commit c) = begins_commit me now line now.writer
takes_order me now line (step.Close c) = begins_confirm me now line now.writer
takes_order me now line (step.SeekOldest c s) = begins_seek me now line s start.Oldest
takes_order me now line (step.SeekPlace c s d) = begins_seek me now line s (start.Place d)
takes_order me now line (step.SeekTxid c s txid) = begins_seek me now line s (start.Tx txid)
takes_order me now line (step.Read c count) = begins_read me now line count now.reader
takes_order me now line (step.Truncate c s d) = begins me now line s (Truncates d []) (λ o. (truncate_first (truncate_args o d)).1)
takes_order me now line x = stays now no_acts

-- a client has one order under way
abbrev pub if_free : ClientArgs → ClientNow → Option Order → ℕ → Step → ClientMove
if_free me now (Some o) line x = refuses me now (why.Busy o.line)
if_free me now None line x = takes_order me now line x

-- a line; records are taken and sent at once, also while an order is under way
unfoldable pub takes_line : ClientArgs → ClientNow → ℕ → Step → ClientMove
takes_line me now line (step.Append c txid payload) = appends_one me now now.writer txid payload
takes_line me now line (step.Set c txid payloads) = appends_many me now now.writer txid payloads
takes_line me now line (step.Flush c) = flushes me now now.writer
takes_line me now line x = if_free me now now.order line x

-- ---- what a client takes

-- a line, or a letter
abbrev pub takes_input : ClientArgs → ClientNow → Input → ClientMove
takes_input me now (Line line x) = takes_line me now line x
takes_input me now (Came l) = takes_msg me now (bookie_in l.from) l.msg

-- a move, with what the writer has confirmed behind it
abbrev pub with_confirmation : ClientMove → ClientMove
with_confirmation move = record move { acts = record move.acts { confirmed = confirmation_of move.now.writer } }

-- what a client does with what it takes
unfoldable pub client_takes : ClientArgs → ClientNow → Input → ClientMove
client_takes me now x = with_confirmation (takes_input me now x)

-- the client that took these, the newest first
unfoldable pub client_of : ClientArgs → List Input → ClientNow
client_of me [] = new_client me
client_of me (x ∷ view) = (client_takes me (client_of me view) x).now

-- its acts as it takes one more
abbrev pub acts_of : ClientArgs → List Input → Input → Acts
acts_of me view x = (client_takes me (client_of me view) x).acts

-- ---- lines that lack their subject

-- whether a flush would have nothing to send
abbrev pub lacks_parts : Option WriterView → Bool
lacks_parts None = false
lacks_parts (Some w) = has_nothing_to_send (log_now w)

-- a read without a reader, and a flush that has nothing to send
abbrev pub lacks_subject : ClientNow → Step → Bool
lacks_subject now (step.Read c count) = is_none now.reader
lacks_subject now (step.Flush c) = lacks_parts now.writer
lacks_subject now x = false

-- Lines and views, lifted to the rules.
use Rattle.std.proofs.Common.{◌≡◌, ℕ, true, false, List, ◌∷◌, Option, Some, None, refl}
use Rattle.dl_types.specs.declared.refusal.Refusal.{Refusal}
use Rattle.dl_types.specs.declared.refusal.Refusal.TheVariants as why
use Rattle.dl_msg.specs.declared.turn.Turn.{Turn}
use Rattle.dl_msg.specs.declared.turn.Turn.TheVariants as turn
use Rattle.dl_transcript.specs.declared.event.Event.{Event}
use Rattle.dl_rules_stream.specs.Orders.{Ask}
use Rattle.dl_rules_stream.specs.Requests.{Request, op_of}
use Rattle.dl_schedule.specs.declared.step.Step.{Step}
use Rattle.dl_schedule.specs.declared.step.Step.TheVariants as step
use Rattle.dl_rules_client.specs.Acts.{ClientArgs, Input, no_acts}
use Rattle.dl_rules_client.specs.Clients.{client_of, client_takes, takes_input, if_free, takes_line, takes_order}
use Rattle.dl_rules_client.specs.Moves as moves
use Rattle.dl_rules_client.specs.Views as rule
use Rattle.dl_rules_client.specs.Views.{ClientNow, WriterView}
use Rattle.dl_rules_client.specs.Writing.{appends_one, appends_many, flushes}
use Rattle.dl_acts.specs.declared.front.Front.TheVariants.{Nothing}
use Rattle.dl_acts.specs.declared.parts.Parts.{Parts}
use Rattle.dl_acts.specs.Parts.{acts_by}
use Rattle.dl_client.specs.declared.order.Order.{Order}
use Rattle.dl_client.specs.Facts.{ClientFacts}
use Rattle.dl_client.specs.Moves.{after_turn, is_record, parts_at, with_order}
use Rattle.dl_client.specs.Standing.{Does, IsThere, NowStands, OrderStands, Takes}
use Rattle.dl_client.proofs.Going.{goes_on_does}
use Rattle.dl_client.proofs.Hearing.{with_order_stands}

-- a client is refused something
pub refused_does : (me : ClientArgs) (n : ClientNow) (c : ClientFacts) (r : Refusal) → NowStands me n c
    → Does me (moves.refuses me n r) (parts_at c Nothing (turn.Refused r)) c
refused_does me n c r h = record { acts_are = rw h.number refl; stands = h }

-- without a writer nothing is appended
append_refused : (me : ClientArgs) (n : ClientNow) (c : ClientFacts) (txid : ℕ) (payload : List ℕ) (w : Option WriterView) → NowStands me n c → w ≡ None
    → Does me (appends_one me n w txid payload) (parts_at c Nothing (turn.Refused why.NoWriter)) c
append_refused me n c txid payload w h none = rw none (refused_does me n c why.NoWriter h)

-- without a writer no set is appended
set_refused : (me : ClientArgs) (n : ClientNow) (c : ClientFacts) (txid : ℕ) (payloads : List (List ℕ)) (w : Option WriterView) → NowStands me n c → w ≡ None
    → Does me (appends_many me n w txid payloads) (parts_at c Nothing (turn.Refused why.NoWriter)) c
set_refused me n c txid payloads w h none = rw none (refused_does me n c why.NoWriter h)

-- without a writer nothing is sent
flush_refused : (me : ClientArgs) (n : ClientNow) (c : ClientFacts) (w : Option WriterView) → NowStands me n c → w ≡ None
    → Does me (flushes me n w) (parts_at c Nothing (turn.Refused why.NoWriter)) c
flush_refused me n c w h none = rw none (refused_does me n c why.NoWriter h)

-- without a writer no records are taken or sent
pub records_refused : (me : ClientArgs) (n : ClientNow) (c : ClientFacts) (line : ℕ) (x : Step) → NowStands me n c → is_record x ≡ true
    → Does me (takes_line me n line x) (parts_at c Nothing (turn.Refused why.NoWriter)) c
unfolding takes_line
records_refused me n c line (step.Append client txid payload) h e = append_refused me n c txid payload n.writer h h.writer
records_refused me n c line (step.Set client txid payloads) h e = set_refused me n c txid payloads n.writer h h.writer
records_refused me n c line (step.Flush client) h e = flush_refused me n c n.writer h h.writer
records_refused me n c line x h e = absurd (cc)

-- any other line begins an order, where none is under way
pub other_line : (me : ClientArgs) (n : ClientNow) (line : ℕ) (x : Step) → is_record x ≡ false → takes_line me n line x ≡ if_free me n n.order line x
unfolding takes_line
other_line me n line (step.Append client txid payload) e = cc
other_line me n line (step.Set client txid payloads) e = cc
other_line me n line (step.Flush client) e = cc
other_line me n line x e = refl

-- an order that begins asks for its first request
pub begin_does : (me : ClientArgs) (n : ClientNow) (o : rule.Order) (r : Request) (c : ClientFacts) (k : Order) (t : Turn Event)
    → NowStands me n c → OrderStands me o k → t ≡ turn.Ask (op_of r)
    → Does me (moves.asks me n o no_acts r) (parts_at (with_order c k) Nothing t) (after_turn (with_order c k) t)
begin_does me n o r c k t h stands is =
    rw is (goes_on_does me n o o (with_order c k) (Ask r) (with_order_stands me n o c k h stands))

-- another order is refused while one is under way
pub busy_does : (me : ClientArgs) (n : ClientNow) (c : ClientFacts) (k : Order) (line : ℕ) (x : Step) (o : Option rule.Order) → NowStands me n c
    → IsThere (OrderStands me) o k → Does me (if_free me n o line x) (parts_at c Nothing (turn.Refused (why.Busy k.line))) c
busy_does me n c k line x o h there = rw (there.is, there.stands.line) (refused_does me n c (why.Busy there.value.line) h)

-- where none is, it begins
pub free_does : (me : ClientArgs) (n : ClientNow) (line : ℕ) (x : Step) (o : Option rule.Order) (parts : Parts) (after : ClientFacts) → o ≡ None
    → Does me (takes_order me n line x) parts after → Does me (if_free me n o line x) parts after
free_does me n line x o parts after free d = rw free d

-- a client that takes something stands for the view with it
pub takes_view : (me : ClientArgs) (view : List Input) (x : Input) (parts : Parts) (c : ClientFacts)
    → Does me (takes_input me (client_of me view) x) parts c → Takes me view x (acts_by parts None) c
unfolding client_of client_takes
takes_view me view x parts c d = record { acts_are = rw (d.stands.writer, ← d.acts_are) refl; stands = d.stands }

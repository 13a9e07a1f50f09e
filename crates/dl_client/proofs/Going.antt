-- How a client's order goes on, lifted from what is kept to what the rules say.
use Rattle.std.proofs.Common.{◌≡◌, ℕ, suc, ◌+◌, Bool, true, false, List, Option, Some, None, refl, add-one}
use Rattle.dl_types.specs.declared.dlsn.Dlsn.{Dlsn}
use Rattle.dl_msg.specs.declared.heard.Heard.{Heard}
use Rattle.dl_msg.specs.declared.turn.Turn.{Turn}
use Rattle.dl_transcript.specs.declared.event.Event.{Event}
use Rattle.dl_transcript.specs.declared.event.Event.TheVariants as event
use Rattle.dl_rules_stream.specs.Orders.{Next, Wait, Ask, Tell, Done, Refused}
use Rattle.dl_rules_stream.specs.Requests.{Request}
use Rattle.dl_requests.specs.Turns.{turn_of, next_by}
use Rattle.dl_rules_client.specs.Acts.{ClientArgs, Acts, no_acts}
use Rattle.dl_rules_client.specs.Moves as moves
use Rattle.dl_rules_client.specs.Moves.{goes_on, ends_with, writer_behind}
use Rattle.dl_rules_client.specs.Orders.{order_hears, goes_to}
use Rattle.dl_rules_client.specs.Views as rule
use Rattle.dl_rules_client.specs.Views.{ClientNow, order_doing, WriterView}
use Rattle.dl_acts.specs.declared.front.Front.TheVariants.{Nothing}
use Rattle.dl_client.specs.declared.doing.Doing.{Doing}
use Rattle.dl_client.specs.declared.doing.Doing.TheVariants as kept
use Rattle.dl_client.specs.declared.order.Order.{Order}
use Rattle.dl_client.specs.Facts.{ClientFacts}
use Rattle.dl_client.specs.Hearing.{Going, going_at, going_of, hears_in}
use Rattle.dl_client.specs.Moves.{after_turn, parts_at}
use Rattle.dl_client.specs.Standing.{Does, DoingStands, NowStands, OrderStands}

-- no writer is left where there was none
pub none_behind : (closing : Bool) (w : Option WriterView) → w ≡ None → writer_behind closing w ≡ None
none_behind true w h = refl
none_behind false w h = h

-- an order that goes on by its list does what the rules say
pub goes_on_does : (me : ClientArgs) (n : ClientNow) (o before : rule.Order) (c : ClientFacts) (next : Next Event)
    → NowStands me (moves.with_order n o) c
    → Does me (goes_on me n o no_acts next (ends_with n before no_acts)) (parts_at c Nothing (turn_of next)) (after_turn c (turn_of next))
goes_on_does me n o before c Wait h = record { acts_are = refl; stands = h }
goes_on_does me n o before c (Ask r) h = record {
  acts_are = rw (h.number, h.session, add-one, h.asked) refl;
  stands = record {
    number = h.number;
    session = h.session;
    conf = h.conf;
    asked = rw (add-one, h.asked) refl;
    awaits = refl;
    taken = h.taken;
    order = h.order;
    writer = h.writer;
    reader = h.reader;
  };
}
goes_on_does me n o before c (Tell letters) h = record { acts_are = rw (h.number, h.session) refl; stands = h }
goes_on_does me n o before c (Done e) h = record {
  acts_are = refl;
  stands = record {
    number = h.number;
    session = h.session;
    conf = h.conf;
    asked = h.asked;
    awaits = refl;
    taken = h.taken;
    order = refl;
    writer = none_behind _ _ h.writer;
    reader = h.reader;
  };
}
goes_on_does me n o before c (Refused r) h = record {
  acts_are = rw h.number refl;
  stands = record {
    number = h.number;
    session = h.session;
    conf = h.conf;
    asked = h.asked;
    awaits = refl;
    taken = h.taken;
    order = refl;
    writer = none_behind _ _ h.writer;
    reader = h.reader;
  };
}

-- an order that goes on to an event of what its list is done with
goes_with_event : {A : Type 0} (me : ClientArgs) (n : ClientNow) (o : rule.Order) (doing : rule.Doing) (next : Next A) (end : A → Event)
    → goes_to me n o doing next end ≡ goes_on me n (order_doing o doing) no_acts (next_by end next) (ends_with n o no_acts)
goes_with_event me n o doing Wait end = refl
goes_with_event me n o doing (Ask r) end = refl
goes_with_event me n o doing (Tell letters) end = refl
goes_with_event me n o doing (Done a) end = refl
goes_with_event me n o doing (Refused r) end = refl

-- an order that goes on by one rule, where it does this
abbrev GoesByRule : ClientArgs → ClientNow → rule.Order → Heard → rule.Doing → Type 0
GoesByRule me n o h d =
    order_hears me n o h d ≡ goes_on me n (order_doing o (going_at me.number o h d).doing) no_acts (going_at me.number o h d).next (ends_with n o no_acts)

-- one that makes its stream
makes_by : (me : ClientArgs) (n : ClientNow) (o : rule.Order) (h : Heard) (d : rule.Doing) (heard : List Heard) → d ≡ rule.Makes heard → GoesByRule me n o h d
unfolding order_hears
makes_by me n o h d heard e = rw e (goes_with_event me n o _ _ (λ u. event.Created me.number o.stream))

-- one that removes its stream
removes_by : (me : ClientArgs) (n : ClientNow) (o : rule.Order) (h : Heard) (d : rule.Doing) (heard : List Heard) → d ≡ rule.Removes heard → GoesByRule me n o h d
unfolding order_hears
removes_by me n o h d heard e = rw e (goes_with_event me n o _ _ (λ u. event.Removed me.number o.stream))

-- one that moves the point of its stream
truncates_by : (me : ClientArgs) (n : ClientNow) (o : rule.Order) (h : Heard) (d : rule.Doing) (to : Dlsn) (heard : List Heard) → d ≡ rule.Truncates to heard
    → GoesByRule me n o h d
unfolding order_hears
truncates_by me n o h d to heard e = rw e (goes_with_event me n o _ _ (event.Truncated me.number o.stream))

-- one that deletes the segments below the point of its stream
purges_by : (me : ClientArgs) (n : ClientNow) (o : rule.Order) (h : Heard) (d : rule.Doing) (heard : List Heard) → d ≡ rule.Purges heard → GoesByRule me n o h d
unfolding order_hears
purges_by me n o h d heard e = rw e (goes_with_event me n o _ _ (event.Purged me.number o.stream))

-- what a client does where its order hears something is one rule for all of these orders
pub hears_by_doing : (me : ClientArgs) (n : ClientNow) (o : rule.Order) (h : Heard) (k : Doing) → DoingStands me o k
    → order_hears me n o h o.doing
    ≡ goes_on me n (order_doing o (going_of me o h).doing) no_acts (going_of me o h).next (ends_with n o no_acts)
hears_by_doing me n o h (kept.Makes task) k = makes_by me n o h o.doing k.heard k.is
hears_by_doing me n o h (kept.Removes task) k = removes_by me n o h o.doing k.heard k.is
hears_by_doing me n o h (kept.Truncates task) k = truncates_by me n o h o.doing k.to k.heard k.is
hears_by_doing me n o h (kept.Purges task) k = purges_by me n o h o.doing k.heard k.is

-- How a client's orders go on and end.
use Rattle.std.specs.Prelude.{ℕ, suc, Bool, true, false, List, [], ◌∷◌, map, Option, Some, None}
use Rattle.dl_types.specs.declared.address.Address.TheVariants.{Client, Bookie as AtBookie, Meta as AtMeta}
use Rattle.dl_types.specs.declared.refusal.Refusal.{Refusal}
use Rattle.dl_msg.specs.declared.letter.Letter.{Letter}
use Rattle.dl_msg.specs.declared.letters.Told.{Told}
use Rattle.dl_msg.specs.declared.msg.Msg.TheVariants as msg
use Rattle.dl_transcript.specs.declared.event.Event.{Event}
use Rattle.dl_transcript.specs.declared.event.Event.TheVariants as event
use Rattle.dl_rules_stream.specs.Requests.{Request, op_of}
use Rattle.dl_rules_stream.specs.Orders.{Next, Wait, Ask, Tell, Done, Refused}
use Rattle.dl_rules_client.specs.Acts.{ClientArgs, Acts, with_letters, with_event, shows}
use Rattle.dl_rules_client.specs.Views.{Doing, Makes, Removes, Opens, Recovers, Commits, Confirms, Closes, Seeks, Reads, Truncates, Purges, Order}
use Rattle.dl_rules_client.specs.Views.{WriterView, ClientNow, ClientMove, stays}

-- ---- letters and refusals

-- a request, as a letter to the metadata node
abbrev pub request_letter : ClientArgs → ℕ → Request → Letter
request_letter me number r =
    record { from = Client me.number; to = AtMeta; session = me.session; msg = msg.MetaAsk me.session number (op_of r) }

-- a message for a storage node, as a letter
abbrev pub told_letter : ClientArgs → Told → Letter
told_letter me t = record { from = Client me.number; to = AtBookie t.bookie; session = me.session; msg = t.msg }

-- messages for storage nodes, as letters
abbrev pub told_letters : ClientArgs → List Told → List Letter
told_letters me ts = map (told_letter me) ts

-- a refusal, as an event
abbrev pub refusal_event : ClientArgs → Refusal → Event
refusal_event me r = event.Refused me.number r

-- a line that is refused changes nothing
abbrev pub refuses : ClientArgs → ClientNow → Refusal → ClientMove
refuses me now r = stays now (shows (refusal_event me r))

-- ---- orders

-- whether what an order does is the end of the client's writer, however the order ends
abbrev pub is_close : Doing → Bool
is_close Confirms = true
is_close (Closes args heard) = true
is_close (Makes heard) = false
is_close (Removes heard) = false
is_close (Opens heard) = false
is_close (Recovers heard) = false
is_close Commits = false
is_close (Seeks from heard) = false
is_close Reads = false
is_close (Truncates to heard) = false
is_close (Purges heard) = false

-- the writer behind an order that has ended
abbrev pub writer_behind : Bool → Option WriterView → Option WriterView
writer_behind true w = None
writer_behind false w = w

-- a client whose order has ended
abbrev pub without_order : ClientNow → Order → ClientNow
without_order now o = record now { order = None; awaits = false; writer = writer_behind (is_close o.doing) now.writer }

-- an order ends with an event, behind its acts so far
abbrev pub ends_with : ClientNow → Order → Acts → Event → ClientMove
ends_with now o acts e = record { now = without_order now o; acts = with_event e acts }

-- a client whose order under way is this one
abbrev pub with_order : ClientNow → Order → ClientNow
with_order now o = record now { order = Some o }

-- an order waits, behind its acts so far
abbrev pub waits : ClientNow → Order → Acts → ClientMove
waits now o acts = record { now = with_order now o; acts = acts }

-- an order makes a request, behind its acts so far
abbrev pub asks : ClientArgs → ClientNow → Order → Acts → Request → ClientMove
asks me now o acts r = record {
  now = record now { order = Some o; asked = suc now.asked; awaits = true };
  acts = with_letters (request_letter me (suc now.asked) r ∷ []) acts;
}

-- what an order does next, behind its acts so far; one that is done goes on as it says
abbrev pub goes_on : {A : Type 0} → ClientArgs → ClientNow → Order → Acts → Next A → (A → ClientMove) → ClientMove
goes_on me now o acts Wait done = waits now o acts
goes_on me now o acts (Ask r) done = asks me now o acts r
goes_on me now o acts (Tell ts) done = waits now o (with_letters (told_letters me ts) acts)
goes_on me now o acts (Done a) done = done a
goes_on me now o acts (Refused r) done = ends_with now o acts (refusal_event me r)

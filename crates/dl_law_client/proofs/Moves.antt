-- How a client's orders go on and end: what they do leads to what shows the client as it is then.
use Rattle.std.proofs.Common.{ℕ, suc, Bool, false, List, [], ◌∷◌, ◌++◌, Option, refl, subst, arith}
use Rattle.std.specs.List.{AllByRecursion}
use Rattle.dl_types.specs.declared.refusal.Refusal.{Refusal}
use Rattle.dl_msg.specs.declared.letter.Letter.{Letter}
use Rattle.dl_msg.specs.declared.letters.Told.{Told}
use Rattle.dl_transcript.specs.declared.event.Event.{Event}
use Rattle.dl_transcript.specs.Legal.{History}
use Rattle.dl_rules_stream.specs.Requests.{Request}
use Rattle.dl_rules_stream.specs.Orders.{Next, Wait, Ask, Tell, Done, Refused}
use Rattle.dl_rules_client.specs.Acts.{ClientArgs, Acts, no_acts, with_letters, with_event}
use Rattle.dl_rules_client.specs.Views.{Order, ClientNow, ClientMove, stays}
use Rattle.dl_rules_client.specs.Moves.{request_letter, told_letters, refusal_event, refuses, ends_with, waits, goes_on}
use Rattle.dl_rules_client.proofs.RangeLists.{all-append}
use Rattle.dl_law_legal.specs.Ruled.{is_ruled, Leads}
use Rattle.dl_law_legal.proofs.Leads.{leads_none, leads_both, leads_to}
use Rattle.dl_law_legal.proofs.Asides.{IsAside}
use Rattle.dl_law_client.specs.Seen.{is_read, has_read, stream_read, PartsSeen, ClientSeen, SeenOf, IsLetterOf, counted_to, AsksOn}
use Rattle.dl_law_client.specs.Seen.{ActsLead, NowLeads}
use Rattle.dl_law_client.proofs.Shown.{others_same, others_both, Shows, aside_shows, refused_shows, beside_shows}
use Rattle.dl_law_client.proofs.Refusals.{EndsBy, LeavesRead}
use Rattle.dl_law_client.proofs.Tells.{AreAsks, TellsAsks}

-- ---- acts

-- events, and then others of the same client
pub events_then : (c : ℕ) (s : History) (count more : ℕ) (stream next : Option (List ℕ)) (reading then : Bool) (xs ys : List Event)
    → Leads is_ruled (SeenOf c s count stream reading) s xs
    → ((t : History) → PartsSeen count stream reading (t.clients c) → Leads is_ruled (SeenOf c t more next then) t ys)
    → Leads is_ruled (SeenOf c s more next then) s (xs ++ ys)
events_then c s count more stream next reading then xs ys now later =
    leads_both is_ruled (SeenOf c s count stream reading) (SeenOf c s more next then) s xs ys now
    (λ t f. leads_to is_ruled (SeenOf c t more next then) (SeenOf c s more next then) t ys
    (λ u g. record { client = g.client; others = others_both c s t u f.others g.others }) (later t f.client))

-- it does nothing
pub none_lead : (me : ClientArgs) (s : History) (now : ClientNow) (stream : Option (List ℕ)) (reading : Bool)
    → PartsSeen now.taken stream reading (s.clients me.number) → ActsLead me now.taken now.asked s now.taken now.asked stream reading no_acts
none_lead me s now stream reading h = record {
  leads = leads_none is_ruled (SeenOf me.number s now.taken stream reading) s (record { client = h; others = others_same me.number s });
  taken = omega arith;
  letters = tt;
  asks = refl;
}

-- an event more
pub event_leads : (me : ClientArgs) (before first : ℕ) (s : History) (count asked : ℕ) (stream next : Option (List ℕ)) (reading then : Bool) (acts : Acts)
    (e : Event)
    → ActsLead me before first s count asked stream reading acts
    → ((t : History) → PartsSeen count stream reading (t.clients me.number) → Shows me.number t e count next then)
    → ActsLead me before first s count asked next then (with_event e acts)
event_leads me before first s count asked stream next reading then acts e h later = record {
  leads = events_then me.number s count count stream next reading then acts.events (e ∷ []) h.leads later;
  taken = h.taken;
  letters = h.letters;
  asks = h.asks;
}

-- requests numbered on, and then others
pub asks-append : (first middle last : ℕ) (xs ys : List Letter) → AsksOn first xs middle → AsksOn middle ys last → AsksOn first (xs ++ ys) last
asks-append first middle last [] ys a b = subst (λ n. AsksOn n ys last) a b
asks-append first middle last (x ∷ xs) ys a b = (a.0, asks-append (counted_to first x.to) middle last xs ys a.1 b)

-- letters more
pub letters_lead : (me : ClientArgs) (before first : ℕ) (s : History) (count asked more : ℕ) (stream : Option (List ℕ)) (reading : Bool)
    (letters : List Letter) (acts : Acts) → AllByRecursion (IsLetterOf me) letters → AsksOn asked letters more
    → ActsLead me before first s count asked stream reading acts → ActsLead me before first s count more stream reading (with_letters letters acts)
letters_lead me before first s count asked more stream reading letters acts each asks h = record {
  leads = h.leads;
  taken = h.taken;
  letters = all-append (IsLetterOf me) acts.letters letters h.letters each;
  asks = asks-append first asked more acts.letters letters h.asks asks;
}

-- ---- letters

-- a request
request_is_of : (me : ClientArgs) (number : ℕ) (r : Request) → IsLetterOf me (request_letter me number r)
request_is_of me number r = record { from = refl; session = refl; told = record { number = number; request = r; is = refl } }

-- messages for storage nodes
pub told_are_of : (me : ClientArgs) (ts : List Told) → AreAsks ts → AllByRecursion (IsLetterOf me) (told_letters me ts)
told_are_of me [] each = tt
told_are_of me (t ∷ ts) each = (record { from = refl; session = refl; told = each.0 }, told_are_of me ts each.1)

-- no request is among them
pub told_ask : (me : ClientArgs) (n : ℕ) (ts : List Told) → AsksOn n (told_letters me ts) n
told_ask me n [] = refl
told_ask me n (t ∷ ts) = (tt, told_ask me n ts)

-- ---- moves

-- what a move does leads to what shows the client as it is then
abbrev pub MoveLeads : ClientArgs → (before first : ℕ) → History → ClientMove → Type 0
MoveLeads me before first s move = NowLeads me before first s move.now move.acts

-- what a client does so far, while it is as this but for a read under way
abbrev pub SoFar : ClientArgs → (before first : ℕ) → History → ClientNow → Bool → Acts → Type 0
SoFar me before first s now reading acts = ActsLead me before first s now.taken now.asked (stream_read now.reader) reading acts

-- a client that stays as it is
pub stays_lead : (me : ClientArgs) (s : History) (now : ClientNow) → ClientSeen now (s.clients me.number)
    → MoveLeads me now.taken now.asked s (stays now no_acts)
stays_lead me s now h = none_lead me s now (stream_read now.reader) (has_read now.order) h

-- a line that is refused beside a read
pub refuses_lead : (me : ClientArgs) (s : History) (now : ClientNow) (r : Refusal) → LeavesRead r → ClientSeen now (s.clients me.number)
    → MoveLeads me now.taken now.asked s (refuses me now r)
refuses_lead me s now r e h =
    let stream : Option (List ℕ) = stream_read now.reader in
    let reading : Bool = has_read now.order in
    event_leads me now.taken now.asked s now.taken now.asked stream stream reading reading no_acts (refusal_event me r) (none_lead me s now stream reading h)
    (λ t f. beside_shows me.number t r now.taken stream reading e f)

-- an order that waits
pub waits_lead : (me : ClientArgs) (before first : ℕ) (s : History) (now : ClientNow) (o : Order) (acts : Acts)
    → SoFar me before first s now (is_read o.doing) acts → MoveLeads me before first s (waits now o acts)
waits_lead me before first s now o acts h = record { leads = h.leads; taken = h.taken; letters = h.letters; asks = h.asks }

-- an order that ends with an event
pub ends_lead : (me : ClientArgs) (before first : ℕ) (s : History) (now : ClientNow) (o : Order) (acts : Acts) (e : Event) (reading : Bool)
    → SoFar me before first s now reading acts
    → ((t : History) → PartsSeen now.taken (stream_read now.reader) reading (t.clients me.number)
    → Shows me.number t e now.taken (stream_read now.reader) false)
    → MoveLeads me before first s (ends_with now o acts e)
ends_lead me before first s now o acts e reading h later =
    let all = event_leads me before first s now.taken now.asked (stream_read now.reader) (stream_read now.reader) reading false acts e h later in
    record { leads = all.leads; taken = all.taken; letters = all.letters; asks = all.asks }

-- an order that is no read ends with an event that goes aside
pub ends_aside : (me : ClientArgs) (before first : ℕ) (s : History) (now : ClientNow) (o : Order) (acts : Acts) (e : Event) → IsAside e
    → SoFar me before first s now false acts → MoveLeads me before first s (ends_with now o acts e)
ends_aside me before first s now o acts e a h =
    ends_lead me before first s now o acts e false h (λ t f. aside_shows me.number t e now.taken (stream_read now.reader) false a f)

-- an order that goes on
pub goes_lead : {A : Type 0} (me : ClientArgs) (before first : ℕ) (s : History) (now : ClientNow) (o : Order) (acts : Acts) (next : Next A)
    (done : A → ClientMove)
    → SoFar me before first s now (is_read o.doing) acts → EndsBy (is_read o.doing) next → TellsAsks next → ((a : A) → MoveLeads me before first s (done a))
    → MoveLeads me before first s (goes_on me now o acts next done)
goes_lead me before first s now o acts Wait done h ends asks later = waits_lead me before first s now o acts h
goes_lead me before first s now o acts (Ask r) done h ends asks later =
    let all = letters_lead me before first s now.taken now.asked (suc now.asked) (stream_read now.reader) (is_read o.doing)
    (request_letter me (suc now.asked) r ∷ []) acts (request_is_of me (suc now.asked) r, tt) (refl, refl) h in
    record { leads = all.leads; taken = all.taken; letters = all.letters; asks = all.asks }
goes_lead me before first s now o acts (Tell ts) done h ends asks later =
    waits_lead me before first s now o (with_letters (told_letters me ts) acts)
    (letters_lead me before first s now.taken now.asked now.asked (stream_read now.reader) (is_read o.doing) (told_letters me ts) acts (told_are_of me ts asks)
    (told_ask me now.asked ts) h)
goes_lead me before first s now o acts (Done a) done h ends asks later = later a
goes_lead me before first s now o acts (Refused r) done h ends asks later =
    ends_lead me before first s now o acts (refusal_event me r) (is_read o.doing) h
    (λ t f. refused_shows me.number t r now.taken (stream_read now.reader) (is_read o.doing) ends f)

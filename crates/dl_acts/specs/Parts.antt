-- What a client does, by its parts.
use Rattle.std.specs.Prelude.{ℕ, List, [], ◌∷◌, ◌++◌, length, map, Option, Some, None, suc}
use Rattle.dl_types.specs.declared.address.Address.TheVariants.{Client, Bookie as AtBookie, Meta as AtMeta}
use Rattle.dl_types.specs.declared.dlsn.Dlsn.{Dlsn}
use Rattle.dl_types.specs.declared.row.Origin.{Origin}
use Rattle.dl_msg.specs.declared.letter.Letter.{Letter}
use Rattle.dl_msg.specs.declared.letters.Told.{Told}
use Rattle.dl_msg.specs.declared.msg.Msg.TheVariants as msg
use Rattle.dl_transcript.specs.declared.event.Event.{Event}
use Rattle.dl_transcript.specs.declared.event.Event.TheVariants as event
use Rattle.dl_rules_client.specs.Acts as rule
use Rattle.dl_acts.specs.declared.asked.Asked.{Asked}
use Rattle.dl_acts.specs.declared.front.Front.{Front}
use Rattle.dl_acts.specs.declared.front.Front.TheVariants.{Nothing, Shows, Writes}
use Rattle.dl_acts.specs.declared.parts.Parts.{Parts}
use Rattle.dl_acts.specs.declared.records.Records.{Records}

-- ---- letters

-- messages for storage nodes, as letters of a client
abbrev pub told_letters : (client session : ℕ) → List Told → List Letter
told_letters client session told =
    map (λ (t : Told). record { from = Client client; to = AtBookie t.bookie; session = session; msg = t.msg }) told

-- a request, as a letter of a client to the metadata node
abbrev pub asked_letter : (client session : ℕ) → Asked → Letter
asked_letter client session a =
    record { from = Client client; to = AtMeta; session = session; msg = msg.MetaAsk session a.number a.op }

-- a request behind other letters, where there is one
abbrev pub with_asked : (client session : ℕ) → List Letter → Option Asked → List Letter
with_asked client session letters None = letters
with_asked client session letters (Some a) = letters ++ asked_letter client session a ∷ []

-- ---- events

-- records of a client are acknowledged at these places
abbrev pub spot_events : ℕ → List (Origin × Dlsn) → List Event
spot_events client spots = map (λ (spot : Origin × Dlsn). event.Ack client spot.0.call spot.1) spots

-- an entry that was sent, as an event
abbrev pub sent_events : ℕ → Option rule.SentEntry → List Event
sent_events client None = []
sent_events client (Some x) = event.Sent client x.segment x.entry ∷ []

-- what is shown first
abbrev pub front_events : ℕ → Front → List Event
front_events client Nothing = []
front_events client (Shows e) = e ∷ []
front_events client (Writes spots sent) = spot_events client spots ++ sent_events client sent

-- the entry that was sent, where one was
abbrev pub sent_in : Front → Option rule.SentEntry
sent_in Nothing = None
sent_in (Shows e) = None
sent_in (Writes spots sent) = sent

-- records of one id that are taken, their calls numbered from this one on
abbrev pub took_events : ℕ → List ℕ → (txid call : ℕ) → List (List ℕ) → List Event
took_events client s txid call [] = []
took_events client s txid call (p ∷ ps) = event.Took client call s txid p ∷ took_events client s txid (suc call) ps

-- records that are taken, as events
abbrev pub record_events : ℕ → Records → List Event
record_events client x = took_events client x.stream x.txid x.call x.payloads

-- records behind other events, where some were taken
abbrev pub with_records : ℕ → List Event → Option Records → List Event
with_records client events None = events
with_records client events (Some x) = events ++ record_events client x

-- how many records were taken
abbrev pub taken_in : Option Records → ℕ
taken_in None = 0
taken_in (Some x) = length x.payloads

-- an event behind others, where there is one
abbrev pub with_last : List Event → Option Event → List Event
with_last events None = events
with_last events (Some e) = events ++ e ∷ []

-- ---- acts

-- what a client's writer has confirmed is no part
abbrev pub acts_by : Parts → Option rule.Confirmation → rule.Acts
acts_by p confirmed = record {
  letters = with_asked p.client p.session (told_letters p.client p.session p.told) p.asked;
  events = with_last (with_records p.client (front_events p.client p.front) p.records) p.last;
  sent = sent_in p.front;
  confirmed = confirmed;
  taken = taken_in p.records;
}

-- a client that only shows this front
abbrev pub parts_behind : (client session : ℕ) → Front → Parts
parts_behind client session front =
    record { client = client; session = session; told = []; asked = None; front = front; records = None; last = None }

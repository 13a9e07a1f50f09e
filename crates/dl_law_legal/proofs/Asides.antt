-- Events that leave what was seen of sessions and clients, and ask for nothing.
use Rattle.std.proofs.Common.{◌≡◌, Bool, true, false, List, [], ◌∷◌, refl, ◌∙◌}
use Rattle.std.specs.List.{AllByRecursion}
use Rattle.dl_transcript.specs.declared.event.Event.{Event}
use Rattle.dl_transcript.specs.declared.event.Event.TheVariants.{Joined, Expired, Created, Removed, Released, Whole, Writer, Took, Sent, Grow, Ack}
use Rattle.dl_transcript.specs.declared.event.Event.TheVariants.{Committed, Closed, Recovered, Point, Truncated, Purged, OpenedAt, OpenedFrom, Reading, End}
use Rattle.dl_transcript.specs.declared.event.Event.TheVariants.{Rows, Refused, Mail, Nothing}
use Rattle.dl_transcript.specs.Legal.{History, keeps, sees}
use Rattle.dl_law_legal.specs.Ruled.{is_ruled, keeps_as_to, Leads}

-- What was seen of sessions and clients is as it was.
pub record StaysSeen (s t : History) : Type 0 where
  pub sessions : t.sessions ≡ s.sessions
  pub expired : t.expired ≡ s.expired
  pub clients : t.clients ≡ s.clients

-- nothing new was seen
pub stays_seen : (s : History) → StaysSeen s s
stays_seen s = record { sessions = refl; expired = refl; clients = refl }

-- one after another
pub stays_both : (s t u : History) → StaysSeen s t → StaysSeen t u → StaysSeen s u
stays_both s t u h k = record { sessions = k.sessions ∙ h.sessions; expired = k.expired ∙ h.expired; clients = k.clients ∙ h.clients }

-- an event that leaves these, and asks for nothing: it has no rule, or its rule isn't among those that are asked for
abbrev pub is_aside : Event → Bool
is_aside (Joined c k) = false
is_aside (Expired k) = false
is_aside (Created c stream) = true
is_aside (Removed c stream) = true
is_aside (Released c stream) = true
is_aside (Whole c stream) = true
is_aside (Writer c stream k) = true
is_aside (Took c n stream txid payload) = false
is_aside (Sent c k e) = true
is_aside (Grow stream d txid c n payload) = true
is_aside (Ack c n d) = false
is_aside (Committed stream d) = true
is_aside (Closed stream k) = true
is_aside (Recovered c stream d) = true
is_aside (Point stream d) = true
is_aside (Truncated c stream d) = true
is_aside (Purged c stream count) = true
is_aside (OpenedAt c stream d) = false
is_aside (OpenedFrom c stream txid) = false
is_aside (Reading c stream) = false
is_aside (End c stream) = false
is_aside (Rows c stream rows) = false
is_aside (Refused c why) = false
is_aside (Mail from to count) = true
is_aside Nothing = true

-- An event that keeps its rule, where it is asked for, and leaves what was seen of sessions and clients.
pub record GoesAside (s : History) (e : Event) : Type 0 where
  pub keeps : keeps_as_to is_ruled s e ≡ true
  pub stays : StaysSeen s (sees s e)

-- so each of them does
pub goes_aside : (s : History) (e : Event) → is_aside e ≡ true → GoesAside s e
unfolding keeps sees
goes_aside s (Joined c k) a = absurd cc
goes_aside s (Expired k) a = absurd cc
goes_aside s (Created c stream) a = record { keeps = refl; stays = stays_seen s }
goes_aside s (Removed c stream) a = record { keeps = refl; stays = stays_seen s }
goes_aside s (Released c stream) a = record { keeps = refl; stays = stays_seen s }
goes_aside s (Whole c stream) a = record { keeps = refl; stays = stays_seen s }
goes_aside s (Writer c stream k) a = record { keeps = refl; stays = record { sessions = refl; expired = refl; clients = refl } }
goes_aside s (Took c n stream txid payload) a = absurd cc
goes_aside s (Sent c k e) a = record { keeps = refl; stays = stays_seen s }
goes_aside s (Grow stream d txid c n payload) a = record { keeps = refl; stays = record { sessions = refl; expired = refl; clients = refl } }
goes_aside s (Ack c n d) a = absurd cc
goes_aside s (Committed stream d) a = record { keeps = refl; stays = record { sessions = refl; expired = refl; clients = refl } }
goes_aside s (Closed stream k) a = record { keeps = refl; stays = record { sessions = refl; expired = refl; clients = refl } }
goes_aside s (Recovered c stream d) a = record { keeps = refl; stays = record { sessions = refl; expired = refl; clients = refl } }
goes_aside s (Point stream d) a = record { keeps = refl; stays = record { sessions = refl; expired = refl; clients = refl } }
goes_aside s (Truncated c stream d) a = record { keeps = refl; stays = stays_seen s }
goes_aside s (Purged c stream count) a = record { keeps = refl; stays = stays_seen s }
goes_aside s (OpenedAt c stream d) a = absurd cc
goes_aside s (OpenedFrom c stream txid) a = absurd cc
goes_aside s (Reading c stream) a = absurd cc
goes_aside s (End c stream) a = absurd cc
goes_aside s (Rows c stream rows) a = absurd cc
goes_aside s (Refused c why) a = absurd cc
goes_aside s (Mail from to count) a = record { keeps = refl; stays = stays_seen s }
goes_aside s Nothing a = record { keeps = refl; stays = stays_seen s }

-- the event goes aside
abbrev pub IsAside : Event → Type 0
IsAside e = is_aside e ≡ true

-- such events one after another
pub asides_lead : (s : History) (es : List Event) → AllByRecursion IsAside es → Leads is_ruled (StaysSeen s) s es
asides_lead s [] each = record { keep = tt; fits = stays_seen s }
asides_lead s (e ∷ es) each =
    let here = goes_aside s e each.0 in
    let rest = asides_lead (sees s e) es each.1 in
    record { keep = (here.keeps, rest.keep); fits = stays_both s (sees s e) _ here.stays rest.fits }

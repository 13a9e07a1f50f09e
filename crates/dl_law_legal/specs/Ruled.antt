-- Legal as to some events: the fold sees every event, and of those that a test names each has to keep its rule.
use Rattle.std.specs.Prelude.{◌≡◌, ℕ, ◌+◌, Bool, true, false, if◌then◌else◌, not, ◌&&◌, ◌||◌, nat_le, List, [], ◌∷◌, Option, Some, None, is_none}
use Rattle.dl_transcript.specs.declared.event.Event.{Event}
use Rattle.dl_transcript.specs.declared.event.Event.TheVariants.{Joined, Expired, Created, Removed, Released, Whole, Writer, Took, Sent, Grow, Ack}
use Rattle.dl_transcript.specs.declared.event.Event.TheVariants.{Committed, Closed, Recovered, Point, Truncated, Purged, OpenedAt, OpenedFrom, Reading, End}
use Rattle.dl_transcript.specs.declared.event.Event.TheVariants.{Rows, Refused, Mail, Nothing}
use Rattle.dl_transcript.specs.Legal.{History, EffectOnRead, Leaves, Ends, Passes, effect_on_read, keeps, sees, no_history}

-- ---- the events whose rules every run of the machine keeps

-- a refusal, by what it does to a read: one by which a point passes its reader isn't among them yet
abbrev pub is_ruled_refusal : EffectOnRead → Bool
is_ruled_refusal Leaves = true
is_ruled_refusal Ends = true
is_ruled_refusal (Passes point) = false

-- an event is one of those whose rules every run keeps. Each further law changes a line here from false to true; where no line says
-- false any more, this asks for all that legal does
abbrev pub is_ruled : Event → Bool
is_ruled (Joined c k) = true
is_ruled (Expired k) = true
is_ruled (Created c stream) = true
is_ruled (Removed c stream) = true
is_ruled (Released c stream) = true
is_ruled (Whole c stream) = true
is_ruled (Writer c stream k) = false
is_ruled (Took c n stream txid payload) = true
is_ruled (Sent c k e) = true
is_ruled (Grow stream d txid c n payload) = false
is_ruled (Ack c n d) = false
is_ruled (Committed stream d) = false
is_ruled (Closed stream k) = false
is_ruled (Recovered c stream d) = false
is_ruled (Point stream d) = false
is_ruled (Truncated c stream d) = false
is_ruled (Purged c stream count) = true
is_ruled (OpenedAt c stream d) = true
is_ruled (OpenedFrom c stream txid) = true
is_ruled (Reading c stream) = true
is_ruled (End c stream) = false
is_ruled (Rows c stream rows) = false
is_ruled (Refused c why) = is_ruled_refusal (effect_on_read why)
is_ruled (Mail from to count) = true
is_ruled Nothing = true

-- an event says which session a client joined with, or that one expired
abbrev pub is_of_session : Event → Bool
is_of_session (Joined c k) = true
is_of_session (Expired k) = true
is_of_session e = false

-- an event says that a record was taken
abbrev pub is_of_record : Event → Bool
is_of_record (Took c n stream txid payload) = true
is_of_record e = false

-- an event says that a reader was opened, or that it began a read
abbrev pub is_of_reader : Event → Bool
is_of_reader (OpenedAt c stream d) = true
is_of_reader (OpenedFrom c stream txid) = true
is_of_reader (Reading c stream) = true
is_of_reader e = false

-- ---- legal as to some events

-- the event keeps its rule, where the test names it
abbrev pub keeps_as_to : (Event → Bool) → History → Event → Bool
keeps_as_to ruled s e = not (ruled e) || keeps s e

-- the place of the first event that the test names and that breaks its rule, or of the first whose line falls
unfoldable pub fault_as_to : (Event → Bool) → ℕ → ℕ → History → List (ℕ × Event) → Option ℕ
fault_as_to ruled place line s [] = None
fault_as_to ruled place line s (x ∷ xs) =
    if nat_le line x.0 && keeps_as_to ruled s x.1 then fault_as_to ruled (place + 1) x.0 (sees s x.1) xs else Some place

-- the numbers of its lines never fall, and each event that the test names keeps its rule
abbrev pub is_legal_as_to : (Event → Bool) → List (ℕ × Event) → Bool
is_legal_as_to ruled xs = is_none (fault_as_to ruled 1 0 no_history xs)

-- ---- events one after another

-- what was seen by all of these events
abbrev pub seen_by : History → List Event → History
seen_by s [] = s
seen_by s (e ∷ es) = seen_by (sees s e) es

-- each of them keeps its rule, where the test names it
abbrev pub AllKeep : (Event → Bool) → History → List Event → Type 0
AllKeep ruled s [] = Unit {0}
AllKeep ruled s (e ∷ es) = (keeps_as_to ruled s e ≡ true) × AllKeep ruled (sees s e) es

-- Events lead from what was seen to where P holds: each keeps its rule, where the test names it, and P holds of what is seen then.
pub record Leads (ruled : Event → Bool) (P : History → Type 0) (before : History) (events : List Event) : Type 0 where
  pub keep : AllKeep ruled before events
  pub fits : P (seen_by before events)

-- The one spelling of each event: the number of its line of the schedule, a space, the event, LF.
use Rattle.std.specs.Prelude.{ℕ, List, [], ◌∷◌, ◌++◌, map, codes}
use Rattle.std.specs.List.{flat_map}
use Rattle.dl_types.specs.declared.read_row.ReadRow.{ReadRow}
pub use Rattle.dl_text.specs.Ends.{space, colon, line_feed}
use Rattle.dl_text.specs.Numbers.{number}
use Rattle.dl_text.specs.Hex.{hex}
use Rattle.dl_text.specs.Fields.{bytes_field, place_field}
use Rattle.dl_text.specs.ListFields.{list_field}
use Rattle.dl_text.specs.Refusals.{refusal_field}
use Rattle.dl_schedule.specs.StepLines.{address_field}
use Rattle.dl_transcript.specs.declared.event.Event.{Event}
use Rattle.dl_transcript.specs.declared.event.Event.TheVariants.{Joined, Expired, Created, Removed, Released, Whole, Writer, Took, Sent, Grow, Ack, Committed}
use Rattle.dl_transcript.specs.declared.event.Event.TheVariants.{Closed, Recovered, Point, Truncated, Purged, OpenedAt, OpenedFrom, Reading, End, Rows}
use Rattle.dl_transcript.specs.declared.event.Event.TheVariants.{Refused, Mail, Nothing}
use Rattle.dl_transcript.specs.declared.verb.Verb.{Verb}
use Rattle.dl_transcript.specs.declared.verb.Verb.TheVariants as verb
use Rattle.dl_transcript.specs.Verbs.{verb_text}

-- inside a row
abbrev pub slash : ℕ
slash = 47

-- the first word of an event
abbrev pub verb_of : Event → Verb
verb_of (Joined c k) = verb.Joined
verb_of (Expired k) = verb.Expired
verb_of (Created c stream) = verb.Created
verb_of (Removed c stream) = verb.Removed
verb_of (Released c stream) = verb.Released
verb_of (Whole c stream) = verb.Whole
verb_of (Writer c stream k) = verb.Writer
verb_of (Took c n stream txid payload) = verb.Took
verb_of (Sent c k e) = verb.Sent
verb_of (Grow stream d txid c n payload) = verb.Grow
verb_of (Ack c n d) = verb.Ack
verb_of (Committed stream d) = verb.Committed
verb_of (Closed stream k) = verb.Closed
verb_of (Recovered c stream d) = verb.Recovered
verb_of (Point stream d) = verb.Point
verb_of (Truncated c stream d) = verb.Truncated
verb_of (Purged c stream count) = verb.Purged
verb_of (OpenedAt c stream d) = verb.Opened
verb_of (OpenedFrom c stream txid) = verb.Opened
verb_of (Reading c stream) = verb.Reading
verb_of (End c stream) = verb.End
verb_of (Rows c stream rows) = verb.Rows
verb_of (Refused c why) = verb.Refused
verb_of (Mail from to count) = verb.Mail
verb_of Nothing = verb.Nothing

-- the client, the number of its record and the payload, to the end of the line
abbrev pub print_origin : ℕ → ℕ → List ℕ → List ℕ
print_origin c n payload = number space c ++ (number space n ++ hex line_feed payload)

-- a client, a stream, and the byte that ends it
abbrev pub print_order : ℕ → List ℕ → ℕ → List ℕ
print_order c stream end = number space c ++ bytes_field end stream

-- a row as it is read, and the byte that ends it
abbrev pub row_field : ℕ → ReadRow → List ℕ
row_field end row = place_field slash row.place ++ (number slash row.txid ++ hex end row.payload)

-- an event behind its first word
abbrev pub print_fields : Event → List ℕ
print_fields (Joined c k) = number space c ++ number line_feed k
print_fields (Expired k) = number line_feed k
print_fields (Created c stream) = print_order c stream line_feed
print_fields (Removed c stream) = print_order c stream line_feed
print_fields (Released c stream) = print_order c stream line_feed
print_fields (Whole c stream) = print_order c stream line_feed
print_fields (Writer c stream k) = print_order c stream space ++ number line_feed k
print_fields (Took c n stream txid payload) = number space c ++ (number space n ++ (bytes_field space stream ++ (number space txid ++ hex line_feed payload)))
print_fields (Sent c k e) = number space c ++ (number colon k ++ number line_feed e)
print_fields (Grow stream d txid c n payload) = bytes_field space stream ++ (place_field space d ++ (number space txid ++ print_origin c n payload))
print_fields (Ack c n d) = number space c ++ (number space n ++ place_field line_feed d)
print_fields (Committed stream d) = bytes_field space stream ++ place_field line_feed d
print_fields (Closed stream k) = bytes_field space stream ++ number line_feed k
print_fields (Recovered c stream d) = print_order c stream space ++ place_field line_feed d
print_fields (Point stream d) = bytes_field space stream ++ place_field line_feed d
print_fields (Truncated c stream d) = print_order c stream space ++ place_field line_feed d
print_fields (Purged c stream count) = print_order c stream space ++ number line_feed count
print_fields (OpenedAt c stream d) = print_order c stream space ++ place_field line_feed d
print_fields (OpenedFrom c stream txid) = print_order c stream space ++ (codes "txid " ++ number line_feed txid)
print_fields (Reading c stream) = print_order c stream line_feed
print_fields (End c stream) = print_order c stream line_feed
print_fields (Rows c stream rows) = print_order c stream space ++ list_field row_field rows
print_fields (Refused c why) = number space c ++ refusal_field why
print_fields (Mail from to count) = address_field space from ++ (address_field space to ++ number line_feed count)
print_fields Nothing = []

-- an event at its line of the schedule
abbrev pub print_event : ℕ → Event → List ℕ
print_event line e = number space line ++ (verb_text (verb_of e) ++ print_fields e)

-- the events of one line
abbrev pub print_all : ℕ → List Event → List ℕ
print_all line events = flat_map (print_event line) events

-- the events of one line of the schedule, with its number
abbrev pub at_line : ℕ → List Event → List (ℕ × Event)
at_line line events = map (λ e. (line, e)) events

-- a whole transcript
abbrev pub print_transcript : List (ℕ × Event) → List ℕ
print_transcript xs = flat_map (λ (x : ℕ × Event). print_event x.0 x.1) xs

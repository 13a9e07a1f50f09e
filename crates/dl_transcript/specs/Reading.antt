-- Reading a line of a transcript from the left, or how many bytes are left at the first one at which no line goes on.
use Rattle.std.specs.Prelude.{ℕ, ◌-◌, List, [], ◌∷◌, Result, codes}
use Rattle.dl_types.specs.declared.dlsn.Dlsn.{Dlsn}
use Rattle.dl_types.specs.declared.read_row.ReadRow.{ReadRow}
use Rattle.dl_types.specs.declared.refusal.Refusal.{Refusal}
use Rattle.dl_types.specs.declared.refusal.Refusal.TheVariants as refusal
use Rattle.dl_text.specs.Choices.{or_at}
use Rattle.dl_text.specs.Columns.{column_of}
use Rattle.dl_text.specs.Hex.{hex_at}
use Rattle.dl_text.specs.ListFields.{list_at}
use Rattle.dl_text.specs.NameFields.{name_at}
use Rattle.dl_text.specs.Numbers.{number_at, most_u32, most_u64}
use Rattle.dl_text.specs.PlaceFields.{place_at}
use Rattle.dl_text.specs.Readers.{then_at, map_at, whole_at}
use Rattle.dl_text.specs.Refusals.{refusal_text}
use Rattle.dl_text.specs.Words.{words_from}
use Rattle.dl_text.specs.declared.refusal_word.RefusalWord.{RefusalWord}
use Rattle.dl_text.specs.declared.refusal_word.RefusalWord.TheVariants as why
use Rattle.dl_schedule.specs.declared.up_to.TheConstants.{MAX_ROWS}
use Rattle.dl_schedule.specs.StepReading.{nothing_at, client_at, bookie_at, txid_at, address_at, letters, other_letters}
use Rattle.dl_transcript.specs.declared.event.Event.{Event}
use Rattle.dl_transcript.specs.declared.event.Event.TheVariants.{Joined, Expired, Created, Removed, Released, Whole, Writer, Took, Sent, Grow, Ack, Committed}
use Rattle.dl_transcript.specs.declared.event.Event.TheVariants.{Closed, Recovered, Point, Truncated, Purged, OpenedAt, OpenedFrom, Reading, End, Rows}
use Rattle.dl_transcript.specs.declared.event.Event.TheVariants.{Refused, Mail, Nothing}
use Rattle.dl_transcript.specs.declared.verb.Verb.{Verb}
use Rattle.dl_transcript.specs.declared.verb.Verb.TheVariants as verb
use Rattle.dl_transcript.specs.Lines.{space, colon, slash, line_feed}
use Rattle.dl_transcript.specs.PathFields.{path_at}
use Rattle.dl_transcript.specs.Verbs.{verb_text}

-- a reader takes a field off the front of a text
abbrev pub FieldReader : Type 0 → Type 0
FieldReader A = List ℕ → Result (A × List ℕ) ℕ

-- a word, and a field behind it
abbrev pub behind_at : {A : Type 0} → List ℕ → FieldReader A → FieldReader A
behind_at word read = map_at (λ (first, a). a) (then_at (words_from (λ w. w) 0 (word ∷ [])) (λ first. read))

-- ---- fields

-- the number of a session
abbrev pub session_at : ℕ → FieldReader ℕ
session_at = number_at 1 most_u64

-- a number of 32 bits
abbrev pub u32_at : ℕ → FieldReader ℕ
u32_at = number_at 0 most_u32

-- a number of 64 bits
abbrev pub u64_at : ℕ → FieldReader ℕ
u64_at = number_at 0 most_u64

-- a place of any segment
abbrev pub any_place_at : ℕ → FieldReader Dlsn
any_place_at = place_at 0

-- a row as it is read
abbrev pub row_at : ℕ → FieldReader ReadRow
row_at end =
    map_at (λ (place, (txid, payload)). record { place = place; txid = txid; payload = payload })
    (then_at (any_place_at slash) (λ place. then_at (txid_at slash) (λ txid. hex_at end)))

-- ---- refusals

-- the words of the refusals that an event can tell
abbrev pub refusal_words : List RefusalWord
refusal_words = why.Expired ∷ why.Held ∷ why.Fenced ∷ why.Moved ∷ why.NoStream ∷ why.StreamExists ∷ why.TxidBack ∷ why.TooLong ∷ why.BeyondEnd ∷ why.NoWriter
    ∷ why.Truncated ∷ why.NotEmpty ∷ why.Busy ∷ why.WindowFull ∷ why.GaveUp ∷ []

-- a refusal behind its word
abbrev pub refusal_rest_at : RefusalWord → FieldReader Refusal
refusal_rest_at why.Expired = map_at refusal.Expired (session_at line_feed)
refusal_rest_at why.Held = map_at refusal.Held (u64_at line_feed)
refusal_rest_at why.Fenced = map_at refusal.Fenced (bookie_at line_feed)
refusal_rest_at why.Moved = map_at (λ (path, version). refusal.Moved path version) (then_at (path_at space) (λ path. u64_at line_feed))
refusal_rest_at why.NoStream = nothing_at refusal.NoStream
refusal_rest_at why.StreamExists = nothing_at refusal.StreamExists
refusal_rest_at why.TxidBack = map_at (λ (last, given). refusal.TxidBack last given) (then_at (txid_at space) (λ last. txid_at line_feed))
refusal_rest_at why.TooLong = map_at refusal.TooLong (u64_at line_feed)
refusal_rest_at why.BeyondEnd = map_at refusal.BeyondEnd (any_place_at line_feed)
refusal_rest_at why.NoWriter = nothing_at refusal.NoWriter
refusal_rest_at why.Truncated = map_at refusal.Truncated (any_place_at line_feed)
refusal_rest_at why.NotEmpty = map_at refusal.NotEmpty (u64_at line_feed)
refusal_rest_at why.Busy = map_at refusal.Busy (u32_at line_feed)
refusal_rest_at why.BadName = map_at refusal.BadName (u32_at line_feed)
refusal_rest_at why.WindowFull = nothing_at refusal.WindowFull
refusal_rest_at why.GaveUp = map_at refusal.GaveUp (path_at line_feed)

-- a refusal
abbrev pub refusal_at : FieldReader Refusal
refusal_at = map_at (λ (word, r). r) (then_at (words_from refusal_text 0 refusal_words) refusal_rest_at)

-- ---- events behind their first words

-- a client and a stream, and the byte that ends it
abbrev pub order_at : ℕ → FieldReader (ℕ × List ℕ)
order_at end = then_at (client_at space) (λ c. name_at end)

-- a client and a stream, to the end of the line
abbrev pub order_event : (ℕ → List ℕ → Event) → FieldReader Event
order_event make = map_at (λ (c, stream). make c stream) (order_at line_feed)

-- a client, a stream, and one field more
abbrev pub order_event_with : {A : Type 0} → (ℕ → List ℕ → A → Event) → FieldReader A → FieldReader Event
order_event_with make read = map_at (λ ((c, stream), a). make c stream a) (then_at (order_at space) (λ order. read))

-- a stream, and one field more
abbrev pub stream_event_with : {A : Type 0} → (List ℕ → A → Event) → FieldReader A → FieldReader Event
stream_event_with make read = map_at (λ (stream, a). make stream a) (then_at (name_at space) (λ stream. read))

-- a client's session
abbrev pub joined_at : FieldReader Event
joined_at = map_at (λ (c, k). Joined c k) (then_at (client_at space) (λ c. session_at line_feed))

-- a record that was taken
abbrev pub took_at : FieldReader Event
took_at =
    map_at (λ (c, (n, (stream, (txid, payload)))). Took c n stream txid payload)
    (then_at (client_at space) (λ c. then_at (u32_at space) (λ n.
    then_at (name_at space) (λ stream. then_at (txid_at space) (λ txid. hex_at line_feed)))))

-- an entry that was sent
abbrev pub sent_at : FieldReader Event
sent_at = map_at (λ (c, (k, e)). Sent c k e) (then_at (client_at space) (λ c. then_at (u64_at colon) (λ k. u64_at line_feed)))

-- the origin of a row, and its payload
abbrev pub origin_at : FieldReader (ℕ × (ℕ × List ℕ))
origin_at = then_at (client_at space) (λ c. then_at (u32_at space) (λ n. hex_at line_feed))

-- a row that grew
abbrev pub grow_at : FieldReader Event
grow_at =
    map_at (λ (stream, (d, (txid, (c, (n, payload))))). Grow stream d txid c n payload)
    (then_at (name_at space) (λ stream. then_at (any_place_at space) (λ d. then_at (txid_at space) (λ txid. origin_at))))

-- a record that is acknowledged
abbrev pub ack_at : FieldReader Event
ack_at = map_at (λ (c, (n, d)). Ack c n d) (then_at (client_at space) (λ c. then_at (u32_at space) (λ n. any_place_at line_feed)))

-- where a reader was opened: at a place, or from an id on
abbrev pub opened_at : FieldReader Event
opened_at = map_at (λ (order, e). e) (then_at (order_at space) (λ (c, stream).
    or_at (map_at (OpenedAt c stream) (any_place_at line_feed)) (behind_at (codes "txid ") (map_at (OpenedFrom c stream) (txid_at line_feed)))))

-- a refusal of a client's order
abbrev pub refused_at : FieldReader Event
refused_at = map_at (λ (c, r). Refused c r) (then_at (client_at space) (λ c. refusal_at))

-- how many messages a link has
abbrev pub mail_at : FieldReader Event
mail_at =
    map_at (λ (from, (to, count)). Mail from to count)
    (then_at (address_at space letters) (λ from. then_at (address_at space (other_letters from)) (λ to. number_at 1 most_u32 line_feed)))

-- an event behind its first word
abbrev pub fields_at : Verb → FieldReader Event
fields_at verb.Joined = joined_at
fields_at verb.Expired = map_at Expired (session_at line_feed)
fields_at verb.Created = order_event Created
fields_at verb.Removed = order_event Removed
fields_at verb.Released = order_event Released
fields_at verb.Whole = order_event Whole
fields_at verb.Writer = order_event_with Writer (u64_at line_feed)
fields_at verb.Took = took_at
fields_at verb.Sent = sent_at
fields_at verb.Grow = grow_at
fields_at verb.Ack = ack_at
fields_at verb.Committed = stream_event_with Committed (any_place_at line_feed)
fields_at verb.Closed = stream_event_with Closed (u64_at line_feed)
fields_at verb.Recovered = order_event_with Recovered (any_place_at line_feed)
fields_at verb.Point = stream_event_with Point (any_place_at line_feed)
fields_at verb.Truncated = order_event_with Truncated (any_place_at line_feed)
fields_at verb.Purged = order_event_with Purged (u64_at line_feed)
fields_at verb.Opened = opened_at
fields_at verb.Reading = order_event Reading
fields_at verb.End = order_event End
fields_at verb.Rows = order_event_with Rows (list_at row_at (MAX_ROWS - 1))
fields_at verb.Refused = refused_at
fields_at verb.Mail = mail_at
fields_at verb.Nothing = nothing_at Nothing

-- ---- lines

-- the first words of events
abbrev pub verbs : List Verb
verbs = verb.Joined ∷ verb.Expired ∷ verb.Created ∷ verb.Removed ∷ verb.Released ∷ verb.Whole ∷ verb.Writer ∷ verb.Took ∷ verb.Sent ∷ verb.Grow ∷ verb.Ack
    ∷ verb.Committed ∷ verb.Closed ∷ verb.Recovered ∷ verb.Point ∷ verb.Truncated ∷ verb.Purged ∷ verb.Opened ∷ verb.Reading ∷ verb.End ∷ verb.Rows
    ∷ verb.Refused ∷ verb.Mail ∷ verb.Nothing ∷ []

-- an event
abbrev pub event_at : FieldReader Event
event_at = map_at (λ (first, e). e) (then_at (words_from verb_text 0 verbs) fields_at)

-- the number of a line of the schedule, and an event
unfoldable pub line_at : FieldReader (ℕ × Event)
line_at = then_at (u32_at space) (λ line. event_at)

-- the event that a whole line says, with the number of its line, or the column at which no line goes on
abbrev pub parsed_event : List ℕ → Result (ℕ × Event) ℕ
parsed_event text = column_of text (whole_at line_at text)

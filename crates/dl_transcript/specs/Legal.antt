-- When a transcript is legal: each stream is one list that grows, readers get its next rows without a gap, and each
-- event keeps its rule. What was shown is folded into what the rules of later events ask for; an event without a rule
-- leaves it. Each event has its own equation, so that a further event comes with its rule.
use Rattle.std.specs.Prelude.{ℕ, ◌+◌, ◌-◌, Bool, true, false, if◌then◌else◌, not, ◌&&◌, ◌||◌, ◌==◌, nat_le, List, [], ◌∷◌, length, map, filter, drop}
use Rattle.std.specs.Prelude.{Option, Some, None, is_some, is_none, slice_get, bytes_eq}
use Rattle.std.specs.List.{list_any, list_all}
use Rattle.dl_types.specs.declared.dlsn.Dlsn.{Dlsn}
use Rattle.dl_types.specs.declared.read_row.ReadRow.{ReadRow}
use Rattle.dl_types.specs.declared.refusal.Refusal.{Refusal}
use Rattle.dl_types.specs.declared.refusal.Refusal.TheVariants as refusal
use Rattle.dl_types.specs.declared.row.Row.{Row}
use Rattle.dl_types.specs.Places.{place, is_before, is_same, is_at_most, greater, first_place, after_place}
use Rattle.dl_transcript.specs.declared.event.Event.{Event}
use Rattle.dl_transcript.specs.declared.event.Event.TheVariants.{Joined, Expired, Created, Removed, Released, Whole, Writer, Took, Sent, Grow, Ack}
use Rattle.dl_transcript.specs.declared.event.Event.TheVariants.{Committed, Closed, Recovered, Point, Truncated, Purged, OpenedAt, OpenedFrom, Reading, End}
use Rattle.dl_transcript.specs.declared.event.Event.TheVariants.{Rows, Refused, Mail, Nothing}
pub use Rattle.dl_transcript.specs.Histories.{TakenRecord, StreamHistory, Cursor, At, AtOneOf, ReaderHistory, ClientHistory, History, new_stream}
pub use Rattle.dl_transcript.specs.Histories.{new_client, no_history, put_stream, put_client}
use Rattle.dl_transcript.specs.Histories.{put_reader, change_reader, without_read, with_row, with_point, with_writer, with_end, with_taken, with_ack}

-- the number is in the list
abbrev pub has : ℕ → List ℕ → Bool
has x xs = list_any (λ y. y == x) xs

-- the last of a list, or this one
abbrev pub last_or : {A : Type 0} → A → List A → A
last_or d [] = d
last_or d (x ∷ xs) = last_or x xs

-- there is a value, and the test holds for it
abbrev pub is_some_and : {A : Type 0} → (A → Bool) → Option A → Bool
is_some_and test None = false
is_some_and test (Some x) = test x

-- ---- records and rows

-- the record is this one
abbrev pub is_taken : Option TakenRecord → List ℕ → ℕ → List ℕ → Bool
is_taken None stream txid payload = false
is_taken (Some t) stream txid payload = bytes_eq t.stream stream && t.txid == txid && bytes_eq t.payload payload

-- record n of client c, counted from 1
abbrev pub taken_at : History → ℕ → ℕ → Option TakenRecord
taken_at s c n = if n == 0 then None else slice_get (s.clients c).taken (n - 1)

-- the row has this origin
abbrev pub is_from : ℕ → ℕ → Row → Bool
is_from c n r = r.origin.client == c && r.origin.call == n

-- a row of this origin stands at the place, in the stream for which its record was taken
abbrev pub stands_at : History → Option TakenRecord → ℕ → ℕ → Dlsn → Bool
stands_at s None c n d = false
stands_at s (Some t) c n d = list_any (λ r. is_from c n r && is_same r.place d) (s.streams t.stream).rows

-- ---- segments and points

-- each row of the place's segment stands below the place
abbrev pub are_below : Dlsn → List Row → Bool
are_below d rows = list_all (λ r. not (r.place.segment == d.segment) || is_before r.place d) rows

-- each recovery of the place's segment ended at this very place
abbrev pub are_ends : Dlsn → List Dlsn → Bool
are_ends d ends = list_all (λ e. not (e.segment == d.segment) || is_same e d) ends

-- the stream's point
abbrev pub point_of : StreamHistory → Dlsn
point_of x = last_or first_place x.points

-- ---- readers

-- the places at one of which a reader stands
abbrev pub places_of : Cursor → List Dlsn
places_of (At d) = d ∷ []
places_of (AtOneOf points) = points

-- the last place at which a reader may stand
abbrev pub last_place_of : Cursor → Dlsn
last_place_of cursor = last_or first_place (places_of cursor)

-- a reader with this cursor may stand below the place
abbrev pub may_be_below : Cursor → Dlsn → Bool
may_be_below (At at) d = is_before at d
may_be_below (AtOneOf points) d = true

-- no read of the reader is under way, and it is on the stream
abbrev pub may_read : List ℕ → ReaderHistory → Bool
may_read stream r = bytes_eq r.stream stream && is_none r.read

-- a read of the reader, on the stream, is under way
abbrev pub is_reading : List ℕ → ReaderHistory → Bool
is_reading stream r = bytes_eq r.stream stream && is_some r.read

-- the rows that a reader at this place is due: those at or above it whose ids aren't below the floor
abbrev pub rows_due : Dlsn → ℕ → List Row → List Row
rows_due at floor rows = filter (λ r. is_at_most at r.place && nat_le floor r.txid) rows

-- what was read is this row
abbrev pub is_read_as : ReadRow → Row → Bool
is_read_as x r = is_same x.place r.place && x.txid == r.txid && bytes_eq x.payload r.payload

-- what was read is the first of these rows, in their order
abbrev pub are_first : List ReadRow → List Row → Bool
are_first [] rows = true
are_first (x ∷ read) [] = false
are_first (x ∷ read) (r ∷ rows) = is_read_as x r && are_first read rows

-- what was read is the first of the rows that the reader is due at one of its places
abbrev pub are_next : List ReadRow → ReaderHistory → List Row → Bool
are_next read r rows = list_any (λ at. are_first read (rows_due at r.floor rows)) (places_of r.cursor)

-- none of the rows that the reader is due for certain stands below the mark of its read
abbrev pub finds_none : ReaderHistory → List Row → Bool
finds_none r rows = is_some_and (λ mark. list_all (λ x. not (is_before x.place mark)) (rows_due (last_place_of r.cursor) r.floor rows)) r.read

-- the slot behind the last of the rows that were read
abbrev pub place_behind : List ReadRow → Dlsn
place_behind read = after_place (last_or first_place (map (λ x. x.place) read))

-- ---- refusals

-- what a refusal does to the read of its client that is under way: it leaves it, or ends it, or ends it since the
-- stream's point has passed the reader and is this now
pub data EffectOnRead : Type 0 where
  Leaves : EffectOnRead
  Ends : EffectOnRead
  Passes : (point : Dlsn) → EffectOnRead

-- what each refusal does: those of a record and of a writer leave the read, as does that of an order beside it
abbrev pub effect_on_read : Refusal → EffectOnRead
effect_on_read (refusal.Expired session) = Ends
effect_on_read (refusal.Held member) = Ends
effect_on_read (refusal.Fenced bookie) = Leaves
effect_on_read (refusal.Moved path version) = Ends
effect_on_read refusal.NoStream = Ends
effect_on_read refusal.StreamExists = Ends
effect_on_read (refusal.TxidBack last given) = Leaves
effect_on_read (refusal.TooLong length) = Leaves
effect_on_read (refusal.BeyondEnd end) = Ends
effect_on_read refusal.NoWriter = Leaves
effect_on_read (refusal.Truncated point) = Passes point
effect_on_read (refusal.NotEmpty count) = Ends
effect_on_read (refusal.Busy line) = Leaves
effect_on_read (refusal.BadName at) = Ends
effect_on_read refusal.WindowFull = Leaves
effect_on_read (refusal.GaveUp path) = Ends

-- the place is one of the points of the reader's stream, and not below where the reader stands
abbrev pub is_passed : History → Dlsn → ReaderHistory → Bool
is_passed s d r = list_any (is_same d) (s.streams r.stream).points && may_be_below r.cursor d

-- where a read is under way, a point that passes its reader is one of the stream's
abbrev pub may_refuse : History → Option ReaderHistory → EffectOnRead → Bool
may_refuse s reader Leaves = true
may_refuse s reader Ends = true
may_refuse s None (Passes d) = true
may_refuse s (Some r) (Passes d) = is_none r.read || is_passed s d r

-- what was seen, with the refusal's effect on the read of this client
abbrev pub after_refusal : History → ℕ → EffectOnRead → History
after_refusal s c Leaves = s
after_refusal s c Ends = change_reader s c without_read
after_refusal s c (Passes d) = change_reader s c without_read

-- ---- the rules

-- whether the event keeps its rule:
-- a session is one more than the last, and expires once; a record's number is one more than the client's records; a
-- segment has one writer, and none beyond the first that isn't closed; a row grows in the segment under way, above all
-- rows, not below the mark, its id not below the last one, as the record that was taken, and once; an acknowledgement
-- names the place where its record stands, and comes once; what is committed is a whole number of entries, none beyond
-- the segment under way; segments are closed in order; a recovery ends in a closed segment, behind its rows, where
-- every other recovery of that segment does; the point moves up, at most to the segment under way; a truncation names a
-- point that was moved to; a client has one read under way, on its reader's stream; it finds the next rows from where
-- the reader stands; it finds none only where none of them is below the mark with which it began; and a reader that is
-- refused since the point has passed it stands below that point
unfoldable pub keeps : History → Event → Bool
keeps s (Joined c k) = k == s.sessions + 1
keeps s (Expired k) = nat_le 1 k && nat_le k s.sessions && not (has k s.expired)
keeps s (Created c stream) = true
keeps s (Removed c stream) = true
keeps s (Released c stream) = true
keeps s (Whole c stream) = true
keeps s (Writer c stream k) = nat_le 1 k && nat_le k ((s.streams stream).closed + 1) && not (has k (s.streams stream).writers)
keeps s (Took c n stream txid payload) = n == length (s.clients c).taken + 1
keeps s (Sent c k e) = true
keeps s (Grow stream d txid c n payload) =
    let x = s.streams stream in
    d.segment == x.closed + 1 && list_all (λ r. is_before r.place d) x.rows && is_at_most x.mark d
    && nat_le (last_or 0 (map (λ r. r.txid) x.rows)) txid
    && is_taken (taken_at s c n) stream txid payload
    && not (list_any (is_from c n) x.rows)
keeps s (Ack c n d) = stands_at s (taken_at s c n) c n d && not (has n (s.clients c).acked)
keeps s (Committed stream d) = nat_le d.segment ((s.streams stream).closed + 1) && d.slot == 0
keeps s (Closed stream k) = k == (s.streams stream).closed + 1
keeps s (Recovered c stream d) =
    let x = s.streams stream in
    nat_le 1 d.segment && nat_le d.segment x.closed && d.slot == 0 && are_below d x.rows && are_ends d x.ends
keeps s (Point stream d) = is_before (point_of (s.streams stream)) d && is_at_most d (place ((s.streams stream).closed + 1) 0 0)
keeps s (Truncated c stream d) = list_any (is_same d) (drop 1 (s.streams stream).points)
keeps s (Purged c stream count) = true
keeps s (OpenedAt c stream d) = true
keeps s (OpenedFrom c stream txid) = true
keeps s (Reading c stream) = is_some_and (may_read stream) (s.clients c).reader
keeps s (End c stream) = is_some_and (λ r. is_reading stream r && finds_none r (s.streams stream).rows) (s.clients c).reader
keeps s (Rows c stream rows) = nat_le 1 (length rows) && is_some_and (λ r. is_reading stream r && are_next rows r (s.streams stream).rows) (s.clients c).reader
keeps s (Refused c why) = may_refuse s (s.clients c).reader (effect_on_read why)
keeps s (Mail from to count) = true
keeps s Nothing = true

-- what was seen, with the event
unfoldable pub sees : History → Event → History
sees s (Joined c k) = record (put_reader s c None) { sessions = k }
sees s (Expired k) = record s { expired = k ∷ s.expired }
sees s (Created c stream) = s
sees s (Removed c stream) = s
sees s (Released c stream) = s
sees s (Whole c stream) = s
sees s (Writer c stream k) = put_stream s stream (with_writer (s.streams stream) k)
sees s (Took c n stream txid payload) = put_client s c (with_taken (s.clients c) (record { stream = stream; txid = txid; payload = payload }))
sees s (Sent c k e) = s
sees s (Grow stream d txid c n payload) =
    put_stream s stream (with_row (s.streams stream) (record { place = d; txid = txid; payload = payload; origin = record { client = c; call = n } }))
sees s (Ack c n d) = put_client s c (with_ack (s.clients c) n)
sees s (Committed stream d) = put_stream s stream (record (s.streams stream) { mark = greater (s.streams stream).mark d })
sees s (Closed stream k) = put_stream s stream (record (s.streams stream) { closed = k })
sees s (Recovered c stream d) = put_stream s stream (with_end (s.streams stream) d)
sees s (Point stream d) = put_stream s stream (with_point (s.streams stream) d)
sees s (Truncated c stream d) = s
sees s (Purged c stream count) = s
sees s (OpenedAt c stream d) = put_reader s c (Some (record { stream = stream; cursor = At d; floor = 0; read = None }))
sees s (OpenedFrom c stream txid) = put_reader s c (Some (record { stream = stream; cursor = AtOneOf (s.streams stream).points; floor = txid; read = None }))
sees s (Reading c stream) = change_reader s c (λ r. record r { read = Some (s.streams stream).mark })
sees s (End c stream) = change_reader s c without_read
sees s (Rows c stream rows) = change_reader s c (λ r. record r { cursor = At (place_behind rows); read = None })
sees s (Refused c why) = after_refusal s c (effect_on_read why)
sees s (Mail from to count) = s
sees s Nothing = s

-- ---- whole transcripts

-- the place of the first event that breaks its rule, or whose line falls, where the next event stands at this place and
-- the last one's line is this; None where there is no such event
unfoldable pub first_fault : ℕ → ℕ → History → List (ℕ × Event) → Option ℕ
first_fault place line s [] = None
first_fault place line s (x ∷ xs) = if nat_le line x.0 && keeps s x.1 then first_fault (place + 1) x.0 (sees s x.1) xs else Some place

-- the place, counted from 1, of a transcript's first fault
abbrev pub fault_of : List (ℕ × Event) → Option ℕ
fault_of xs = first_fault 1 0 no_history xs

-- the numbers of its lines never fall, and each event keeps its rule
abbrev pub is_legal : List (ℕ × Event) → Bool
is_legal xs = is_none (fault_of xs)

-- what was seen by all of a transcript
unfoldable pub history_after : History → List (ℕ × Event) → History
history_after s [] = s
history_after s (x ∷ xs) = history_after (sees s x.1) xs

-- the line of its last event
unfoldable pub last_line : ℕ → List (ℕ × Event) → ℕ
last_line n [] = n
last_line n (x ∷ xs) = last_line x.0 xs

-- The ranges of a transcript's words: which events a line can say.
use Rattle.std.specs.Prelude.{ℕ, ◌-◌, List}
use Rattle.dl_types.specs.declared.read_row.ReadRow.{ReadRow}
use Rattle.dl_types.specs.declared.refusal.Refusal.{Refusal}
use Rattle.dl_types.specs.declared.refusal.Refusal.TheVariants as refusal
use Rattle.dl_fields.specs.Paths.{IsPathField}
use Rattle.dl_text.specs.Hex.{AllBytes}
use Rattle.dl_text.specs.ListFields.{AreUpTo}
use Rattle.dl_text.specs.NameFields.{IsName}
use Rattle.dl_text.specs.Numbers.{IsWithin, most_u32, most_u64}
use Rattle.dl_text.specs.PlaceFields.{IsPlaceFrom}
use Rattle.dl_schedule.specs.declared.up_to.TheConstants.{MAX_ROWS}
use Rattle.dl_schedule.specs.StepLines.{IsClient, IsBookie, IsTxid, IsLink}
use Rattle.dl_transcript.specs.declared.event.Event.{Event}
use Rattle.dl_transcript.specs.declared.event.Event.TheVariants.{Joined, Expired, Created, Removed, Released, Whole, Writer, Took, Sent, Grow, Ack, Committed}
use Rattle.dl_transcript.specs.declared.event.Event.TheVariants.{Closed, Recovered, Point, Truncated, Purged, OpenedAt, OpenedFrom, Reading, End, Rows}
use Rattle.dl_transcript.specs.declared.event.Event.TheVariants.{Refused, Mail, Nothing}

-- the number of a session
abbrev pub IsSession : ℕ → Type 0
IsSession k = IsWithin 1 most_u64 k

-- the number of a line or of a record
abbrev pub IsU32 : ℕ → Type 0
IsU32 n = IsWithin 0 most_u32 n

-- the number of a segment, of an entry, of a lock's member, of a version, or a count
abbrev pub IsU64 : ℕ → Type 0
IsU64 n = IsWithin 0 most_u64 n

-- the refusals that an event can tell: that a name is bad is told before there is an order
abbrev pub IsRefusal : Refusal → Type 0
IsRefusal (refusal.Expired session) = IsSession session
IsRefusal (refusal.Held member) = IsU64 member
IsRefusal (refusal.Fenced bookie) = IsBookie bookie
IsRefusal (refusal.Moved path version) = IsPathField path × IsU64 version
IsRefusal refusal.NoStream = Unit {0}
IsRefusal refusal.StreamExists = Unit {0}
IsRefusal (refusal.TxidBack last given) = IsTxid last × IsTxid given
IsRefusal (refusal.TooLong length) = IsU64 length
IsRefusal (refusal.BeyondEnd end) = IsPlaceFrom 0 end
IsRefusal refusal.NoWriter = Unit {0}
IsRefusal (refusal.Truncated point) = IsPlaceFrom 0 point
IsRefusal (refusal.NotEmpty count) = IsU64 count
IsRefusal (refusal.Busy line) = IsU32 line
IsRefusal (refusal.BadName at) = ⊥
IsRefusal refusal.WindowFull = Unit {0}
IsRefusal (refusal.GaveUp path) = IsPathField path

-- a row as it is read
abbrev pub IsReadRow : ReadRow → Type 0
IsReadRow row = IsPlaceFrom 0 row.place × (IsTxid row.txid × AllBytes row.payload)

-- the events that a line can say
abbrev pub IsEvent : Event → Type 0
IsEvent (Joined c k) = IsClient c × IsSession k
IsEvent (Expired k) = IsSession k
IsEvent (Created c stream) = IsClient c × IsName stream
IsEvent (Removed c stream) = IsClient c × IsName stream
IsEvent (Released c stream) = IsClient c × IsName stream
IsEvent (Whole c stream) = IsClient c × IsName stream
IsEvent (Writer c stream k) = IsClient c × (IsName stream × IsU64 k)
IsEvent (Took c n stream txid payload) = IsClient c × (IsU32 n × (IsName stream × (IsTxid txid × AllBytes payload)))
IsEvent (Sent c k e) = IsClient c × (IsU64 k × IsU64 e)
IsEvent (Grow stream d txid c n payload) = IsName stream × (IsPlaceFrom 0 d × (IsTxid txid × (IsClient c × (IsU32 n × AllBytes payload))))
IsEvent (Ack c n d) = IsClient c × (IsU32 n × IsPlaceFrom 0 d)
IsEvent (Committed stream d) = IsName stream × IsPlaceFrom 0 d
IsEvent (Closed stream k) = IsName stream × IsU64 k
IsEvent (Recovered c stream d) = IsClient c × (IsName stream × IsPlaceFrom 0 d)
IsEvent (Point stream d) = IsName stream × IsPlaceFrom 0 d
IsEvent (Truncated c stream d) = IsClient c × (IsName stream × IsPlaceFrom 0 d)
IsEvent (Purged c stream count) = IsClient c × (IsName stream × IsU64 count)
IsEvent (OpenedAt c stream d) = IsClient c × (IsName stream × IsPlaceFrom 0 d)
IsEvent (OpenedFrom c stream txid) = IsClient c × (IsName stream × IsTxid txid)
IsEvent (Reading c stream) = IsClient c × IsName stream
IsEvent (End c stream) = IsClient c × IsName stream
IsEvent (Rows c stream rows) = IsClient c × (IsName stream × AreUpTo IsReadRow (MAX_ROWS - 1) rows)
IsEvent (Refused c why) = IsClient c × IsRefusal why
IsEvent (Mail from to count) = IsLink from to × IsWithin 1 most_u32 count
IsEvent Nothing = Unit {0}

-- the line of an event: the number of a line of the schedule, and the event
abbrev pub IsLine : ℕ × Event → Type 0
IsLine x = IsU32 x.0 × IsEvent x.1

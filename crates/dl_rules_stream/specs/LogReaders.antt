-- The reader of a stream by the calls that it was given (DistributedLog documentation, "Log reader"): a read goes over the listed
-- segments from its cursor on, and gathers the rows of the entries that can be read.
use Rattle.std.specs.Prelude.{ℕ, ◌+◌, Bool, false, ◌&&◌, ◌==◌, nat_le, nat_lt, if◌then◌else◌, List, [], ◌∷◌, ◌++◌, length, map, filter, take, Option}
use Rattle.std.specs.Prelude.{Some, None, Result, Ok, Err}
use Rattle.dl_types.specs.declared.dlsn.Dlsn.{Dlsn}
use Rattle.dl_types.specs.declared.read_row.ReadRow.{ReadRow}
use Rattle.dl_types.specs.declared.start.Start.{Start}
use Rattle.dl_types.specs.declared.refusal.Refusal.TheVariants as refused
use Rattle.dl_types.specs.declared.why.Why.TheVariants.{NoNode}
use Rattle.dl_types.specs.declared.one_answer.OneAnswer.TheVariants.{Names, Bytes}
use Rattle.dl_types.specs.declared.meta_answer.MetaAnswer.{MetaAnswer}
use Rattle.dl_types.specs.declared.meta_answer.MetaAnswer.TheVariants as answer
use Rattle.dl_types.specs.Places.{place, is_at_most, after_place}
use Rattle.dl_record.specs.declared.stored.Stored.{Stored}
use Rattle.dl_record.specs.declared.entry_flaw.EntryFlaw.{EntryFlaw}
use Rattle.dl_record.specs.UserRows.{RowOf}
use Rattle.dl_record.specs.Rows.{user_rows}
use Rattle.dl_record.specs.Reading.{entry_at}
use Rattle.dl_msg.specs.declared.heard.Heard.{Heard}
use Rattle.dl_msg.specs.declared.heard.Heard.TheVariants.{Reply, From}
use Rattle.dl_msg.specs.declared.msg.Msg.{Msg}
use Rattle.dl_formats.specs.declared.conf.Conf.{Conf}
use Rattle.dl_formats.specs.declared.ledger.LedgerState.{LedgerState}
use Rattle.dl_formats.specs.declared.ledger.LedgerState.TheVariants.{Writing, Recovering, Closed}
use Rattle.dl_formats.specs.declared.segment.SegmentMeta.{SegmentMeta}
use Rattle.dl_formats.specs.declared.segment.SegmentMeta.TheVariants as meta
use Rattle.dl_formats.specs.declared.segment_name.SegmentName.{SegmentName}
use Rattle.dl_formats.specs.Keys.{Ledger, path_of}
use Rattle.dl_rules_ledger.specs.Subjects.{Subject}
use Rattle.dl_rules_ledger.specs.Readers.{ReaderStage, Counting, Counted, Fetching, Fetched, asks_count, asks_entry, hears}
use Rattle.dl_rules_stream.specs.Nodes.{LedgerNode}
use Rattle.dl_rules_stream.specs.Requests.{ListCut, GetSegment, GetLedger}
use Rattle.dl_rules_stream.specs.Orders.{Next, Wait, Ask, Done, Refused, no_way_on, tells, or_refused}
use Rattle.dl_rules_stream.specs.Listings.{segments_of, number_of, point_of, segment_of, ledger_of, ledger_node_of, pieces_of}
use Rattle.dl_rules_stream.specs.Seeks.{Position, position_at}

-- The stream, and the configuration.
pub record ReaderArgs : Type 0 where
  pub stream : List ℕ
  pub conf : Conf

-- A read under way: the tag of its messages, how many rows it may give, where it began, the rows gathered so far, and the ledger
-- whose node was gone as it began again the time before.
pub record Read : Type 0 where
  pub tag : ℕ
  pub count : ℕ
  pub from : Position
  pub rows : List ReadRow
  pub gone : Option ℕ

-- A segment that is walked: its number, what messages about its ledger are about, and the segments behind it; behind one that
-- isn't closed none is walked.
pub record Walk : Type 0 where
  pub segment : ℕ
  pub subject : Subject
  pub rest : List SegmentName

-- no read is under way, or what one waits for: the list of segments, a segment's node, its ledger's node, the count of entries
-- that can be read, or an entry below that count
pub data ReadStage : Type 0 where
  NoRead : ReadStage
  ListingCut : (r : Read) → ReadStage
  GettingSegment : (r : Read) (segment : SegmentName) (rest : List SegmentName) → ReadStage
  GettingLedger : (r : Read) (segment : SegmentMeta) (number : ℕ) (rest : List SegmentName) → ReadStage
  CountingEntries : (r : Read) (w : Walk) (stage : ReaderStage) → ReadStage
  FetchingEntry : (r : Read) (w : Walk) (readable entry : ℕ) (stage : ReaderStage) → ReadStage

-- what a read does
abbrev pub ReadMove : Type 0
ReadMove = ReadStage × Next (List ReadRow)

-- ---- its beginning and its end

-- a read begins, or begins again: what was gathered is dropped
abbrev pub begins : ReaderArgs → Read → Option ℕ → ReadMove
begins x r gone = (ListingCut (record r { rows = []; gone = gone }), Ask (ListCut x.stream))

-- a read ends with what was gathered
abbrev pub ends : Read → ReadMove
ends r = (NoRead, Done r.rows)

-- the next segment is walked, where one is left
abbrev pub walks : ReaderArgs → Read → List SegmentName → ReadMove
walks x r [] = ends r
walks x r (segment ∷ rest) = (GettingSegment r segment rest, Ask (GetSegment x.stream segment))

-- ---- the list

-- the least segment that is listed, or that of the point where none is
abbrev pub least_segment : Dlsn → List SegmentName → ℕ
least_segment point [] = point.segment
least_segment point (segment ∷ rest) = number_of segment

-- the segments from the cursor's on, unless a purge has overtaken the cursor
abbrev pub after_list : ReaderArgs → Read → List SegmentName → Dlsn → ReadMove
after_list x r segments point =
    if nat_lt r.from.cursor.segment (least_segment point segments) then (NoRead, Refused (refused.Truncated point))
    else walks x r (filter (λ segment. nat_le r.from.cursor.segment (number_of segment)) segments)

-- ---- entries

-- the user rows of an entry at their places
abbrev pub rows_in : (segment entry : ℕ) → Result (List Stored) EntryFlaw → List ReadRow
rows_in segment entry (Ok parts) = map (λ (u : RowOf). record { place = place segment entry u.slot; txid = u.txid; payload = u.payload }) (user_rows parts)
rows_in segment entry (Err flaw) = []

-- whether a row stands at or above the cursor, with an id not below the floor
abbrev pub is_wanted : Position → ReadRow → Bool
is_wanted p row = is_at_most p.cursor row.place && nat_le p.floor row.txid

-- a read with the wanted rows of an entry more, up to its count
abbrev pub gathers : Read → List ReadRow → Read
gathers r rows = record r { rows = take r.count (r.rows ++ filter (is_wanted r.from) rows) }

-- the first entry of a segment that may hold a wanted row
abbrev pub first_entry : Read → ℕ → ℕ
first_entry r segment = if segment == r.from.cursor.segment then r.from.cursor.entry else 0

-- an entry is fetched, where it can be read; else the segment is done
abbrev pub fetches : ReaderArgs → Read → Walk → (readable entry : ℕ) → ReadMove
fetches x r w readable entry =
    if nat_lt entry readable then (FetchingEntry r w readable entry (Fetching entry), tells (asks_entry w.subject entry)) else walks x r w.rest

-- a segment is walked up to this count of entries
abbrev pub reads_upto : ReaderArgs → Read → Walk → ℕ → ReadMove
reads_upto x r w readable = fetches x r w readable (first_entry r w.segment)

-- a read that has as many rows as it may give ends
abbrev pub after_rows : ReaderArgs → Walk → (readable entry : ℕ) → Read → ReadMove
after_rows x w readable entry r = if nat_le r.count (length r.rows) then ends r else fetches x r w readable (entry + 1)

-- the entry that was asked for, where it has come
abbrev pub after_told : ReaderArgs → Read → Walk → (readable entry : ℕ) → ReaderStage → ReadMove
after_told x r w readable entry (Fetched bytes) = after_rows x w readable entry (gathers r (rows_in w.segment entry (entry_at bytes)))
after_told x r w readable entry stage = (FetchingEntry r w readable entry stage, Wait)

-- the count of entries that can be read, where it is there
abbrev pub after_counted : ReaderArgs → Read → Walk → ReaderStage → ReadMove
after_counted x r w (Counted n) = reads_upto x r w n
after_counted x r w stage = (CountingEntries r w stage, Wait)

-- ---- ledgers

-- a segment's ledger as it is walked
abbrev pub walk_of : ReaderArgs → Read → (segment ledger : ℕ) → LedgerNode → List SegmentName → Walk
walk_of x r segment ledger m rest =
    record { segment = segment; subject = record { tag = r.tag; ledger = ledger; pieces = pieces_of x.conf ledger m }; rest = rest }

-- a segment that isn't closed is the last one walked; how many of its entries can be read is asked
abbrev pub counts : Read → Walk → ReadMove
counts r w = (CountingEntries r (record w { rest = [] }) (Counting []), tells (asks_count w.subject))

-- a segment in progress, by the state of its ledger
abbrev pub in_progress : ReaderArgs → Read → Walk → LedgerNode → LedgerState → ReadMove
in_progress x r w m Closed = reads_upto x r w m.count
in_progress x r w m Writing = counts r w
in_progress x r w m Recovering = counts r w

-- a segment by its node and that of its ledger; of a completed one all entries can be read
abbrev pub after_ledger : ReaderArgs → Read → SegmentMeta → List SegmentName → LedgerNode → ReadMove
after_ledger x r (meta.Completed segment ledger entries rows last) rest m = reads_upto x r (walk_of x r segment ledger m rest) entries
after_ledger x r (meta.InProgress segment ledger) rest m = in_progress x r (walk_of x r segment ledger m rest) m m.state

-- a segment by its node
abbrev pub after_segment : ReaderArgs → Read → ℕ → List SegmentName → SegmentMeta → ReadMove
after_segment x r number rest m = (GettingLedger r m number rest, Ask (GetLedger (ledger_of m)))

-- whether the node of this ledger was gone the time before
abbrev pub is_gone_again : Option ℕ → ℕ → Bool
is_gone_again None ledger = false
is_gone_again (Some before) ledger = before == ledger

-- a ledger's node is gone: the read begins again, but not twice in a row for one ledger
abbrev pub after_gone : ReaderArgs → Read → ℕ → ReadMove
after_gone x r ledger =
    if is_gone_again r.gone ledger then (NoRead, Refused (refused.GaveUp (path_of (Ledger ledger)))) else begins x r (Some ledger)

-- ---- a read

-- what it does at an answer
unfoldable pub read_answers : ReaderArgs → ReadStage → MetaAnswer → ReadMove
read_answers x (ListingCut r) (answer.Many (Names names ∷ Bytes cut version ∷ [])) =
    or_refused NoRead (after_list x r (segments_of names)) (point_of x.stream cut)
read_answers x (ListingCut r) (answer.Failed at NoNode) = (NoRead, Refused refused.NoStream)
read_answers x (ListingCut r) (answer.Failed at w) = (NoRead, Refused (no_way_on (ListCut x.stream) at w))
read_answers x (GettingSegment r segment rest) (answer.One (Bytes bytes version)) =
    or_refused NoRead (after_segment x r (number_of segment) rest) (segment_of x.stream segment bytes)
read_answers x (GettingSegment r segment rest) (answer.Failed at NoNode) = begins x r None
read_answers x (GettingSegment r segment rest) (answer.Failed at w) = (NoRead, Refused (no_way_on (GetSegment x.stream segment) at w))
read_answers x (GettingLedger r m number rest) (answer.One (Bytes bytes version)) =
    or_refused NoRead (after_ledger x r m rest) (ledger_node_of x.conf (ledger_of m) bytes)
read_answers x (GettingLedger r m number rest) (answer.Failed at NoNode) = after_gone x r (ledger_of m)
read_answers x (GettingLedger r m number rest) (answer.Failed at w) = (NoRead, Refused (no_way_on (GetLedger (ledger_of m)) at w))
read_answers x stage a = (stage, Wait)

-- what it does at a message of a bookie
abbrev pub read_told : ReaderArgs → ReadStage → ℕ → Msg → ReadMove
read_told x (CountingEntries r w stage) b m = after_counted x r w (hears w.subject stage b m)
read_told x (FetchingEntry r w readable entry stage) b m = after_told x r w readable entry (hears w.subject stage b m)
read_told x stage b m = (stage, Wait)

-- what it does at what it hears
unfoldable pub read_hears : ReaderArgs → ReadStage → Heard → ReadMove
read_hears x stage (Reply a) = read_answers x stage a
read_hears x stage (From b m) = read_told x stage b m

-- ---- the reader

-- Where the next read begins, and the read under way.
pub record ReaderNow : Type 0 where
  pub position : Position
  pub stage : ReadStage

-- a call that a reader was given
pub data LogReaderCall : Type 0 where
  Reads : (tag count : ℕ) → LogReaderCall
  HearsAll : (heard : Heard) → LogReaderCall

-- a reader that starts so, in a stream with this point
abbrev pub reader_started : Dlsn → Start → ReaderNow
reader_started point from = record { position = position_at point from; stage = NoRead }

-- a read of so many rows
abbrev pub reader_reads : ReaderArgs → ReaderNow → (tag count : ℕ) → ReadMove
reader_reads x n tag count = begins x (record { tag = tag; count = count; from = n.position; rows = []; gone = None }) None

-- the position behind rows that were given
abbrev pub behind : Position → List ReadRow → Position
behind p [] = p
behind p (row ∷ []) = record p { cursor = after_place row.place }
behind p (row ∷ other ∷ more) = behind p (other ∷ more)

-- the position moves behind the rows that a read gives
abbrev pub position_behind : Position → Next (List ReadRow) → Position
position_behind p (Done rows) = behind p rows
position_behind p next = p

-- the reader after a move of its read
abbrev pub after_read : ReaderNow → ReadMove → ReaderNow
after_read n move = record { position = position_behind n.position move.1; stage = move.0 }

-- what a call does
abbrev pub reader_move : ReaderArgs → ReaderNow → LogReaderCall → ReadMove
reader_move x n (Reads tag count) = reader_reads x n tag count
reader_move x n (HearsAll h) = read_hears x n.stage h

-- the reader after one call more
unfoldable pub after_reader_call : ReaderArgs → ReaderNow → LogReaderCall → ReaderNow
after_reader_call x n call = after_read n (reader_move x n call)

-- the reader after its calls, the newest first
unfoldable pub reader_of : ReaderArgs → ReaderNow → List LogReaderCall → ReaderNow
reader_of x first [] = first
reader_of x first (call ∷ calls) = after_reader_call x (reader_of x first calls) call

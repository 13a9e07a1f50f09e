-- Which refusals end a read that is under way: those of the read itself, and none of a writer's.
use Rattle.std.proofs.Common.{◌≡◌, ℕ, ◌+◌, Bool, true, false, ◌&&◌, nat_le, nat_lt, not, List, [], ◌∷◌, length, Option, Some, None, Result, Ok, Err}
use Rattle.std.proofs.Common.{refl}
use Rattle.dl_types.specs.declared.dlsn.Dlsn.{Dlsn}
use Rattle.dl_types.specs.declared.read_row.ReadRow.{ReadRow}
use Rattle.dl_types.specs.declared.refusal.Refusal.{Refusal}
use Rattle.dl_types.specs.declared.refusal.Refusal.TheVariants as refused
use Rattle.dl_types.specs.declared.row.Origin.{Origin}
use Rattle.dl_types.specs.declared.why.Why.{Why}
use Rattle.dl_types.specs.declared.why.Why.TheVariants.{NoNode, NodeExists, BadVersion, NotEmpty, EphemeralParent, Spent}
use Rattle.dl_types.specs.declared.one_answer.OneAnswer.TheVariants.{Names, Bytes}
use Rattle.dl_types.specs.declared.meta_answer.MetaAnswer.{MetaAnswer}
use Rattle.dl_types.specs.declared.meta_answer.MetaAnswer.TheVariants as answer
use Rattle.dl_record.specs.Reading.{entry_at}
use Rattle.dl_msg.specs.declared.heard.Heard.{Heard}
use Rattle.dl_msg.specs.declared.heard.Heard.TheVariants.{Reply, From}
use Rattle.dl_msg.specs.declared.letters.Told.{Told}
use Rattle.dl_msg.specs.declared.msg.Msg.{Msg}
use Rattle.dl_formats.specs.declared.conf.Conf.{Conf}
use Rattle.dl_formats.specs.declared.cut.Cut.{Cut}
use Rattle.dl_formats.specs.declared.fault.MetaBytesFault.{MetaBytesFault}
use Rattle.dl_formats.specs.declared.ledger.LedgerState.{LedgerState}
use Rattle.dl_formats.specs.declared.ledger.LedgerState.TheVariants as state
use Rattle.dl_formats.specs.declared.segment.SegmentMeta.{SegmentMeta}
use Rattle.dl_formats.specs.declared.segment.SegmentMeta.TheVariants as meta
use Rattle.dl_formats.specs.declared.segment_name.SegmentName.{SegmentName}
use Rattle.dl_formats.specs.Keys as key
use Rattle.dl_formats.specs.Reading.{cut_at, segment_at, ledger_at}
use Rattle.dl_rules_ledger.specs.Readers.{ReaderStage, Counted, Fetching, Fetched, asks_count, asks_entry, hears}
use Rattle.dl_rules_stream.specs.Nodes.{LedgerNode}
use Rattle.dl_rules_stream.specs.Requests.{Request, ListCut, GetSegment, GetLedger, segment_key}
use Rattle.dl_rules_stream.specs.Orders.{Next, Wait, Ask, Tell, Done, Refused, no_way_on, tells, or_refused, or_gave_up, ◌>>=◌}
use Rattle.dl_rules_stream.specs.Listings.{segments_of, number_of, point_of, segment_of, is_named, ledger_of, ledger_node_of}
use Rattle.dl_rules_stream.specs.LogReaders as reading
use Rattle.dl_rules_stream.specs.LogWriters.{LogNow, LogMove, writer_fault, or_fault, fault_if, send_fault, take_fault, unless, is_closing, fenced_at}
use Rattle.dl_rules_stream.specs.LogWriters.{is_window_full, has_parts, fits, longest_payload, set_size, appends, appends_set, log_flushes, commits, closes}
use Rattle.dl_transcript.specs.Legal.{Leaves, effect_on_read}
use Rattle.dl_rules_client.proofs.RangeLists.{cond_both}

-- ---- refusals of a read

-- the refusal ends a read
abbrev pub IsEnding : Refusal → Type 0
IsEnding r = effect_on_read r ≡ Leaves → ⊥

-- where an order is a read, a refusal of it ends the read
abbrev pub EndsBy : {A : Type 0} → Bool → Next A → Type 0
EndsBy reading Wait = Unit {0}
EndsBy reading (Ask r) = Unit {0}
EndsBy reading (Tell ts) = Unit {0}
EndsBy reading (Done a) = Unit {0}
EndsBy reading (Refused r) = reading ≡ true → IsEnding r

-- of an order that is no read nothing is asked
pub no_read_ends : {A : Type 0} (next : Next A) → EndsBy false next
no_read_ends Wait = tt
no_read_ends (Ask r) = tt
no_read_ends (Tell ts) = tt
no_read_ends (Done a) = tt
no_read_ends (Refused r) = λ e w. absurd cc

-- a read's step
abbrev StepEnds : reading.ReadMove → Type 0
StepEnds move = EndsBy true move.1

-- the refusal of a reading that failed
abbrev FaultEnds : {A : Type 0} → Result A Refusal → Type 0
FaultEnds (Ok x) = Unit {0}
FaultEnds (Err r) = IsEnding r

-- no way on
no_way_ends : (r : Request) (at : ℕ) (w : Why) → IsEnding (no_way_on r at w)
no_way_ends r at NoNode e = absurd cc
no_way_ends r at NodeExists e = absurd cc
no_way_ends r at (BadVersion now) e = absurd cc
no_way_ends r at (NotEmpty count) e = absurd cc
no_way_ends r at EphemeralParent e = absurd cc
no_way_ends r at Spent e = absurd cc

-- bytes of a node that are not in their form
gave_up_ends : {A : Type 0} (path : List ℕ) (r : Result A MetaBytesFault) → FaultEnds (or_gave_up path r)
gave_up_ends path (Ok x) = tt
gave_up_ends path (Err fault) = λ e. absurd cc

-- one reading and then another
both_end : {A B : Type 0} (r : Result A Refusal) (f : A → Result B Refusal) → FaultEnds r → ((a : A) → FaultEnds (f a)) → FaultEnds (r >>= f)
both_end (Ok x) f h k = k x
both_end (Err r) f h k = h

-- a reading that may be refused
refused_ends : {A : Type 0} (go_on : A → reading.ReadMove) (r : Result A Refusal) → FaultEnds r → ((a : A) → StepEnds (go_on a))
    → StepEnds (or_refused reading.NoRead go_on r)
refused_ends go_on (Ok x) h k = k x
refused_ends go_on (Err r) h k = λ e. h

-- the point of a stream
point_ends : (s bytes : List ℕ) → FaultEnds (point_of s bytes)
point_ends s bytes =
    both_end (or_gave_up (key.path_of (key.Cut s)) (cut_at bytes)) (λ (c : Cut). Ok c.point) (gave_up_ends (key.path_of (key.Cut s)) (cut_at bytes)) (λ c. tt)

-- the node of a segment
segment_ends : (s : List ℕ) (name : SegmentName) (bytes : List ℕ) → FaultEnds (segment_of s name bytes)
segment_ends s name bytes =
    both_end (or_gave_up (key.path_of (segment_key s name)) (segment_at bytes)) _ (gave_up_ends (key.path_of (segment_key s name)) (segment_at bytes))
    (λ m. cond_both FaultEnds (is_named name m) (Ok m) (Err (refused.GaveUp (key.path_of (segment_key s name)))) tt (λ e. absurd cc))

-- the node of a ledger
ledger_ends : (conf : Conf) (ledger : ℕ) (bytes : List ℕ) → FaultEnds (ledger_node_of conf ledger bytes)
ledger_ends conf ledger bytes =
    both_end (or_gave_up (key.path_of (key.Ledger ledger)) (ledger_at bytes)) _ (gave_up_ends (key.path_of (key.Ledger ledger)) (ledger_at bytes))
    (λ f. cond_both FaultEnds (nat_le f.e conf.b) _ (Err (refused.GaveUp (key.path_of (key.Ledger ledger)))) tt (λ e. absurd cc))

-- messages are told
tells_end : (ts : List Told) → EndsBy {A = List ReadRow} true (tells ts)
tells_end [] = tt
tells_end (t ∷ ts) = tt

-- the next segment
walks_end : (x : reading.ReaderArgs) (r : reading.Read) (rest : List SegmentName) → StepEnds (reading.walks x r rest)
walks_end x r [] = tt
walks_end x r (name ∷ rest) = tt

-- the next entry
fetches_end : (x : reading.ReaderArgs) (r : reading.Read) (w : reading.Walk) (readable entry : ℕ) → StepEnds (reading.fetches x r w readable entry)
fetches_end x r w readable entry =
    cond_both StepEnds (nat_lt entry readable) (reading.FetchingEntry r w readable entry (Fetching entry), tells (asks_entry w.subject entry))
    (reading.walks x r w.rest) (tells_end (asks_entry w.subject entry)) (walks_end x r w.rest)

-- a segment in progress
progress_ends : (x : reading.ReaderArgs) (r : reading.Read) (w : reading.Walk) (m : LedgerNode) (s : LedgerState) → StepEnds (reading.in_progress x r w m s)
progress_ends x r w m state.Closed = fetches_end x r w m.count _
progress_ends x r w m state.Writing = tells_end (asks_count w.subject)
progress_ends x r w m state.Recovering = tells_end (asks_count w.subject)

-- a segment by its node and that of its ledger
after_ledger_ends : (x : reading.ReaderArgs) (r : reading.Read) (s : SegmentMeta) (rest : List SegmentName) (m : LedgerNode)
    → StepEnds (reading.after_ledger x r s rest m)
after_ledger_ends x r (meta.Completed number l entries rows last) rest m = fetches_end x r (reading.walk_of x r number l m rest) entries _
after_ledger_ends x r (meta.InProgress number l) rest m = progress_ends x r (reading.walk_of x r number l m rest) m m.state

-- the segments from the cursor's on
list_ends : (x : reading.ReaderArgs) (r : reading.Read) (names : List SegmentName) (point : Dlsn) → StepEnds (reading.after_list x r names point)
list_ends x r names point =
    cond_both StepEnds (nat_lt r.from.cursor.segment (reading.least_segment point names)) (reading.NoRead, Refused (refused.Truncated point)) _
    (λ e w. absurd cc) (walks_end x r _)

-- a ledger's node is gone
gone_ends : (x : reading.ReaderArgs) (r : reading.Read) (l : ℕ) → StepEnds (reading.after_gone x r l)
gone_ends x r l =
    cond_both StepEnds (reading.is_gone_again r.gone l) (reading.NoRead, Refused (refused.GaveUp (key.path_of (key.Ledger l)))) _ (λ e w. absurd cc) tt

-- what a read does at an answer
answers_end : (x : reading.ReaderArgs) (stage : reading.ReadStage) (a : MetaAnswer) → StepEnds (reading.read_answers x stage a)
unfolding reading.read_answers
answers_end x (reading.ListingCut r) (answer.Many (Names names ∷ Bytes cut version ∷ [])) =
    refused_ends (reading.after_list x r (segments_of names)) (point_of x.stream cut) (point_ends x.stream cut)
    (λ point. list_ends x r (segments_of names) point)
answers_end x (reading.ListingCut r) (answer.Failed at NoNode) = λ e w. absurd cc
answers_end x (reading.ListingCut r) (answer.Failed at w) = λ e. no_way_ends (ListCut x.stream) at w
answers_end x (reading.GettingSegment r name rest) (answer.One (Bytes bytes version)) =
    refused_ends (reading.after_segment x r (number_of name) rest) (segment_of x.stream name bytes) (segment_ends x.stream name bytes) (λ m. tt)
answers_end x (reading.GettingSegment r name rest) (answer.Failed at NoNode) = tt
answers_end x (reading.GettingSegment r name rest) (answer.Failed at w) = λ e. no_way_ends (GetSegment x.stream name) at w
answers_end x (reading.GettingLedger r m number rest) (answer.One (Bytes bytes version)) =
    refused_ends (reading.after_ledger x r m rest) (ledger_node_of x.conf (ledger_of m) bytes) (ledger_ends x.conf (ledger_of m) bytes)
    (λ node. after_ledger_ends x r m rest node)
answers_end x (reading.GettingLedger r m number rest) (answer.Failed at NoNode) = gone_ends x r (ledger_of m)
answers_end x (reading.GettingLedger r m number rest) (answer.Failed at w) = λ e. no_way_ends (GetLedger (ledger_of m)) at w
answers_end x stage a = tt

-- how many entries can be read
counted_ends : (x : reading.ReaderArgs) (r : reading.Read) (w : reading.Walk) (stage : ReaderStage) → StepEnds (reading.after_counted x r w stage)
counted_ends x r w (Counted n) = fetches_end x r w n _
counted_ends x r w stage = tt

-- an entry that has come
fetched_ends : (x : reading.ReaderArgs) (r : reading.Read) (w : reading.Walk) (readable entry : ℕ) (stage : ReaderStage)
    → StepEnds (reading.after_told x r w readable entry stage)
fetched_ends x r w readable entry (Fetched bytes) =
    let q : reading.Read = reading.gathers r (reading.rows_in w.segment entry (entry_at bytes)) in
    cond_both StepEnds (nat_le q.count (length q.rows)) (reading.ends q) (reading.fetches x q w readable (entry + 1)) tt
    (fetches_end x q w readable (entry + 1))
fetched_ends x r w readable entry stage = tt

-- what a read does at a message of a storage node
told_ends : (x : reading.ReaderArgs) (stage : reading.ReadStage) (b : ℕ) (m : Msg) → StepEnds (reading.read_told x stage b m)
told_ends x (reading.CountingEntries r w stage) b m = counted_ends x r w (hears w.subject stage b m)
told_ends x (reading.FetchingEntry r w readable entry stage) b m = fetched_ends x r w readable entry (hears w.subject stage b m)
told_ends x stage b m = tt

-- what a read does at what it hears
heard_ends : (x : reading.ReaderArgs) (stage : reading.ReadStage) (h : Heard) → StepEnds (reading.read_hears x stage h)
unfolding reading.read_hears
heard_ends x stage (Reply a) = answers_end x stage a
heard_ends x stage (From b m) = told_ends x stage b m

-- each refusal of a call of a reader ends its read
pub reader_ends : (x : reading.ReaderArgs) (n : reading.ReaderNow) (call : reading.LogReaderCall) → EndsBy true (reading.reader_move x n call).1
reader_ends x n (reading.Reads tag count) = tt
reader_ends x n (reading.HearsAll h) = heard_ends x n.stage h

-- ---- refusals of a writer

-- the refusal leaves a read that is under way
abbrev pub LeavesRead : Refusal → Type 0
LeavesRead r = effect_on_read r ≡ Leaves

-- the same of a fault, where there is one
abbrev FaultLeaves : Option Refusal → Type 0
FaultLeaves None = Unit {0}
FaultLeaves (Some r) = LeavesRead r

-- the same of a call that may be refused
abbrev pub CallLeaves : Result LogMove Refusal → Type 0
CallLeaves (Ok m) = Unit {0}
CallLeaves (Err r) = LeavesRead r

-- the close has begun, or the ledger is fenced
writer_leaves : (closing : Bool) (fenced : Option ℕ) → FaultLeaves (writer_fault closing fenced)
writer_leaves true fenced = refl
writer_leaves false (Some bookie) = refl
writer_leaves false None = tt

-- a first fault, or else the second one
or_leaves : (first second : Option Refusal) → FaultLeaves first → FaultLeaves second → FaultLeaves (or_fault first second)
or_leaves (Some r) second h k = h
or_leaves None second h k = k

-- a fault where a test holds
if_leaves : (t : Bool) (r : Refusal) → LeavesRead r → FaultLeaves (fault_if t r)
if_leaves true r h = h
if_leaves false r h = tt

-- a call that may be refused
unless_leaves : (why : Option Refusal) (m : LogMove) → FaultLeaves why → CallLeaves (unless why m)
unless_leaves None m h = tt
unless_leaves (Some r) m h = h

-- a record
take_leaves : (w : LogNow) (size txid : ℕ) → FaultLeaves (take_fault w size txid)
take_leaves w size txid =
    or_leaves (writer_fault (is_closing w.mode) (fenced_at w)) _ (writer_leaves (is_closing w.mode) (fenced_at w))
    (or_leaves (fault_if (nat_lt longest_payload size) (refused.TooLong size)) _ (if_leaves (nat_lt longest_payload size) (refused.TooLong size) refl)
    (or_leaves (fault_if (nat_lt txid w.last_taken) (refused.TxidBack w.last_taken txid)) _
    (if_leaves (nat_lt txid w.last_taken) (refused.TxidBack w.last_taken txid) refl)
    (if_leaves (not (fits w size) && is_window_full w) refused.WindowFull refl)))

-- a call that sends an entry
send_leaves : (w : LogNow) (due : Bool) → FaultLeaves (send_fault w due)
send_leaves w due =
    or_leaves (writer_fault (is_closing w.mode) (fenced_at w)) _ (writer_leaves (is_closing w.mode) (fenced_at w))
    (if_leaves (due && is_window_full w) refused.WindowFull refl)

-- a record is appended
pub appends_leave : (w : LogNow) (o : Origin) (txid : ℕ) (payload : List ℕ) → CallLeaves (appends w o txid payload)
unfolding appends
appends_leave w o txid payload = unless_leaves (take_fault w (length payload) txid) _ (take_leaves w (length payload) txid)

-- a set is appended
pub sets_leave : (w : LogNow) (o : Origin) (txid : ℕ) (payloads : List (List ℕ)) → CallLeaves (appends_set w o txid payloads)
unfolding appends_set
sets_leave w o txid payloads = unless_leaves (take_fault w (set_size payloads) txid) _ (take_leaves w (set_size payloads) txid)

-- what was taken is sent
pub flushes_leave : (w : LogNow) → CallLeaves (log_flushes w)
unfolding log_flushes
flushes_leave w = unless_leaves (send_fault w (has_parts w)) _ (send_leaves w (has_parts w))

-- a commit begins
pub commits_leave : (w : LogNow) → CallLeaves (commits w)
unfolding commits
commits_leave w = unless_leaves (send_fault w (has_parts w)) _ (send_leaves w (has_parts w))

-- a close begins
pub closes_leave : (w : LogNow) → CallLeaves (closes w)
unfolding closes
closes_leave w = unless_leaves (send_fault w (has_parts w)) _ (send_leaves w (has_parts w))

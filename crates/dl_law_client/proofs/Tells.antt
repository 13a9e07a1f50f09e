-- What a client tells storage nodes: entries, copies, and asks for counts and entries of ledgers.
use Rattle.std.proofs.Common.{ℕ, zero, suc, ◌+◌, true, false, List, [], ◌∷◌, length, map, Option, Some, None, Result, Ok, Err}
use Rattle.std.specs.Prelude.{nat_le, nat_lt, is_some}
use Rattle.std.specs.List.{AllByRecursion}
use Rattle.dl_types.specs.declared.dlsn.Dlsn.{Dlsn}
use Rattle.dl_types.specs.declared.read_row.ReadRow.{ReadRow}
use Rattle.dl_types.specs.declared.refusal.Refusal.{Refusal}
use Rattle.dl_types.specs.declared.row.Origin.{Origin}
use Rattle.dl_types.specs.declared.meta_answer.MetaAnswer.{MetaAnswer}
use Rattle.dl_types.specs.declared.meta_answer.MetaAnswer.TheVariants as answer
use Rattle.dl_types.specs.declared.one_answer.OneAnswer.TheVariants.{Made, Names, Bytes, Version}
use Rattle.dl_types.specs.declared.why.Why.{Why}
use Rattle.dl_types.specs.declared.why.Why.TheVariants.{NoNode, NodeExists, NotEmpty, BadVersion}
use Rattle.dl_types.specs.Places.{is_at_most, is_before}
use Rattle.dl_quorum.specs.Pieces.{acks, blocks, covers, members, last_piece}
use Rattle.dl_record.specs.Reading.{entry_at}
use Rattle.dl_msg.specs.declared.heard.Heard.{Heard}
use Rattle.dl_msg.specs.declared.heard.Heard.TheVariants.{Reply, From}
use Rattle.dl_msg.specs.declared.letters.Told.{Told}
use Rattle.dl_msg.specs.declared.msg.Msg.{Msg}
use Rattle.dl_msg.specs.declared.msg.Msg.TheVariants.{AskEntry, AskLac, Copy, LacIs, EntryIs, NoEntry, CopyOk}
use Rattle.dl_formats.specs.declared.ledger.LedgerState.{LedgerState}
use Rattle.dl_formats.specs.declared.ledger.LedgerState.TheVariants as state
use Rattle.dl_formats.specs.declared.segment.SegmentMeta.{SegmentMeta}
use Rattle.dl_formats.specs.declared.segment.SegmentMeta.TheVariants as meta
use Rattle.dl_formats.specs.declared.segment_name.SegmentName.{SegmentName}
use Rattle.dl_formats.specs.declared.segment_name.SegmentName.TheVariants.{Progress, Completed}
use Rattle.dl_formats.specs.NodeBytes.{ten_nines}
use Rattle.dl_rules_ledger.specs.Subjects.{Subject, among, has_answered, known_count, tell_each, tell_write_set, tell_last_piece, is_about, is_about_entry}
use Rattle.dl_rules_ledger.specs.Readers.{ReaderStage, Counted, Fetching, Fetched, asks_count, asks_entry, hears}
use Rattle.dl_rules_ledger.specs.Recoveries.{greatest_entry, Phase, Fencing, Reading, Copying, Ended, Exhausted, Move, fences, reads, after_answer}
use Rattle.dl_rules_ledger.specs.Recoveries.{after_denial, after_entry, after_copy, recovers}
use Rattle.dl_rules_ledger.specs.Writers.{WriterView, sent_count, confirmed_count, add_letters, add_to}
use Rattle.dl_rules_stream.specs.Nodes.{LedgerNode}
use Rattle.dl_rules_stream.specs.Requests.{Beginning, Completion}
use Rattle.dl_rules_stream.specs.Orders.{Next, Wait, Ask, Tell, Done, Refused, tells, within, or_refused, by_reply}
use Rattle.dl_rules_stream.specs.Listings.{number_behind, segments_of, last_segment, number_of, ledger_of, point_of, segment_of, ledger_node_of}
use Rattle.dl_rules_stream.specs.Makes as make
use Rattle.dl_rules_stream.specs.Removes as remove
use Rattle.dl_rules_stream.specs.Closes as close
use Rattle.dl_rules_stream.specs.Seeks as seek
use Rattle.dl_rules_stream.specs.Truncates as truncate
use Rattle.dl_rules_stream.specs.Purges as purge
use Rattle.dl_rules_stream.specs.Locks as lock
use Rattle.dl_rules_stream.specs.Looks as look
use Rattle.dl_rules_stream.specs.Allocations as allocation
use Rattle.dl_rules_stream.specs.LedgerRecoveries as ledger
use Rattle.dl_rules_stream.specs.SegmentRecoveries as segment
use Rattle.dl_rules_stream.specs.Opens as open_order
use Rattle.dl_rules_stream.specs.Recovers as recover
use Rattle.dl_rules_stream.specs.LogReaders as reading
use Rattle.dl_rules_stream.specs.LogWriters as log
use Rattle.dl_rules_client.proofs.RangeLists.{cond_both, all-append}
use Rattle.dl_law_client.specs.Seen.{IsLedgerAsk}

-- a storage node is told something about a ledger
abbrev pub IsAskTold : Told → Type 0
IsAskTold t = IsLedgerAsk t.msg

-- so are these
abbrev pub AreAsks : List Told → Type 0
AreAsks ts = AllByRecursion IsAskTold ts

-- what an order tells next, where it tells something
abbrev pub TellsAsks : {A : Type 0} → Next A → Type 0
TellsAsks Wait = Unit {0}
TellsAsks (Ask r) = Unit {0}
TellsAsks (Tell ts) = AreAsks ts
TellsAsks (Done a) = Unit {0}
TellsAsks (Refused r) = Unit {0}

-- ---- messages

-- a message for each of these
each_asks : (bookies : List ℕ) (m : Msg) → IsLedgerAsk m → AreAsks (tell_each bookies m)
each_asks [] m is = tt
each_asks (b ∷ bs) m is = (is, each_asks bs m is)

-- messages for a write set
write_asks : (x : Subject) (entry : ℕ) (m : Msg) → IsLedgerAsk m → AreAsks (tell_write_set x entry m)
write_asks x entry m is = each_asks (members x.pieces entry) m is

-- messages for the last piece
last_asks : (x : Subject) (m : Msg) → IsLedgerAsk m → AreAsks (tell_last_piece x m)
last_asks x m is = each_asks (last_piece x.pieces).members m is

-- messages that are told, where there are any
tells_asks : (A : Type 0) (ts : List Told) → AreAsks ts → TellsAsks (tells {A = A} ts)
tells_asks A [] each = tt
tells_asks A (t ∷ ts) each = each

-- ---- parts of orders

-- a part of an order
within_asks : {S T A B : Type 0} (wrap : S → T) (ended : T) (go_on : A → T × Next B) (move : S × Next A) → TellsAsks move.1
    → ((a : A) → TellsAsks (go_on a).1) → TellsAsks (within wrap ended go_on move).1
within_asks wrap ended go_on (stage, Wait) is later = tt
within_asks wrap ended go_on (stage, Ask r) is later = tt
within_asks wrap ended go_on (stage, Tell ts) is later = is
within_asks wrap ended go_on (stage, Done x) is later = later x
within_asks wrap ended go_on (stage, Refused r) is later = tt

-- a reading that may be refused
refused_asks : {T A B : Type 0} (ended : T) (go_on : A → T × Next B) (r : Result A Refusal) → ((a : A) → TellsAsks (go_on a).1)
    → TellsAsks (or_refused ended go_on r).1
refused_asks ended go_on (Ok x) later = later x
refused_asks ended go_on (Err why) later = tt

-- a part that only hears replies
by_asks : {S A : Type 0} (stage : S) (on : MetaAnswer → S × Next A) (h : Heard) → ((a : MetaAnswer) → TellsAsks (on a).1)
    → TellsAsks (by_reply stage on h).1
by_asks stage on (Reply a) each = each a
by_asks stage on (From b m) each = tt

-- ---- orders that tell nothing

-- the making of a stream
make_answers_ask : (s : List ℕ) (stage : make.MakeStage) (a : MetaAnswer) → TellsAsks (make.make_answers s stage a).1
unfolding make.make_answers
make_answers_ask s make.Making (answer.Failed zero NodeExists) = tt
make_answers_ask s make.Making (answer.Failed place w) = tt
make_answers_ask s make.Making a = tt
make_answers_ask s make.MakingAgain (answer.Failed zero NodeExists) = tt
make_answers_ask s make.MakingAgain (answer.Failed place w) = tt
make_answers_ask s make.MakingAgain a = tt
make_answers_ask s make.MakeDone a = tt

-- the same at what it hears
pub make_asks : (s : List ℕ) (stage : make.MakeStage) (h : Heard) → TellsAsks (make.make_hears s stage h).1
make_asks s stage h = by_asks stage (make.make_answers s stage) h (λ a. make_answers_ask s stage a)

-- a removal
remove_answers_ask : (s : List ℕ) (stage : remove.RemoveStage) (a : MetaAnswer) → TellsAsks (remove.remove_answers s stage a).1
unfolding remove.remove_answers
remove_answers_ask s remove.Removing (answer.Failed place NoNode) = tt
remove_answers_ask s remove.Removing (answer.Failed place (NotEmpty n)) = tt
remove_answers_ask s remove.Removing (answer.Failed place w) = tt
remove_answers_ask s remove.Removing a = tt
remove_answers_ask s remove.RemoveDone a = tt

-- the same at what it hears
pub remove_asks : (s : List ℕ) (stage : remove.RemoveStage) (h : Heard) → TellsAsks (remove.remove_hears s stage h).1
remove_asks s stage h = by_asks stage (remove.remove_answers s stage) h (λ a. remove_answers_ask s stage a)

-- a close
close_answers_ask : (x : close.CloseArgs) (stage : close.CloseStage) (a : MetaAnswer) → TellsAsks (close.close_answers x stage a).1
unfolding close.close_answers
close_answers_ask x close.ClosingLedger (answer.Failed place w) = tt
close_answers_ask x close.ClosingLedger a = tt
close_answers_ask x close.Completing (answer.Failed (suc zero) NoNode) = tt
close_answers_ask x close.Completing (answer.Failed place w) = tt
close_answers_ask x close.Completing a = tt
close_answers_ask x close.LeavingLock (answer.Failed place w) = tt
close_answers_ask x close.LeavingLock a = tt
close_answers_ask x close.CloseDone a = tt

-- the same at what it hears
pub close_asks : (x : close.CloseArgs) (stage : close.CloseStage) (h : Heard) → TellsAsks (close.close_hears x stage h).1
close_asks x stage h = by_asks stage (close.close_answers x stage) h (λ a. close_answers_ask x stage a)

-- a seek
seek_answers_ask : (s : List ℕ) (stage : seek.SeekStage) (a : MetaAnswer) → TellsAsks (seek.seek_answers s stage a).1
unfolding seek.seek_answers
seek_answers_ask s seek.Seeking (answer.Many (Names names ∷ Bytes cut version ∷ [])) =
    refused_asks seek.SeekDone (λ point. (seek.SeekDone, Done point)) (point_of s cut) (λ d. tt)
seek_answers_ask s seek.Seeking (answer.Failed zero NoNode) = tt
seek_answers_ask s seek.Seeking (answer.Failed place w) = tt
seek_answers_ask s stage a = tt

-- the same at what it hears
pub seek_asks : (s : List ℕ) (stage : seek.SeekStage) (h : Heard) → TellsAsks (seek.seek_hears s stage h).1
seek_asks s stage h = by_asks stage (seek.seek_answers s stage) h (λ a. seek_answers_ask s stage a)

-- a new point
bounds_ask : (x : truncate.TruncateArgs) (version : ℕ) (b : truncate.Bounds) → TellsAsks (truncate.within_bounds x version b).1
bounds_ask x version b =
    cond_both (λ (m : truncate.TruncateStage × Next Dlsn). TellsAsks m.1) (is_at_most x.place b.point) _ _ tt
    (cond_both (λ (m : truncate.TruncateStage × Next Dlsn). TellsAsks m.1) (is_before b.end x.place) _ _ tt tt)

-- a truncation
truncate_answers_ask : (x : truncate.TruncateArgs) (stage : truncate.TruncateStage) (a : MetaAnswer) → TellsAsks (truncate.truncate_answers x stage a).1
unfolding truncate.truncate_answers
truncate_answers_ask x truncate.LookingAtCut (answer.Many (Names names ∷ Bytes cut version ∷ Bytes maxseq w ∷ [])) =
    refused_asks truncate.TruncateDone (truncate.within_bounds x version) (truncate.bounds_of x.stream names cut maxseq) (λ b. bounds_ask x version b)
truncate_answers_ask x truncate.LookingAtCut (answer.Failed place NoNode) = tt
truncate_answers_ask x truncate.LookingAtCut (answer.Failed place w) = tt
truncate_answers_ask x (truncate.SettingCut version) (answer.Failed place w) = tt
truncate_answers_ask x (truncate.SettingCut version) a = tt
truncate_answers_ask x stage a = tt

-- the same at what it hears
pub truncate_asks : (x : truncate.TruncateArgs) (stage : truncate.TruncateStage) (h : Heard) → TellsAsks (truncate.truncate_hears x stage h).1
truncate_asks x stage h = by_asks stage (truncate.truncate_answers x stage) h (λ a. truncate_answers_ask x stage a)

-- the next segment of a purge
purge_goes_ask : (s : List ℕ) (rest : List SegmentName) (count : ℕ) → TellsAsks (purge.goes_on s rest count).1
purge_goes_ask s [] count = tt
purge_goes_ask s (name ∷ rest) count = tt

-- a purge
purge_answers_ask : (s : List ℕ) (stage : purge.PurgeStage) (a : MetaAnswer) → TellsAsks (purge.purge_answers s stage a).1
unfolding purge.purge_answers
purge_answers_ask s purge.ListingCut (answer.Many (Names names ∷ Bytes cut version ∷ [])) =
    refused_asks purge.PurgeDone (purge.after_list s names) (point_of s cut) (λ point. purge_goes_ask s _ 0)
purge_answers_ask s purge.ListingCut (answer.Failed place w) = tt
purge_answers_ask s (purge.GettingSegment name rest count) (answer.One (Bytes bytes version)) =
    refused_asks purge.PurgeDone (purge.after_get s name rest count) (segment_of s name bytes) (λ m. tt)
purge_answers_ask s (purge.GettingSegment name rest count) (answer.Failed place NoNode) = purge_goes_ask s rest count
purge_answers_ask s (purge.GettingSegment name rest count) (answer.Failed place w) = tt
purge_answers_ask s (purge.Dropping number l rest count) (answer.Failed place NoNode) = purge_goes_ask s rest count
purge_answers_ask s (purge.Dropping number l rest count) (answer.Failed place w) = tt
purge_answers_ask s (purge.Dropping number l rest count) a = purge_goes_ask s rest (suc count)
purge_answers_ask s stage a = tt

-- the same at what it hears
pub purge_asks : (s : List ℕ) (stage : purge.PurgeStage) (h : Heard) → TellsAsks (purge.purge_hears s stage h).1
purge_asks s stage h = by_asks stage (purge.purge_answers s stage) h (λ a. purge_answers_ask s stage a)

-- the taking of a lock
lock_answers_ask : (s : List ℕ) (stage : lock.LockStage) (a : MetaAnswer) → TellsAsks (lock.lock_answers s stage a).1
unfolding lock.lock_answers
lock_answers_ask s lock.MakingMember (answer.One (Made path)) = tt
lock_answers_ask s lock.MakingMember (answer.Failed place NoNode) = tt
lock_answers_ask s lock.MakingMember (answer.Failed place w) = tt
lock_answers_ask s (lock.ListingMembers member) (answer.One (Names names)) =
    cond_both (λ (m : lock.LockStage × Next (List ℕ)). TellsAsks m.1) (nat_lt _ (number_behind member)) _ _ tt tt
lock_answers_ask s (lock.ListingMembers member) (answer.Failed place w) = tt
lock_answers_ask s (lock.LeavingLock member least) (answer.Failed place w) = tt
lock_answers_ask s (lock.LeavingLock member least) a = tt
lock_answers_ask s stage a = tt

-- a look
look_answers_ask : (s : List ℕ) (stage : look.LookStage) (a : MetaAnswer) → TellsAsks (look.look_answers s stage a).1
unfolding look.look_answers
look_answers_ask s look.Looking (answer.Many (Names names ∷ Bytes maxseq v ∷ Bytes alloc w ∷ [])) =
    refused_asks look.LookDone (λ x. (look.LookDone, Done x)) (look.look_values s names maxseq v alloc w) (λ x. tt)
look_answers_ask s look.Looking (answer.Failed zero NoNode) = tt
look_answers_ask s look.Looking (answer.Failed place w) = tt
look_answers_ask s stage a = tt

-- the same at what it hears
look_asks : (s : List ℕ) (stage : look.LookStage) (h : Heard) → TellsAsks (look.look_hears s stage h).1
look_asks s stage h = by_asks stage (look.look_answers s stage) h (λ a. look_answers_ask s stage a)

-- an allocation
allocation_answers_ask : (x : allocation.AllocationArgs) (stage : allocation.AllocationStage) (a : MetaAnswer)
    → TellsAsks (allocation.allocation_answers x stage a).1
unfolding allocation.allocation_answers
allocation_answers_ask x allocation.MakingLedger (answer.One (Made path)) = tt
allocation_answers_ask x allocation.MakingLedger (answer.Failed place w) = tt
allocation_answers_ask x (allocation.TakingLedger l) (answer.Failed place w) = tt
allocation_answers_ask x (allocation.TakingLedger l) a = tt
allocation_answers_ask x stage a = tt

-- ---- ledgers

-- what is told on the way to a phase
abbrev CameAsks : Move → Type 0
CameAsks move = AreAsks move.1

-- an entry is asked of its write set
reads_ask : (x : Subject) (start entry : ℕ) → CameAsks (reads x start entry)
reads_ask x start entry =
    cond_both CameAsks (nat_le entry greatest_entry) (Reading start entry [], tell_write_set x entry (AskEntry x.tag x.ledger entry)) (Exhausted, [])
    (write_asks x entry (AskEntry x.tag x.ledger entry) tt) tt

-- what a recovery tells at a message
recovers_ask : (x : Subject) (phase : Phase) (b : ℕ) (m : Msg) → CameAsks (recovers x phase b m)
unfolding recovers
recovers_ask x (Fencing answers) b (LacIs t l true n) =
    let counted : ℕ = known_count x ((b, n) ∷ answers) in
    cond_both CameAsks (is_about x b t l) (after_answer x ((b, n) ∷ answers)) (Fencing answers, [])
    (cond_both CameAsks (covers x.pieces (has_answered ((b, n) ∷ answers))) (reads x counted counted) (Fencing ((b, n) ∷ answers), [])
    (reads_ask x counted counted) tt) tt
recovers_ask x (Reading start entry denials) b (NoEntry t l e true) =
    cond_both CameAsks (is_about_entry x entry b t l e) (after_denial x start entry (b ∷ denials)) (Reading start entry denials, [])
    (cond_both CameAsks (blocks x.pieces entry (among (b ∷ denials))) (Ended entry, []) (Reading start entry (b ∷ denials), []) tt tt) tt
recovers_ask x (Reading start entry denials) b (EntryIs t l e bytes) =
    cond_both CameAsks (is_about_entry x entry b t l e) (after_entry x start entry bytes) (Reading start entry denials, [])
    (write_asks x entry (Copy x.tag x.ledger entry start bytes) tt) tt
recovers_ask x (Copying start entry copied) b (CopyOk t l e) =
    cond_both CameAsks (is_about_entry x entry b t l e) (after_copy x start entry (b ∷ copied)) (Copying start entry copied, [])
    (cond_both CameAsks (acks x.pieces entry (among (b ∷ copied))) (reads x start (entry + 1)) (Copying start entry (b ∷ copied), [])
    (reads_ask x start (entry + 1)) tt) tt
recovers_ask x phase b m = tt

-- behind a phase that was come to
after_move_asks : (x : ledger.RecoveryArgs) (m : LedgerNode) (version : ℕ) (move : Move) → CameAsks move → TellsAsks (ledger.after_move x m version move).1
after_move_asks x m version (Ended count, ts) is = tt
after_move_asks x m version (Exhausted, ts) is = tt
after_move_asks x m version (phase, ts) is = tells_asks ℕ ts is

-- a node that is marked
after_mark_asks : (x : ledger.RecoveryArgs) (m : LedgerNode) (version : ℕ) → TellsAsks (ledger.after_mark x m version).1
after_mark_asks x m version =
    after_move_asks x m version (fences (ledger.subject_of x m)) (last_asks (ledger.subject_of x m) (AskLac x.tag x.ledger true) tt)

-- behind a node that was read
after_node_asks : (x : ledger.RecoveryArgs) (version : ℕ) (m : LedgerNode) (s : LedgerState) → TellsAsks (ledger.after_node x version m s).1
after_node_asks x version m state.Writing = tt
after_node_asks x version m state.Recovering = after_mark_asks x m version
after_node_asks x version m state.Closed = tt

-- the recovery of a ledger at an answer
recovery_answers_ask : (x : ledger.RecoveryArgs) (stage : ledger.RecoveryStage) (a : MetaAnswer) → TellsAsks (ledger.recovery_answers x stage a).1
unfolding ledger.recovery_answers
recovery_answers_ask x (ledger.GettingNode old) (answer.One (Bytes bytes version)) =
    refused_asks (ledger.WasRefused old) (λ m. ledger.after_node x version m m.state) (ledger_node_of x.conf x.ledger bytes)
    (λ m. after_node_asks x version m m.state)
recovery_answers_ask x (ledger.GettingNode old) (answer.Failed place NoNode) = tt
recovery_answers_ask x (ledger.GettingNode old) (answer.Failed place w) = tt
recovery_answers_ask x (ledger.Marking m version) (answer.One (Version now)) = after_mark_asks x (ledger.come_to state.Recovering 0 m) now
recovery_answers_ask x (ledger.Marking m version) (answer.Failed place NoNode) = tt
recovery_answers_ask x (ledger.Marking m version) (answer.Failed place (BadVersion now)) = tt
recovery_answers_ask x (ledger.Marking m version) (answer.Failed place w) = tt
recovery_answers_ask x (ledger.Closing m version count) (answer.One (Version now)) = tt
recovery_answers_ask x (ledger.Closing m version count) (answer.Failed place NoNode) = tt
recovery_answers_ask x (ledger.Closing m version count) (answer.Failed place (BadVersion now)) = tt
recovery_answers_ask x (ledger.Closing m version count) (answer.Failed place w) = tt
recovery_answers_ask x stage a = tt

-- the same at a message of a storage node
recovery_told_asks : (x : ledger.RecoveryArgs) (stage : ledger.RecoveryStage) (b : ℕ) (m : Msg) → TellsAsks (ledger.recovery_told x stage b m).1
recovery_told_asks x (ledger.Searching m version phase) b heard =
    after_move_asks x m version (recovers (ledger.subject_of x m) phase b heard) (recovers_ask (ledger.subject_of x m) phase b heard)
recovery_told_asks x stage b m = tt

-- the same at what it hears
recovery_asks : (x : ledger.RecoveryArgs) (stage : ledger.RecoveryStage) (h : Heard) → TellsAsks (ledger.recovery_hears x stage h).1
unfolding ledger.recovery_hears
recovery_asks x stage (Reply a) = recovery_answers_ask x stage a
recovery_asks x stage (From b m) = recovery_told_asks x stage b m

-- ---- segments

-- behind the last entry
after_end_asks : (x : segment.SegmentArgs) (l : ℕ) (m : LedgerNode) (stage : ReaderStage) → TellsAsks (segment.after_end x l m stage).1
after_end_asks x l m (Fetched bytes) = tt
after_end_asks x l m stage = tt

-- behind a closed ledger
after_closed_asks : (x : segment.SegmentArgs) (l : ℕ) (m : LedgerNode) (count : ℕ) → TellsAsks (segment.after_closed x l m count).1
after_closed_asks x l m zero = tt
after_closed_asks x l m (suc last) =
    tells_asks segment.Recovered (asks_entry (segment.end_subject x l m) last) (write_asks (segment.end_subject x l m) last (AskEntry x.tag l last) tt)

-- behind the recovery of the ledger
after_ledger_asks : (x : segment.SegmentArgs) (l : ℕ) (move : ledger.RecoveryStage × Next ℕ) → TellsAsks move.1
    → TellsAsks (segment.after_ledger x l move).1
after_ledger_asks x l (ledger.IsGone last, next) told = tt
after_ledger_asks x l (ledger.IsClosed m, next) told = after_closed_asks x l m m.count
after_ledger_asks x l (stage, next) told =
    within_asks (segment.RecoveringLedger l) segment.SegmentDone (λ n. (segment.SegmentDone, Wait)) (stage, next) told (λ n. tt)

-- a completion fails
not_completed_asks : (c : Completion) (at : ℕ) (w : Why) → TellsAsks (segment.not_completed c at w).1
not_completed_asks c at w =
    cond_both (λ (m : segment.SegmentStage × Next segment.Recovered). TellsAsks m.1) (segment.is_completed c.member at w) _ _ tt tt

-- the recovery of a segment at an answer
segment_answers_ask : (x : segment.SegmentArgs) (stage : segment.SegmentStage) (a : MetaAnswer) → TellsAsks (segment.segment_answers x stage a).1
unfolding segment.segment_answers
segment_answers_ask x segment.GettingSegment (answer.One (Bytes bytes version)) =
    refused_asks segment.SegmentDone (segment.after_segment x) (segment_of x.stream (Progress x.segment) bytes)
    (λ m. after_ledger_asks x (ledger_of m) (ledger.recovery_first (segment.ledger_args x (ledger_of m))) tt)
segment_answers_ask x segment.GettingSegment (answer.Failed at NoNode) = tt
segment_answers_ask x segment.GettingSegment (answer.Failed at w) = tt
segment_answers_ask x (segment.RecoveringLedger l stage) a =
    after_ledger_asks x l (ledger.recovery_hears (segment.ledger_args x l) stage (Reply a)) (recovery_asks (segment.ledger_args x l) stage (Reply a))
segment_answers_ask x (segment.Completing c) (answer.Failed at w) = not_completed_asks c at w
segment_answers_ask x (segment.Completing c) a = tt
segment_answers_ask x (segment.CheckingSegment l) (answer.Failed at NoNode) = tt
segment_answers_ask x (segment.CheckingSegment l) a = tt
segment_answers_ask x stage a = tt

-- the same at a message of a storage node
segment_told_asks : (x : segment.SegmentArgs) (stage : segment.SegmentStage) (b : ℕ) (m : Msg) → TellsAsks (segment.segment_told x stage b m).1
segment_told_asks x (segment.RecoveringLedger l stage) b m =
    after_ledger_asks x l (ledger.recovery_hears (segment.ledger_args x l) stage (From b m)) (recovery_asks (segment.ledger_args x l) stage (From b m))
segment_told_asks x (segment.FetchingEnd l now stage) b m = after_end_asks x l now (hears (segment.end_subject x l now) stage b m)
segment_told_asks x stage b m = tt

-- the same at what it hears
segment_asks : (x : segment.SegmentArgs) (stage : segment.SegmentStage) (h : Heard) → TellsAsks (segment.segment_hears x stage h).1
unfolding segment.segment_hears
segment_asks x stage (Reply a) = segment_answers_ask x stage a
segment_asks x stage (From b m) = segment_told_asks x stage b m

-- ---- opens and recoveries

-- an allocation begins
allocates_asks : (x : open_order.OpenArgs) (member : List ℕ) (looked : look.Looked) → TellsAsks (open_order.allocates x member looked).1
allocates_asks x member looked =
    cond_both (λ (m : open_order.OpenStage × Next open_order.Opened). TellsAsks m.1) (nat_lt ten_nines (looked.maxseq.segment + 1)) _ _ tt tt

-- behind a look
open_after_asks : (x : open_order.OpenArgs) (member : List ℕ) (looked : look.Looked) (last : Option SegmentName)
    → TellsAsks (open_order.after_look x member looked last).1
open_after_asks x member looked (Some (Progress k)) = tt
open_after_asks x member looked (Some (Completed k)) = allocates_asks x member looked
open_after_asks x member looked None = allocates_asks x member looked

-- the start of a segment
start_asks : (b : Beginning) (a : MetaAnswer) → TellsAsks (open_order.start_answers b a).1
start_asks b (answer.Failed place w) = tt
start_asks b (answer.Many answers) = tt
start_asks b (answer.One x) = tt

-- an open
pub open_asks : (x : open_order.OpenArgs) (stage : open_order.OpenStage) (h : Heard) → TellsAsks (open_order.open_hears x stage h).1
unfolding open_order.open_hears
open_asks x (open_order.Locking stage) h =
    within_asks open_order.Locking open_order.OpenDone (open_order.looks x) (lock.lock_hears x.stream stage h)
    (by_asks stage (lock.lock_answers x.stream stage) h (λ a. lock_answers_ask x.stream stage a)) (λ member. tt)
open_asks x (open_order.LookingFor member stage) h =
    within_asks (open_order.LookingFor member) open_order.OpenDone (λ looked. open_order.after_look x member looked (last_segment looked.segments))
    (look.look_hears x.stream stage h) (look_asks x.stream stage h) (λ looked. open_after_asks x member looked (last_segment looked.segments))
open_asks x (open_order.RecoveringSegment member args stage) h =
    within_asks (open_order.RecoveringSegment member args) open_order.OpenDone (λ r. open_order.looks x member) (segment.segment_hears args stage h)
    (segment_asks args stage h) (λ r. tt)
open_asks x (open_order.Allocating member looked stage) h =
    let args : allocation.AllocationArgs = open_order.allocation_args x member looked in
    within_asks (open_order.Allocating member looked) open_order.OpenDone _ (allocation.allocation_hears args stage h)
    (by_asks stage (allocation.allocation_answers args stage) h (λ a. allocation_answers_ask args stage a)) (λ l. tt)
open_asks x (open_order.Starting b) (Reply a) = start_asks b a
open_asks x (open_order.Starting b) (From bookie m) = tt
open_asks x open_order.OpenDone h = tt

-- behind a segment that is recovered
recovered_asks : (x : recover.RecoverArgs) (args : segment.SegmentArgs) (r : segment.Recovered) → TellsAsks (recover.after_segment x args r).1
recovered_asks x args (segment.ClosedAt count) = tt
recovered_asks x args segment.Again = tt

-- behind a look
recover_after_asks : (x : recover.RecoverArgs) (looked : look.Looked) (last : Option SegmentName) → TellsAsks (recover.after_look x looked last).1
recover_after_asks x looked (Some (Progress k)) = tt
recover_after_asks x looked (Some (Completed k)) = tt
recover_after_asks x looked None = tt

-- the recovery of a stream
pub recover_asks : (x : recover.RecoverArgs) (stage : recover.RecoverStage) (h : Heard) → TellsAsks (recover.recover_hears x stage h).1
unfolding recover.recover_hears
recover_asks x (recover.LookingFor stage) h =
    within_asks recover.LookingFor recover.RecoverDone (λ looked. recover.after_look x looked (last_segment looked.segments))
    (look.look_hears x.stream stage h) (look_asks x.stream stage h) (λ looked. recover_after_asks x looked (last_segment looked.segments))
recover_asks x (recover.RecoveringSegment args stage) h =
    within_asks (recover.RecoveringSegment args) recover.RecoverDone (recover.after_segment x args) (segment.segment_hears args stage h)
    (segment_asks args stage h) (λ r. recovered_asks x args r)
recover_asks x recover.RecoverDone h = tt

-- ---- readers

-- a read's step
abbrev StepAsks : reading.ReadMove → Type 0
StepAsks move = TellsAsks move.1

-- the next segment
walks_ask : (x : reading.ReaderArgs) (r : reading.Read) (rest : List SegmentName) → StepAsks (reading.walks x r rest)
walks_ask x r [] = tt
walks_ask x r (name ∷ rest) = tt

-- the next entry
fetches_ask : (x : reading.ReaderArgs) (r : reading.Read) (w : reading.Walk) (readable entry : ℕ) → StepAsks (reading.fetches x r w readable entry)
fetches_ask x r w readable entry =
    cond_both StepAsks (nat_lt entry readable) (reading.FetchingEntry r w readable entry (Fetching entry), tells (asks_entry w.subject entry))
    (reading.walks x r w.rest)
    (tells_asks (List ReadRow) (asks_entry w.subject entry) (write_asks w.subject entry (AskEntry w.subject.tag w.subject.ledger entry) tt))
    (walks_ask x r w.rest)

-- how many entries can be read is asked
counts_ask : (r : reading.Read) (w : reading.Walk) → StepAsks (reading.counts r w)
counts_ask r w = tells_asks (List ReadRow) (asks_count w.subject) (last_asks w.subject (AskLac w.subject.tag w.subject.ledger false) tt)

-- a segment in progress
progress_asks : (x : reading.ReaderArgs) (r : reading.Read) (w : reading.Walk) (m : LedgerNode) (s : LedgerState) → StepAsks (reading.in_progress x r w m s)
progress_asks x r w m state.Closed = fetches_ask x r w m.count _
progress_asks x r w m state.Writing = counts_ask r w
progress_asks x r w m state.Recovering = counts_ask r w

-- a segment by its node and that of its ledger
reader_ledger_asks : (x : reading.ReaderArgs) (r : reading.Read) (s : SegmentMeta) (rest : List SegmentName) (m : LedgerNode)
    → StepAsks (reading.after_ledger x r s rest m)
reader_ledger_asks x r (meta.Completed number l entries rows last) rest m = fetches_ask x r (reading.walk_of x r number l m rest) entries _
reader_ledger_asks x r (meta.InProgress number l) rest m = progress_asks x r (reading.walk_of x r number l m rest) m m.state

-- a read at an answer
read_answers_ask : (x : reading.ReaderArgs) (stage : reading.ReadStage) (a : MetaAnswer) → StepAsks (reading.read_answers x stage a)
unfolding reading.read_answers
read_answers_ask x (reading.ListingCut r) (answer.Many (Names names ∷ Bytes cut version ∷ [])) =
    refused_asks reading.NoRead (reading.after_list x r (segments_of names)) (point_of x.stream cut)
    (λ point. cond_both StepAsks (nat_lt r.from.cursor.segment (reading.least_segment point (segments_of names))) _ _ tt (walks_ask x r _))
read_answers_ask x (reading.ListingCut r) (answer.Failed at NoNode) = tt
read_answers_ask x (reading.ListingCut r) (answer.Failed at w) = tt
read_answers_ask x (reading.GettingSegment r name rest) (answer.One (Bytes bytes version)) =
    refused_asks reading.NoRead (reading.after_segment x r (number_of name) rest) (segment_of x.stream name bytes) (λ m. tt)
read_answers_ask x (reading.GettingSegment r name rest) (answer.Failed at NoNode) = tt
read_answers_ask x (reading.GettingSegment r name rest) (answer.Failed at w) = tt
read_answers_ask x (reading.GettingLedger r m number rest) (answer.One (Bytes bytes version)) =
    refused_asks reading.NoRead (reading.after_ledger x r m rest) (ledger_node_of x.conf (ledger_of m) bytes) (λ node. reader_ledger_asks x r m rest node)
read_answers_ask x (reading.GettingLedger r m number rest) (answer.Failed at NoNode) =
    cond_both StepAsks (reading.is_gone_again r.gone (ledger_of m)) _ _ tt tt
read_answers_ask x (reading.GettingLedger r m number rest) (answer.Failed at w) = tt
read_answers_ask x stage a = tt

-- how many entries can be read
counted_asks : (x : reading.ReaderArgs) (r : reading.Read) (w : reading.Walk) (stage : ReaderStage) → StepAsks (reading.after_counted x r w stage)
counted_asks x r w (Counted n) = fetches_ask x r w n _
counted_asks x r w stage = tt

-- an entry that has come
fetched_asks : (x : reading.ReaderArgs) (r : reading.Read) (w : reading.Walk) (readable entry : ℕ) (stage : ReaderStage)
    → StepAsks (reading.after_told x r w readable entry stage)
fetched_asks x r w readable entry (Fetched bytes) =
    let q : reading.Read = reading.gathers r (reading.rows_in w.segment entry (entry_at bytes)) in
    cond_both StepAsks (nat_le q.count (length q.rows)) (reading.ends q) (reading.fetches x q w readable (entry + 1)) tt
    (fetches_ask x q w readable (entry + 1))
fetched_asks x r w readable entry stage = tt

-- a read at a message of a storage node
read_told_asks : (x : reading.ReaderArgs) (stage : reading.ReadStage) (b : ℕ) (m : Msg) → StepAsks (reading.read_told x stage b m)
read_told_asks x (reading.CountingEntries r w stage) b m = counted_asks x r w (hears w.subject stage b m)
read_told_asks x (reading.FetchingEntry r w readable entry stage) b m = fetched_asks x r w readable entry (hears w.subject stage b m)
read_told_asks x stage b m = tt

-- a read at what it hears
read_asks : (x : reading.ReaderArgs) (stage : reading.ReadStage) (h : Heard) → StepAsks (reading.read_hears x stage h)
unfolding reading.read_hears
read_asks x stage (Reply a) = read_answers_ask x stage a
read_asks x stage (From b m) = read_told_asks x stage b m

-- a call of a reader
pub reader_asks : (x : reading.ReaderArgs) (n : reading.ReaderNow) (call : reading.LogReaderCall) → TellsAsks (reading.reader_move x n call).1
reader_asks x n (reading.Reads tag count) = tt
reader_asks x n (reading.HearsAll h) = read_asks x n.stage h

-- ---- writers

-- what a call of a log writer tells
abbrev pub MoveAsks : log.LogMove → Type 0
MoveAsks m = AreAsks m.letters

-- the same of a call that may be refused
abbrev pub CallAsks : Result log.LogMove Refusal → Type 0
CallAsks (Ok m) = MoveAsks m
CallAsks (Err r) = Unit {0}

-- entries for these storage nodes
adds_ask : (l entry count : ℕ) (bytes : List ℕ) (bookies : List ℕ) → AreAsks (map (add_to l entry count bytes) bookies)
adds_ask l entry count bytes [] = tt
adds_ask l entry count bytes (b ∷ bs) = (tt, adds_ask l entry count bytes bs)

-- an entry
entry_asks : (v : WriterView) (bytes : List ℕ) → AreAsks (add_letters v bytes)
unfolding add_letters
entry_asks v bytes = adds_ask v.ledger (sent_count v.calls) (confirmed_count v) bytes (members v.pieces (sent_count v.calls))

-- the entry under way
parts_ask : (w : log.LogNow) → MoveAsks (log.sends_parts w)
unfolding log.sends_parts
parts_ask w = entry_asks w.ledger _

-- a control entry
control_asks : (w : log.LogNow) → MoveAsks (log.sends_control w)
unfolding log.sends_control
control_asks w = entry_asks w.ledger _

-- what a mode does next
mode_asks : (w : log.LogNow) (mode : log.LogMode) → MoveAsks (log.mode_goes_on w mode)
mode_asks w (log.Committing None) = cond_both MoveAsks (log.all_confirmed w) (log.sends_control w) (log.stays w) (control_asks w) tt
mode_asks w (log.Committing (Some n)) = cond_both MoveAsks (nat_lt n (log.confirmed_count w)) _ (log.stays w) tt tt
mode_asks w log.Closing = cond_both MoveAsks (log.all_confirmed w) _ (log.stays w) tt tt
mode_asks w mode = tt

-- a writer goes on
goes_ask : (w : log.LogNow) → MoveAsks (log.goes_on w)
unfolding log.goes_on
goes_ask w = cond_both MoveAsks (is_some (log.fenced_at w)) (log.stays w) (log.mode_goes_on w w.mode) tt (mode_asks w w.mode)

-- a move that goes on after another
then_asks : (m : log.LogMove) → MoveAsks m → MoveAsks (log.then_goes_on m)
then_asks m is = all-append IsAskTold m.letters (log.goes_on m.now).letters is (goes_ask m.now)

-- a call that may be refused
unless_asks : (why : Option Refusal) (m : log.LogMove) → MoveAsks m → CallAsks (log.unless why m)
unless_asks None m is = is
unless_asks (Some r) m is = tt

-- room is made
room_asks : (w : log.LogNow) (size : ℕ) → MoveAsks (log.makes_room w size)
room_asks w size = cond_both MoveAsks (log.fits w size) (log.stays w) (log.sends_parts w) tt (parts_ask w)

-- what was taken is sent
flush_asks : (w : log.LogNow) → MoveAsks (log.flushes w)
flush_asks w = cond_both MoveAsks (log.has_parts w) (log.sends_parts w) (log.stays w) (parts_ask w) tt

-- a record
pub appends_ask : (w : log.LogNow) (o : Origin) (txid : ℕ) (payload : List ℕ) → CallAsks (log.appends w o txid payload)
unfolding log.appends
appends_ask w o txid payload = unless_asks (log.take_fault w (length payload) txid) _ (room_asks w (length payload))

-- a set of records
pub sets_ask : (w : log.LogNow) (o : Origin) (txid : ℕ) (payloads : List (List ℕ)) → CallAsks (log.appends_set w o txid payloads)
unfolding log.appends_set
sets_ask w o txid payloads = unless_asks (log.take_fault w (log.set_size payloads) txid) _ (room_asks w (log.set_size payloads))

-- a flush
pub flushes_ask : (w : log.LogNow) → CallAsks (log.log_flushes w)
unfolding log.log_flushes
flushes_ask w = unless_asks (log.send_fault w (log.has_parts w)) _ (flush_asks (log.in_mode (log.past_commit w.mode) w))

-- a commit
pub commits_ask : (w : log.LogNow) → CallAsks (log.commits w)
unfolding log.commits
commits_ask w =
    unless_asks (log.send_fault w (log.has_parts w)) _
    (then_asks (log.flushes (log.in_mode (log.Committing None) w)) (flush_asks (log.in_mode (log.Committing None) w)))

-- a close
pub closes_ask : (w : log.LogNow) → CallAsks (log.closes w)
unfolding log.closes
closes_ask w = unless_asks (log.send_fault w (log.has_parts w)) _ (then_asks (log.flushes (log.in_mode log.Closing w)) (flush_asks (log.in_mode log.Closing w)))

-- a message that is heard
pub log_hears_ask : (w : log.LogNow) (b : ℕ) (m : Msg) → MoveAsks (log.log_hears w b m)
unfolding log.log_hears
log_hears_ask w b m = then_asks (log.heard_by w b m) tt

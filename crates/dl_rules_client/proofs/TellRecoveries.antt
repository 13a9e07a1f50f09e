-- Recoveries, opens and readers tell storage nodes of the configuration.
use Rattle.std.proofs.Common.{◌≡◌, ℕ, zero, suc, ◌+◌, ◌≤◌, Bool, true, false, cond, List, [], ◌∷◌, length, Option, Some, None, Result, Ok, Err, refl, subst}
use Rattle.std.proofs.Common.{arith}
use Rattle.std.specs.Prelude.{nat_lt, nat_le}
use Rattle.std.specs.List.{AllByRecursion}
use Rattle.dl_types.specs.declared.dlsn.Dlsn.{Dlsn}
use Rattle.dl_types.specs.declared.read_row.ReadRow.{ReadRow}
use Rattle.dl_types.specs.declared.refusal.Refusal.TheVariants as refused
use Rattle.dl_types.specs.declared.meta_answer.MetaAnswer.{MetaAnswer}
use Rattle.dl_types.specs.declared.meta_answer.MetaAnswer.TheVariants as answer
use Rattle.dl_types.specs.declared.one_answer.OneAnswer.TheVariants.{Names, Bytes, Version}
use Rattle.dl_types.specs.declared.why.Why.{Why}
use Rattle.dl_types.specs.declared.why.Why.TheVariants.{NoNode, BadVersion}
use Rattle.dl_quorum.specs.Pieces.{acks, blocks, covers}
use Rattle.dl_msg.specs.declared.heard.Heard.{Heard}
use Rattle.dl_msg.specs.declared.heard.Heard.TheVariants.{Reply, From}
use Rattle.dl_msg.specs.declared.msg.Msg.{Msg}
use Rattle.dl_msg.specs.declared.msg.Msg.TheVariants.{AskEntry, AskLac, Copy, LacIs, EntryIs, NoEntry, CopyOk}
use Rattle.dl_formats.specs.declared.ledger.LedgerState.{LedgerState}
use Rattle.dl_formats.specs.declared.ledger.LedgerState.TheVariants as state
use Rattle.dl_formats.specs.declared.segment.SegmentMeta.{SegmentMeta}
use Rattle.dl_formats.specs.declared.segment.SegmentMeta.TheVariants as meta
use Rattle.dl_formats.specs.declared.segment_name.SegmentName.{SegmentName}
use Rattle.dl_formats.specs.declared.segment_name.SegmentName.TheVariants.{Progress, Completed}
use Rattle.dl_formats.specs.Keys.{Ledger, MaxSeq, path_of}
use Rattle.dl_formats.specs.NodeBytes.{ten_nines}
use Rattle.dl_fields.specs.Paths.{IsPathField}
use Rattle.dl_text.specs.NameFields.{IsName}
use Rattle.dl_text.specs.PlaceFields.{IsPlaceFrom}
use Rattle.dl_schedule.specs.StepLines.{IsCount}
use Rattle.dl_quorum.specs.Pieces.{members, last_piece}
use Rattle.dl_rules_ledger.specs.Subjects.{Subject, among, has_answered, known_count, tell_write_set, tell_last_piece, is_about, is_about_entry}
use Rattle.dl_rules_ledger.specs.Readers.{ReaderStage, Counted, Fetching, Fetched, asks_count, asks_entry, hears}
use Rattle.dl_rules_ledger.specs.Recoveries.{greatest_entry, Phase, Fencing, Reading, Copying, Ended, Exhausted, Move, fences, reads, after_answer}
use Rattle.dl_rules_ledger.specs.Recoveries.{after_denial, after_entry, after_copy, recovers}
use Rattle.dl_rules_stream.specs.Nodes.{LedgerNode}
use Rattle.dl_rules_stream.specs.Orders.{Next, Wait, Refused, tells, or_refused, no_way_on}
use Rattle.dl_rules_stream.specs.Listings.{last_segment, ledger_of, ledger_node_of, segment_of, segments_of, number_of, point_of}
use Rattle.dl_rules_stream.specs.LedgerRecoveries as ledger
use Rattle.dl_rules_stream.specs.SegmentRecoveries as segment
use Rattle.dl_rules_stream.specs.Opens as open_order
use Rattle.dl_rules_stream.specs.Recovers as recover
use Rattle.dl_rules_stream.specs.LogReaders as reading
use Rattle.dl_record.specs.Reading.{entry_at}
use Rattle.dl_types.specs.declared.refusal.Refusal.{Refusal}
use Rattle.dl_msg.specs.declared.letters.Told.{Told}
use Rattle.dl_schedule.specs.declared.up_to.TheConstants.{MAX_ROWS}
use Rattle.dl_transcript.specs.Ranges.{IsU64, IsRefusal}
use Rattle.dl_rules_stream.specs.Requests.{Request, Beginning, Completion, GetLedger, MarkLedger}
use Rattle.dl_rules_stream.specs.Requests.{CloseLedger, GetSegment, StartSegment, CompleteSegment, ListCut}
use Rattle.dl_rules_stream.specs.Locks.{lock_hears}
use Rattle.dl_rules_stream.specs.Looks.{Looked, look_hears}
use Rattle.dl_rules_stream.specs.Allocations.{AllocationStage, allocation_hears}
use Rattle.dl_rules_client.specs.EventRanges.{RequestFits, AnswerFits, WhyFits, MsgFits}
use Rattle.dl_rules_client.proofs.RangeLists.{Any, cond_both}
use Rattle.dl_rules_client.proofs.NextRanges.{HeardFits, NextFits}
use Rattle.dl_rules_client.proofs.NodeRanges.{SegmentFits}
use Rattle.dl_rules_client.proofs.RowRanges.{GatheredFits, GivenFits, given_fits, begun_fits, gathers_fit, entry_rows_fit, FetchFits, fetch_fits}
use Rattle.dl_rules_client.proofs.RowRanges.{about_entry}
use Rattle.dl_rules_client.proofs.PathRanges.{key_has_form, no_way_fits}
use Rattle.dl_rules_client.proofs.RecoveryRanges.{SegmentArgsFit, CompletionFits, SegmentStageFits}
use Rattle.dl_rules_client.proofs.OpenRanges.{BeginningFits, OpenArgsFit, OpenStageFits, RecoverArgsFit, RecoverStageFits}
use Rattle.dl_rules_client.proofs.TellRanges.{ToldFits, TellsFit, SubjectFits, subject_fits, each_told, tells_fit, within_told, refused_such}
use Rattle.dl_rules_client.proofs.TellRanges.{refused_told, lock_told}
use Rattle.dl_rules_client.proofs.TellRanges.{look_told, allocation_told, ResultFits, point_refused, segment_refused, ledger_refused, any_place}

-- messages for a write set
write_told : (x : Subject) (entry : ℕ) (m : Msg) → MsgFits m → SubjectFits x → AllByRecursion ToldFits (tell_write_set x entry m)
write_told x entry m fits is = each_told (members x.pieces entry) m fits (is.each entry)

-- messages for the last piece
last_told : (x : Subject) (m : Msg) → MsgFits m → SubjectFits x → AllByRecursion ToldFits (tell_last_piece x m)
last_told x m fits is = each_told (last_piece x.pieces).members m fits is.last

-- ---- ledgers

-- what is told on the way to a phase
abbrev CameTold : Move → Type 0
CameTold move = AllByRecursion ToldFits move.1

-- an entry is asked of its write set
reads_told : (x : Subject) (start entry : ℕ) → SubjectFits x → CameTold (reads x start entry)
reads_told x start entry is =
    cond_both CameTold (nat_le entry greatest_entry) (Reading start entry [], tell_write_set x entry (AskEntry x.tag x.ledger entry)) (Exhausted, [])
    (write_told x entry (AskEntry x.tag x.ledger entry) tt is) tt

-- what a recovery tells at a message of a bookie
recovers_told : (x : Subject) (phase : Phase) (b : ℕ) (m : Msg) → SubjectFits x → MsgFits m → CameTold (recovers x phase b m)
unfolding recovers
recovers_told x (Fencing answers) b (LacIs t l true n) is fit =
    let counted : ℕ = known_count x ((b, n) ∷ answers) in
    cond_both CameTold (is_about x b t l) (after_answer x ((b, n) ∷ answers)) (Fencing answers, [])
    (cond_both CameTold (covers x.pieces (has_answered ((b, n) ∷ answers))) (reads x counted counted) (Fencing ((b, n) ∷ answers), [])
    (reads_told x counted counted is) tt) tt
recovers_told x (Reading start entry denials) b (NoEntry t l e true) is fit =
    cond_both CameTold (is_about_entry x entry b t l e) (after_denial x start entry (b ∷ denials)) (Reading start entry denials, [])
    (cond_both CameTold (blocks x.pieces entry (among (b ∷ denials))) (Ended entry, []) (Reading start entry (b ∷ denials), []) tt tt) tt
recovers_told x (Reading start entry denials) b (EntryIs t l e bytes) is fit = go (is_about_entry x entry b t l e) refl
  where
    go : (held : Bool) → is_about_entry x entry b t l e ≡ held → CameTold (cond held (after_entry x start entry bytes) (Reading start entry denials, []))
    go true same = write_told x entry (Copy x.tag x.ledger entry start bytes) (subst IsU64 (about_entry x entry b t l e same) fit.0, fit.1) is
    go false other = tt
recovers_told x (Copying start entry copied) b (CopyOk t l e) is fit =
    cond_both CameTold (is_about_entry x entry b t l e) (after_copy x start entry (b ∷ copied)) (Copying start entry copied, [])
    (cond_both CameTold (acks x.pieces entry (among (b ∷ copied))) (reads x start (entry + 1)) (Copying start entry (b ∷ copied), [])
    (reads_told x start (entry + 1) is) tt) tt
recovers_told x phase b m is fit = tt

-- behind a phase that was come to
after_move_told : (x : ledger.RecoveryArgs) (m : LedgerNode) (version : ℕ) (move : Move) → CameTold move → TellsFit (ledger.after_move x m version move).1
after_move_told x m version (Ended count, letters) is = tt
after_move_told x m version (Exhausted, letters) is = key_has_form (Ledger x.ledger) tt
after_move_told x m version (phase, letters) is = tells_fit ℕ letters is

-- what messages about a ledger are about
about_fits : (x : ledger.RecoveryArgs) (m : LedgerNode) → IsCount x.conf.b → SubjectFits (ledger.subject_of x m)
about_fits x m is = subject_fits x.tag x.ledger x.conf.b m.q is

-- a node that is marked
after_mark_told : (x : ledger.RecoveryArgs) (m : LedgerNode) (version : ℕ) → IsCount x.conf.b → TellsFit (ledger.after_mark x m version).1
after_mark_told x m version is =
    after_move_told x m version (fences (ledger.subject_of x m)) (last_told (ledger.subject_of x m) (AskLac x.tag x.ledger true) tt (about_fits x m is))

-- behind a node that was read
after_node_told : (x : ledger.RecoveryArgs) (version : ℕ) (m : LedgerNode) (s : LedgerState) → IsCount x.conf.b → TellsFit (ledger.after_node x version m s).1
after_node_told x version m state.Writing is = tt
after_node_told x version m state.Recovering is = after_mark_told x m version is
after_node_told x version m state.Closed is = tt

-- what it does at an answer
recovery_answers_told : (x : ledger.RecoveryArgs) (stage : ledger.RecoveryStage) (a : MetaAnswer) → IsCount x.conf.b → AnswerFits a
    → TellsFit (ledger.recovery_answers x stage a).1
unfolding ledger.recovery_answers
recovery_answers_told x (ledger.GettingNode old) (answer.One (Bytes bytes version)) is fit =
    refused_told (ledger.WasRefused old) (λ m. ledger.after_node x version m m.state) (ledger_node_of x.conf x.ledger bytes)
    (ledger_refused x.conf x.ledger bytes)
    (λ m. after_node_told x version m m.state is)
recovery_answers_told x (ledger.GettingNode old) (answer.Failed place NoNode) is fit = key_has_form (Ledger x.ledger) tt
recovery_answers_told x (ledger.GettingNode old) (answer.Failed place w) is fit = no_way_fits (GetLedger x.ledger) place w tt fit
recovery_answers_told x (ledger.Marking m version) (answer.One (Version now)) is fit = after_mark_told x (ledger.come_to state.Recovering 0 m) now is
recovery_answers_told x (ledger.Marking m version) (answer.Failed place NoNode) is fit = key_has_form (Ledger x.ledger) tt
recovery_answers_told x (ledger.Marking m version) (answer.Failed place (BadVersion now)) is fit = tt
recovery_answers_told x (ledger.Marking m version) (answer.Failed place w) is fit = no_way_fits (MarkLedger x.ledger m.q version) place w tt fit
recovery_answers_told x (ledger.Closing m version count) (answer.One (Version now)) is fit = tt
recovery_answers_told x (ledger.Closing m version count) (answer.Failed place NoNode) is fit = key_has_form (Ledger x.ledger) tt
recovery_answers_told x (ledger.Closing m version count) (answer.Failed place (BadVersion now)) is fit = tt
recovery_answers_told x (ledger.Closing m version count) (answer.Failed place w) is fit = no_way_fits (CloseLedger x.ledger m.q count version) place w tt fit
recovery_answers_told x stage a is fit = tt

-- what it does at a message of a bookie
recovery_heard_told : (x : ledger.RecoveryArgs) (stage : ledger.RecoveryStage) (b : ℕ) (m : Msg) → IsCount x.conf.b → MsgFits m
    → TellsFit (ledger.recovery_told x stage b m).1
recovery_heard_told x (ledger.Searching m version phase) b msg is fit =
    after_move_told x m version (recovers (ledger.subject_of x m) phase b msg) (recovers_told (ledger.subject_of x m) phase b msg (about_fits x m is) fit)
recovery_heard_told x stage b m is fit = tt

-- what it does at what it hears
recovery_told : (x : ledger.RecoveryArgs) (stage : ledger.RecoveryStage) (h : Heard) → IsCount x.conf.b → HeardFits h
    → TellsFit (ledger.recovery_hears x stage h).1
unfolding ledger.recovery_hears
recovery_told x stage (Reply a) is fit = recovery_answers_told x stage a is fit
recovery_told x stage (From b m) is fit = recovery_heard_told x stage b m is fit

-- ---- segments

-- behind the last entry
after_end_told : (x : segment.SegmentArgs) (l : ℕ) (m : LedgerNode) (stage : ReaderStage) → SegmentArgsFit x → TellsFit (segment.after_end x l m stage).1
after_end_told x l m (Fetched bytes) args = (args.stream, args.member)
after_end_told x l m stage args = tt

-- behind a closed ledger
after_closed_told : (x : segment.SegmentArgs) (l : ℕ) (m : LedgerNode) (count : ℕ) → SegmentArgsFit x → TellsFit (segment.after_closed x l m count).1
after_closed_told x l m zero args = (args.stream, args.member)
after_closed_told x l m (suc last) args =
    tells_fit segment.Recovered (asks_entry (segment.end_subject x l m) last)
    (write_told (segment.end_subject x l m) last (AskEntry x.tag l last) tt (about_fits (segment.ledger_args x l) m args.count))

-- behind the recovery of the ledger
after_ledger_told : (x : segment.SegmentArgs) (l : ℕ) (move : ledger.RecoveryStage × Next ℕ) → SegmentArgsFit x → TellsFit move.1
    → TellsFit (segment.after_ledger x l move).1
after_ledger_told x l (ledger.IsGone last, next) args told = args.stream
after_ledger_told x l (ledger.IsClosed m, next) args told = after_closed_told x l m m.count args
after_ledger_told x l (stage, next) args told =
    within_told (segment.RecoveringLedger l) segment.SegmentDone (λ n. (segment.SegmentDone, Wait)) (stage, next) told (λ n. tt)

-- a completion fails
not_completed_told : (c : Completion) (at : ℕ) (w : Why) → CompletionFits c → WhyFits w → TellsFit (segment.not_completed c at w).1
not_completed_told c at w is why =
    cond_both (λ (m : segment.SegmentStage × Next segment.Recovered). TellsFit m.1) (segment.is_completed c.member at w) _ _ tt
    (no_way_fits (CompleteSegment c) at w (is.stream, is.member) why)

-- what it does at an answer
segment_answers_told : (x : segment.SegmentArgs) (stage : segment.SegmentStage) (a : MetaAnswer) → SegmentArgsFit x → SegmentStageFits stage → AnswerFits a
    → TellsFit (segment.segment_answers x stage a).1
unfolding segment.segment_answers
segment_answers_told x segment.GettingSegment (answer.One (Bytes bytes version)) args is fit =
    refused_such segment.SegmentDone (segment.after_segment x) (segment_of x.stream (Progress x.segment) bytes) SegmentFits
    (segment_refused x.stream (Progress x.segment) bytes args.stream)
    (λ m its. after_ledger_told x (ledger_of m) (ledger.recovery_first (segment.ledger_args x (ledger_of m))) args tt)
segment_answers_told x segment.GettingSegment (answer.Failed at NoNode) args is fit = tt
segment_answers_told x segment.GettingSegment (answer.Failed at w) args is fit = no_way_fits (segment.gets x) at w args.stream fit
segment_answers_told x (segment.RecoveringLedger l stage) a args is fit =
    after_ledger_told x l (ledger.recovery_hears (segment.ledger_args x l) stage (Reply a)) args
    (recovery_told (segment.ledger_args x l) stage (Reply a) args.count fit)
segment_answers_told x (segment.Completing c) (answer.Failed at w) args is fit = not_completed_told c at w is fit
segment_answers_told x (segment.Completing c) a args is fit = tt
segment_answers_told x (segment.CheckingSegment l) (answer.Failed at NoNode) args is fit = tt
segment_answers_told x (segment.CheckingSegment l) a args is fit = key_has_form (Ledger l) tt
segment_answers_told x stage a args is fit = tt

-- what it does at a message of a bookie
segment_heard_told : (x : segment.SegmentArgs) (stage : segment.SegmentStage) (b : ℕ) (m : Msg) → SegmentArgsFit x → MsgFits m
    → TellsFit (segment.segment_told x stage b m).1
segment_heard_told x (segment.RecoveringLedger l stage) b m args fit =
    after_ledger_told x l (ledger.recovery_hears (segment.ledger_args x l) stage (From b m)) args
    (recovery_told (segment.ledger_args x l) stage (From b m) args.count fit)
segment_heard_told x (segment.FetchingEnd l now stage) b m args fit = after_end_told x l now (hears (segment.end_subject x l now) stage b m) args
segment_heard_told x stage b m args fit = tt

-- what it does at what it hears
segment_told : (x : segment.SegmentArgs) (stage : segment.SegmentStage) (h : Heard) → SegmentArgsFit x → SegmentStageFits stage → HeardFits h
    → TellsFit (segment.segment_hears x stage h).1
unfolding segment.segment_hears
segment_told x stage (Reply a) args is fit = segment_answers_told x stage a args is fit
segment_told x stage (From b m) args is fit = segment_heard_told x stage b m args fit

-- ---- opens

-- a look
open_looks_told : (x : open_order.OpenArgs) (member : List ℕ) → IsName x.stream → TellsFit (open_order.looks x member).1
open_looks_told x member name = name

-- the recovery of a segment
open_goes_told : (x : open_order.OpenArgs) (member : List ℕ) (args : segment.SegmentArgs) (move : segment.SegmentStage × Next segment.Recovered)
    → IsName x.stream → TellsFit move.1 → TellsFit (open_order.segment_goes x member args move).1
open_goes_told x member args move name is =
    within_told (open_order.RecoveringSegment member args) open_order.OpenDone (λ r. open_order.looks x member) move is (λ r. name)

-- an allocation
open_allocation_told : (x : open_order.OpenArgs) (member : List ℕ) (looked : Looked) (version : ℕ) (move : AllocationStage × Next ℕ)
    → IsName x.stream → IsPathField member → TellsFit move.1 → TellsFit (open_order.allocation_goes x member looked version move).1
open_allocation_told x member looked version move name own is =
    within_told (open_order.Allocating member looked) open_order.OpenDone _ move is (λ l. (name, own))

-- an allocation begins
allocates_told : (x : open_order.OpenArgs) (member : List ℕ) (looked : Looked) → IsName x.stream → TellsFit (open_order.allocates x member looked).1
allocates_told x member looked name =
    cond_both (λ (m : open_order.OpenStage × Next open_order.Opened). TellsFit m.1) (nat_lt ten_nines (looked.maxseq.segment + 1)) _ _
    (key_has_form (MaxSeq x.stream) name) tt

-- behind a look
open_after_told : (x : open_order.OpenArgs) (member : List ℕ) (looked : Looked) (last : Option SegmentName) → IsName x.stream
    → TellsFit (open_order.after_look x member looked last).1
open_after_told x member looked (Some (Progress k)) name = name
open_after_told x member looked (Some (Completed k)) name = allocates_told x member looked name
open_after_told x member looked None name = allocates_told x member looked name

-- the start of a segment
start_told : (b : Beginning) (a : MetaAnswer) → BeginningFits b → AnswerFits a → TellsFit (open_order.start_answers b a).1
start_told b (answer.Failed place w) is fit = no_way_fits (StartSegment b) place w (is.stream, is.member) fit
start_told b (answer.Many answers) is fit = tt
start_told b (answer.One x) is fit = tt

-- what an open tells at what it hears
pub open_told : (x : open_order.OpenArgs) (stage : open_order.OpenStage) (h : Heard) → OpenArgsFit x → OpenStageFits stage → HeardFits h
    → TellsFit (open_order.open_hears x stage h).1
unfolding open_order.open_hears
open_told x (open_order.Locking stage) h args is fit =
    within_told open_order.Locking open_order.OpenDone (open_order.looks x) (lock_hears x.stream stage h) (lock_told x.stream stage h args.stream is fit)
    (λ member. args.stream)
open_told x (open_order.LookingFor member stage) h args is fit =
    within_told (open_order.LookingFor member) open_order.OpenDone (λ looked. open_order.after_look x member looked (last_segment looked.segments))
    (look_hears x.stream stage h) (look_told x.stream stage h args.stream fit)
    (λ looked. open_after_told x member looked (last_segment looked.segments) args.stream)
open_told x (open_order.RecoveringSegment member args stage) h own is fit =
    open_goes_told x member args (segment.segment_hears args stage h) own.stream (segment_told args stage h is.1.0 is.1.1 fit)
open_told x (open_order.Allocating member looked stage) h args is fit =
    open_allocation_told x member looked (open_order.alloc_version_in h) (allocation_hears (open_order.allocation_args x member looked) stage h)
    args.stream is.0 (allocation_told (open_order.allocation_args x member looked) stage h (args.stream, is.0) fit)
open_told x (open_order.Starting b) (Reply a) args is fit = start_told b a is fit
open_told x (open_order.Starting b) (From bookie m) args is fit = tt
open_told x open_order.OpenDone h args is fit = tt

-- ---- recoveries

-- behind a segment that is recovered
recovered_told : (x : recover.RecoverArgs) (args : segment.SegmentArgs) (r : segment.Recovered) → IsName x.stream
    → TellsFit (recover.after_segment x args r).1
recovered_told x args (segment.ClosedAt count) name = tt
recovered_told x args segment.Again name = name

-- behind a look
recover_after_told : (x : recover.RecoverArgs) (looked : Looked) (last : Option SegmentName) → IsName x.stream
    → TellsFit (recover.after_look x looked last).1
recover_after_told x looked (Some (Progress k)) name = name
recover_after_told x looked (Some (Completed k)) name = tt
recover_after_told x looked None name = tt

-- what a recovery of a stream tells at what it hears
pub recover_told : (x : recover.RecoverArgs) (stage : recover.RecoverStage) (h : Heard) → RecoverArgsFit x → RecoverStageFits stage → HeardFits h
    → TellsFit (recover.recover_hears x stage h).1
unfolding recover.recover_hears
recover_told x (recover.LookingFor stage) h args is fit =
    within_told recover.LookingFor recover.RecoverDone (λ looked. recover.after_look x looked (last_segment looked.segments))
    (look_hears x.stream stage h) (look_told x.stream stage h args.stream fit)
    (λ looked. recover_after_told x looked (last_segment looked.segments) args.stream)
recover_told x (recover.RecoveringSegment args stage) h own is fit =
    within_told (recover.RecoveringSegment args) recover.RecoverDone (recover.after_segment x args) (segment.segment_hears args stage h)
    (segment_told args stage h is.0 is.1 fit) (λ r. recovered_told x args r own.stream)
recover_told x recover.RecoverDone h args is fit = tt

-- ---- readers

-- A segment that is walked has at most ten digits, and its ledger is one of the configuration.
pub record WalkFits (w : reading.Walk) : Type 0 where
  pub segment : w.segment ≤ ten_nines
  pub subject : SubjectFits w.subject

-- what a read has gathered, and the segment that it walks
abbrev pub ReadStageFits : reading.ReadStage → Type 0
ReadStageFits reading.NoRead = Unit {0}
ReadStageFits (reading.ListingCut r) = GatheredFits r
ReadStageFits (reading.GettingSegment r name rest) = GatheredFits r
ReadStageFits (reading.GettingLedger r m number rest) = GatheredFits r × SegmentFits m
ReadStageFits (reading.CountingEntries r w stage) = GatheredFits r × WalkFits w
ReadStageFits (reading.FetchingEntry r w readable entry stage) = GatheredFits r × (WalkFits w × FetchFits entry stage)

-- A stage of a read, what it tells, and the rows that it gives.
pub record ReadFits (move : reading.ReadMove) : Type 0 where
  pub stage : ReadStageFits move.0
  pub tells : TellsFit move.1
  pub gives : NextFits GivenFits move.1

-- A reader is of a stream, in a world of 1 to 16 storage nodes.
pub record ReaderArgsFit (x : reading.ReaderArgs) : Type 0 where
  pub count : IsCount x.conf.b
  pub stream : IsName x.stream

-- a read that waits
read_waits : (stage : reading.ReadStage) → ReadStageFits stage → ReadFits (stage, Wait)
read_waits stage is = record { stage = is; tells = tt; gives = tt }

-- a read that is refused
read_refused : (why : Refusal) → IsRefusal why → ReadFits (reading.NoRead, Refused why)
read_refused why is = record { stage = tt; tells = is; gives = tt }

-- messages hand nothing on
tells_give : (letters : List Told) → NextFits GivenFits (tells letters)
tells_give [] = tt
tells_give (t ∷ ts) = tt

-- a read begins, or begins again
begins_fit : (x : reading.ReaderArgs) (r : reading.Read) (before : Option ℕ) → ReaderArgsFit x → r.count ≤ MAX_ROWS → ReadFits (reading.begins x r before)
begins_fit x r before args few = record { stage = begun_fits r before few; tells = args.stream; gives = tt }

-- the next segment
walks_fit : (x : reading.ReaderArgs) (r : reading.Read) (rest : List SegmentName) → ReaderArgsFit x → GatheredFits r → ReadFits (reading.walks x r rest)
walks_fit x r [] args is = record { stage = tt; tells = tt; gives = given_fits r is }
walks_fit x r (name ∷ rest) args is = record { stage = is; tells = args.stream; gives = tt }

-- the next entry
fetches_fit : (x : reading.ReaderArgs) (r : reading.Read) (w : reading.Walk) (readable entry : ℕ) → ReaderArgsFit x → GatheredFits r → WalkFits w
    → ReadFits (reading.fetches x r w readable entry)
fetches_fit x r w readable entry args is walk =
    cond_both ReadFits (nat_lt entry readable) (reading.FetchingEntry r w readable entry (Fetching entry), tells (asks_entry w.subject entry))
    (reading.walks x r w.rest)
    (record {
      stage = (is, (walk, refl));
      tells = tells_fit (List ReadRow) (asks_entry w.subject entry)
          (write_told w.subject entry (AskEntry w.subject.tag w.subject.ledger entry) tt walk.subject);
      gives = tells_give (asks_entry w.subject entry);
    })
    (walks_fit x r w.rest args is)

-- how many entries can be read is asked
counts_fit : (r : reading.Read) (w : reading.Walk) → GatheredFits r → WalkFits w → ReadFits (reading.counts r w)
counts_fit r w is walk = record {
  stage = (is, record { segment = walk.segment; subject = walk.subject });
  tells = tells_fit (List ReadRow) (asks_count w.subject) (last_told w.subject (AskLac w.subject.tag w.subject.ledger false) tt walk.subject);
  gives = tells_give (asks_count w.subject);
}

-- a segment in progress
in_progress_fits : (x : reading.ReaderArgs) (r : reading.Read) (w : reading.Walk) (m : LedgerNode) (s : LedgerState) → ReaderArgsFit x → GatheredFits r
    → WalkFits w → ReadFits (reading.in_progress x r w m s)
in_progress_fits x r w m state.Closed args is walk = fetches_fit x r w m.count _ args is walk
in_progress_fits x r w m state.Writing args is walk = counts_fit r w is walk
in_progress_fits x r w m state.Recovering args is walk = counts_fit r w is walk

-- a segment by its node and that of its ledger
reader_ledger_fits : (x : reading.ReaderArgs) (r : reading.Read) (s : SegmentMeta) (rest : List SegmentName) (m : LedgerNode) → ReaderArgsFit x
    → GatheredFits r → SegmentFits s → ReadFits (reading.after_ledger x r s rest m)
reader_ledger_fits x r (meta.Completed number l entries rows last) rest m args is few =
    fetches_fit x r (reading.walk_of x r number l m rest) entries _ args is
    (record { segment = few; subject = subject_fits r.tag l x.conf.b m.q args.count })
reader_ledger_fits x r (meta.InProgress number l) rest m args is few =
    in_progress_fits x r (reading.walk_of x r number l m rest) m m.state args is
    (record { segment = few; subject = subject_fits r.tag l x.conf.b m.q args.count })

-- a reading that may be refused
read_or_refused : {A : Type 0} (go_on : A → reading.ReadMove) (r : Result A Refusal) (P : A → Type 0) → ResultFits r P
    → ((a : A) → P a → ReadFits (go_on a)) → ReadFits (or_refused reading.NoRead go_on r)
read_or_refused go_on (Ok a) P is h = h a is
read_or_refused go_on (Err why) P is h = read_refused why is

-- the segments from the cursor's on
list_fits : (x : reading.ReaderArgs) (r : reading.Read) (names : List SegmentName) (point : Dlsn) → ReaderArgsFit x → GatheredFits r → IsPlaceFrom 1 point
    → ReadFits (reading.after_list x r names point)
list_fits x r names point args is at =
    cond_both ReadFits (nat_lt r.from.cursor.segment (reading.least_segment point names)) (reading.NoRead, Refused (refused.Truncated point)) _
    (read_refused (refused.Truncated point) (any_place point at)) (walks_fit x r _ args is)

-- a ledger's node is gone
gone_fits : (x : reading.ReaderArgs) (r : reading.Read) (l : ℕ) → ReaderArgsFit x → GatheredFits r → ReadFits (reading.after_gone x r l)
gone_fits x r l args is =
    cond_both ReadFits (reading.is_gone_again r.gone l) (reading.NoRead, Refused (refused.GaveUp (path_of (Ledger l)))) _
    (read_refused (refused.GaveUp (path_of (Ledger l))) (key_has_form (Ledger l) tt)) (begins_fit x r (Some l) args is.count)

-- no way on ends a read
read_no_way : (q : Request) (at : ℕ) (w : Why) → RequestFits q → WhyFits w → ReadFits (reading.NoRead, Refused (no_way_on q at w))
read_no_way q at w is why = read_refused (no_way_on q at w) (no_way_fits q at w is why)

-- what a read does at an answer
read_answers_fit : (x : reading.ReaderArgs) (stage : reading.ReadStage) (a : MetaAnswer) → ReaderArgsFit x → ReadStageFits stage → AnswerFits a
    → ReadFits (reading.read_answers x stage a)
unfolding reading.read_answers
read_answers_fit x (reading.ListingCut r) (answer.Many (Names names ∷ Bytes cut version ∷ [])) args is fit =
    read_or_refused (reading.after_list x r (segments_of names)) (point_of x.stream cut) (IsPlaceFrom 1)
    (point_refused x.stream cut args.stream fit.1.0) (λ point at. list_fits x r (segments_of names) point args is at)
read_answers_fit x (reading.ListingCut r) (answer.Failed at NoNode) args is fit = read_refused refused.NoStream tt
read_answers_fit x (reading.ListingCut r) (answer.Failed at w) args is fit = read_no_way (ListCut x.stream) at w args.stream fit
read_answers_fit x (reading.GettingSegment r name rest) (answer.One (Bytes bytes version)) args is fit =
    read_or_refused (reading.after_segment x r (number_of name) rest) (segment_of x.stream name bytes) SegmentFits
    (segment_refused x.stream name bytes args.stream) (λ m few. record { stage = (is, few); tells = tt; gives = tt })
read_answers_fit x (reading.GettingSegment r name rest) (answer.Failed at NoNode) args is fit = begins_fit x r None args is.count
read_answers_fit x (reading.GettingSegment r name rest) (answer.Failed at w) args is fit = read_no_way (GetSegment x.stream name) at w args.stream fit
read_answers_fit x (reading.GettingLedger r m number rest) (answer.One (Bytes bytes version)) args is fit =
    read_or_refused (reading.after_ledger x r m rest) (ledger_node_of x.conf (ledger_of m) bytes) Any
    (ledger_refused x.conf (ledger_of m) bytes) (λ node u. reader_ledger_fits x r m rest node args is.0 is.1)
read_answers_fit x (reading.GettingLedger r m number rest) (answer.Failed at NoNode) args is fit = gone_fits x r (ledger_of m) args is.0
read_answers_fit x (reading.GettingLedger r m number rest) (answer.Failed at w) args is fit = read_no_way (GetLedger (ledger_of m)) at w tt fit
read_answers_fit x stage a args is fit = read_waits stage is

-- how many entries can be read
counted_fits : (x : reading.ReaderArgs) (r : reading.Read) (w : reading.Walk) (stage : ReaderStage) → ReaderArgsFit x → GatheredFits r → WalkFits w
    → ReadFits (reading.after_counted x r w stage)
counted_fits x r w (Counted n) args is walk = fetches_fit x r w n _ args is walk
counted_fits x r w stage args is walk = read_waits (reading.CountingEntries r w stage) (is, walk)

-- an entry that has come
fetched_fits : (x : reading.ReaderArgs) (r : reading.Read) (w : reading.Walk) (readable entry : ℕ) (stage : ReaderStage) → ReaderArgsFit x → GatheredFits r
    → WalkFits w → FetchFits entry stage → ReadFits (reading.after_told x r w readable entry stage)
fetched_fits x r w readable entry (Fetched bytes) args is walk came =
    let rows : List ReadRow = reading.rows_in w.segment entry (entry_at bytes) in
    let q : reading.Read = reading.gathers r rows in
    let more : GatheredFits q = gathers_fit r rows is (entry_rows_fit w.segment entry bytes (omega (arith, walk.segment)) came.0 came.1) in
    cond_both ReadFits (nat_le q.count (length q.rows)) (reading.ends q) (reading.fetches x q w readable (entry + 1))
    (record { stage = tt; tells = tt; gives = given_fits q more }) (fetches_fit x q w readable (entry + 1) args more walk)
fetched_fits x r w readable entry stage args is walk came = read_waits (reading.FetchingEntry r w readable entry stage) (is, (walk, came))

-- what a read does at a message of a bookie
read_heard_fits : (x : reading.ReaderArgs) (stage : reading.ReadStage) (b : ℕ) (m : Msg) → ReaderArgsFit x → ReadStageFits stage → MsgFits m
    → ReadFits (reading.read_told x stage b m)
read_heard_fits x (reading.CountingEntries r w stage) b m args is fit = counted_fits x r w (hears w.subject stage b m) args is.0 is.1
read_heard_fits x (reading.FetchingEntry r w readable entry stage) b m args is fit =
    fetched_fits x r w readable entry (hears w.subject stage b m) args is.0 is.1.0 (fetch_fits w.subject entry stage b m is.1.1 fit)
read_heard_fits x stage b m args is fit = read_waits stage is

-- what a read does at what it hears
read_fits : (x : reading.ReaderArgs) (stage : reading.ReadStage) (h : Heard) → ReaderArgsFit x → ReadStageFits stage → HeardFits h
    → ReadFits (reading.read_hears x stage h)
unfolding reading.read_hears
read_fits x stage (Reply a) args is fit = read_answers_fit x stage a args is fit
read_fits x stage (From bookie m) args is fit = read_heard_fits x stage bookie m args is fit

-- what a reader is given: a line with a count of rows, or what it hears
abbrev pub IsReaderCall : reading.LogReaderCall → Type 0
IsReaderCall (reading.Reads tag count) = count ≤ MAX_ROWS
IsReaderCall (reading.HearsAll h) = HeardFits h

-- what a call of a reader does
pub reader_move_fits : (x : reading.ReaderArgs) (n : reading.ReaderNow) (call : reading.LogReaderCall) → ReaderArgsFit x → ReadStageFits n.stage
    → IsReaderCall call → ReadFits (reading.reader_move x n call)
reader_move_fits x n (reading.Reads tag count) args is few =
    let r : reading.Read = record { tag = tag; count = count; from = n.position; rows = []; gone = None } in begins_fit x r None args few
reader_move_fits x n (reading.HearsAll h) args is fit = read_fits x n.stage h args is fit

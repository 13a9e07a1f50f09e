-- The number of a segment that is recovered, and the count at which its ledger is closed, fit their lines.
use Rattle.std.proofs.Common.{◌≡◌, ℕ, zero, suc, ◌+◌, ◌≤◌, ◌<◌, Bool, true, false, ◌&&◌, ◌==◌, cond, List, [], ◌∷◌, Option, Some, None, refl, arith}
use Rattle.std.specs.Prelude.{nat_le, nat_lt}
use Rattle.std.proofs.lemmas.Bool.{leb-true}
use Rattle.std.specs.List.{AllByRecursion}
use Rattle.dl_types.specs.declared.meta_answer.MetaAnswer.{MetaAnswer}
use Rattle.dl_types.specs.declared.meta_answer.MetaAnswer.TheVariants as answer
use Rattle.dl_types.specs.declared.one_answer.OneAnswer.TheVariants.{Made, Version, Bytes, Names}
use Rattle.dl_types.specs.declared.why.Why.{Why}
use Rattle.dl_types.specs.declared.why.Why.TheVariants.{NoNode, BadVersion}
use Rattle.dl_quorum.specs.Pieces.{acks, blocks, covers}
use Rattle.dl_msg.specs.declared.heard.Heard.{Heard}
use Rattle.dl_msg.specs.declared.heard.Heard.TheVariants.{Reply, From}
use Rattle.dl_msg.specs.declared.letters.Told.{Told}
use Rattle.dl_msg.specs.declared.msg.Msg.{Msg}
use Rattle.dl_msg.specs.declared.msg.Msg.TheVariants.{AskEntry, LacIs, EntryIs, NoEntry, CopyOk}
use Rattle.dl_formats.specs.declared.ledger.LedgerState.{LedgerState}
use Rattle.dl_formats.specs.declared.ledger.LedgerState.TheVariants as state
use Rattle.dl_formats.specs.declared.segment_name.SegmentName.TheVariants.{Progress}
use Rattle.dl_formats.specs.NodeBytes.{ten_nines, max_u64}
use Rattle.dl_types.specs.Places.{place}
use Rattle.dl_text.specs.PlaceFields.{IsPlaceFrom}
use Rattle.dl_rules_ledger.specs.Subjects.{Subject, among, has_answered, known_count, tell_write_set, is_about, is_about_entry}
use Rattle.dl_rules_ledger.specs.Readers.{ReaderStage, Fetched, asks_entry, hears}
use Rattle.dl_rules_ledger.specs.Recoveries.{greatest_entry, Phase, Fencing, Reading, Copying, Ended, Exhausted, Move, fences, reads, after_answer}
use Rattle.dl_rules_ledger.specs.Recoveries.{after_denial, after_entry, after_copy, recovers}
use Rattle.dl_rules_stream.specs.Nodes.{LedgerNode}
use Rattle.dl_rules_stream.specs.Orders.{Next, Wait, Ask, Done, tells}
use Rattle.dl_rules_stream.specs.Requests.{Completion}
use Rattle.dl_rules_stream.specs.Listings.{maxseq_of, alloc_of, ledger_of, ledger_node_of, segment_of}
use Rattle.dl_rules_stream.specs.LedgerRecoveries.{RecoveryArgs, RecoveryStage, GettingNode, Marking, Searching, Closing, IsClosed, IsGone, WasRefused}
use Rattle.dl_rules_stream.specs.LedgerRecoveries.{come_to, subject_of, after_move, after_node, recovery_first}
use Rattle.dl_rules_stream.specs.LedgerRecoveries.{recovery_answers, recovery_told, recovery_hears}
use Rattle.dl_rules_stream.specs.Requests.{LeaveLock}
use Rattle.dl_rules_stream.specs.Listings.{ten_digits_in, member_in, number_behind}
use Rattle.dl_rules_stream.specs.Locks.{LockStage, MakingMember, ListingMembers, LeavingLock, LockDone, least_with, least_of, lock_or_leave}
use Rattle.dl_rules_stream.specs.Locks.{lock_answers, lock_hears}
use Rattle.dl_rules_stream.specs.Looks.{Looked, LookStage, Looking, LookDone, look_values, look_answers, look_hears}
use Rattle.dl_rules_stream.specs.SegmentRecoveries.{SegmentArgs, SegmentStage, GettingSegment, RecoveringLedger, FetchingEnd, Completing, CheckingSegment}
use Rattle.dl_rules_stream.specs.SegmentRecoveries.{SegmentDone, Recovered, ClosedAt, Again, ledger_args, end_subject, completes, is_completed}
use Rattle.dl_rules_stream.specs.SegmentRecoveries.{after_end, after_closed, after_ledger, after_segment, not_completed, segment_answers}
use Rattle.dl_rules_stream.specs.SegmentRecoveries.{segment_told, segment_hears, recovered_by}
use Rattle.dl_fields.specs.Paths.{IsPathField}
use Rattle.dl_text.specs.NameFields.{IsName}
use Rattle.dl_schedule.specs.StepLines.{IsCount}
use Rattle.dl_rules_client.specs.EventRanges.{AnswerFits}
use Rattle.dl_rules_client.proofs.RangeLists.{Any, AllOk, AllSome, cond_both}
use Rattle.dl_rules_client.proofs.NextRanges.{HeardFits, NextFits, any_next, PairFits, within_such, refused_such}
use Rattle.dl_rules_client.proofs.NodeRanges.{NameFits, LedgerFits, MaxSeqFits, refusal_such, gave_up_such}
use Rattle.dl_rules_client.proofs.NodeRanges.{any_ok, ok_map, ledger_fits, segments_fit, maxseq_fits, ten_fits}
use Rattle.dl_formats.specs.Keys.{MaxSeq, path_of}
use Rattle.dl_formats.specs.Reading.{maxseq_at}

-- ---- looks

-- the `maxseq` of a stream
pub maxseq_node_fits : (s bytes : List ℕ) → AllOk (maxseq_of s bytes) MaxSeqFits
maxseq_node_fits s bytes = gave_up_such (path_of (MaxSeq s)) (maxseq_at bytes) MaxSeqFits (maxseq_fits bytes)

-- A look tells segments of at most ten digits.
pub record LookedFits (x : Looked) : Type 0 where
  pub segments : AllByRecursion NameFits x.segments
  pub maxseq : MaxSeqFits x.maxseq

-- the values of nodes that were read
looked_fits : (s : List ℕ) (names : List (List ℕ)) (maxseq : List ℕ) (v : ℕ) (alloc : List ℕ) (w : ℕ) → AllOk (look_values s names maxseq v alloc w) LookedFits
looked_fits s names maxseq v alloc w =
    refusal_such (maxseq_of s maxseq) _ MaxSeqFits LookedFits (maxseq_node_fits s maxseq) (λ m fit.
    refusal_such (alloc_of s alloc) _ Any LookedFits (any_ok (alloc_of s alloc)) (λ old u. record { segments = segments_fit names; maxseq = fit }))

-- what a look does at an answer
look_answers_fit : (s : List ℕ) (stage : LookStage) (a : MetaAnswer) → PairFits Any LookedFits (look_answers s stage a)
unfolding look_answers
look_answers_fit s Looking (answer.Many (Names names ∷ Bytes maxseq v ∷ Bytes alloc w ∷ [])) =
    refused_such Any LookedFits LookDone (λ x. (LookDone, Done x)) (look_values s names maxseq v alloc w) tt
    (ok_map (look_values s names maxseq v alloc w) LookedFits (λ x. Unit {0} × LookedFits x) (looked_fits s names maxseq v alloc w) (λ x is. (tt, is)))
look_answers_fit s Looking (answer.Failed zero NoNode) = (tt, tt)
look_answers_fit s Looking (answer.Failed place w) = (tt, tt)
look_answers_fit s stage a = (tt, tt)

-- what a look does at what it hears
pub look_fits : (s : List ℕ) (stage : LookStage) (h : Heard) → PairFits Any LookedFits (look_hears s stage h)
look_fits s stage (Reply a) = look_answers_fit s stage a
look_fits s stage (From b m) = (tt, tt)

-- ---- locks

-- the own member has a path, and the least number of a lock's members, where that isn't the own one, has at most ten digits
abbrev pub LockStageFits : LockStage → Type 0
LockStageFits MakingMember = Unit {0}
LockStageFits (ListingMembers member) = IsPathField member
LockStageFits (LeavingLock member least) = IsPathField member × (least ≤ ten_nines)
LockStageFits LockDone = Unit {0}

-- the number of a member
member_fits : (name : List ℕ) → AllSome (λ n. n ≤ ten_nines) (member_in name)
unfolding member_in
member_fits [] = tt
member_fits (letter ∷ []) = tt
member_fits (letter ∷ dash ∷ digits) =
    cond_both (AllSome (λ n. n ≤ ten_nines)) (letter == 109 && dash == 45) (ten_digits_in digits) None (ten_fits digits) tt

-- a number below another one has at most ten digits
abbrev FewBelow : ℕ → ℕ → Type 0
FewBelow top n = n < top → n ≤ ten_nines

-- the lesser of a number and that of a name
with_fits : (top n : ℕ) (m : Option ℕ) → AllSome (λ k. k ≤ ten_nines) m → FewBelow top n → FewBelow top (least_with n m)
with_fits top n None is h = h
with_fits top n (Some m) is h = cond_both (FewBelow top) (nat_lt m n) m n (λ below. is) h

-- the least number of members
least_fits : (top n : ℕ) (names : List (List ℕ)) → FewBelow top n → FewBelow top (least_of n names)
least_fits top n [] h = h
least_fits top n (name ∷ names) h = least_fits top (least_with n (member_in name)) names (with_fits top n (member_in name) (member_fits name) h)

-- a lock that is settled
settled_fits : (member : List ℕ) (least : ℕ) → IsPathField member → FewBelow (number_behind member) least
    → PairFits LockStageFits IsPathField (lock_or_leave member least)
settled_fits member least is h = go (nat_lt least (number_behind member)) refl
  where
    go : (t : Bool) → nat_lt least (number_behind member) ≡ t
        → PairFits LockStageFits IsPathField (cond t (LeavingLock member least, Ask (LeaveLock member)) (LockDone, Done member))
    go true e = ((is, h (leb-true (suc least) (number_behind member) e)), tt)
    go false e = (tt, is)

-- what the taking of a lock does at an answer
lock_answers_fit : (s : List ℕ) (stage : LockStage) (a : MetaAnswer) → LockStageFits stage → AnswerFits a
    → PairFits LockStageFits IsPathField (lock_answers s stage a)
unfolding lock_answers
lock_answers_fit s MakingMember (answer.One (Made path)) is fit = (fit, tt)
lock_answers_fit s MakingMember (answer.Failed place NoNode) is fit = (tt, tt)
lock_answers_fit s MakingMember (answer.Failed place w) is fit = (tt, tt)
lock_answers_fit s (ListingMembers member) (answer.One (Names names)) is fit =
    settled_fits member (least_of (number_behind member) names) is
    (least_fits (number_behind member) (number_behind member) names (λ below. absurd (omega (arith, below))))
lock_answers_fit s (ListingMembers member) (answer.Failed place w) is fit = (tt, tt)
lock_answers_fit s (LeavingLock member least) (answer.Failed place w) is fit = (tt, tt)
lock_answers_fit s (LeavingLock member least) a is fit = (tt, tt)
lock_answers_fit s stage a is fit = (is, tt)

-- what the taking of a lock does at what it hears
pub lock_fits : (s : List ℕ) (stage : LockStage) (h : Heard) → LockStageFits stage → HeardFits h → PairFits LockStageFits IsPathField (lock_hears s stage h)
lock_fits s stage (Reply a) is fit = lock_answers_fit s stage a is fit
lock_fits s stage (From b m) is fit = (is, tt)

-- ---- ledgers

-- a phase of the recovery of a ledger
abbrev PhaseFits : Phase → Type 0
PhaseFits (Fencing answers) = Unit {0}
PhaseFits (Reading start entry denials) = entry ≤ max_u64
PhaseFits (Copying start entry copied) = Unit {0}
PhaseFits (Ended count) = count ≤ max_u64
PhaseFits Exhausted = Unit {0}

-- a phase that was come to
abbrev CameFits : Move → Type 0
CameFits move = PhaseFits move.0

-- an entry is asked of its write set
reads_fit : (x : Subject) (start entry : ℕ) → CameFits (reads x start entry)
reads_fit x start entry = go (nat_le entry greatest_entry) refl
  where
    go : (t : Bool) → nat_le entry greatest_entry ≡ t
        → CameFits (cond t (Reading start entry [], tell_write_set x entry (AskEntry x.tag x.ledger entry)) (Exhausted, []))
    go true e = leb-true entry greatest_entry e
    go false e = tt

-- what a recovery does at a message of a bookie
recovers_fit : (x : Subject) (phase : Phase) (b : ℕ) (m : Msg) → PhaseFits phase → CameFits (recovers x phase b m)
unfolding recovers
recovers_fit x (Fencing answers) b (LacIs t l true n) is =
    cond_both CameFits (is_about x b t l) (after_answer x ((b, n) ∷ answers)) (Fencing answers, [])
    (cond_both CameFits (covers x.pieces (has_answered ((b, n) ∷ answers))) (reads x (known_count x ((b, n) ∷ answers)) (known_count x ((b, n) ∷ answers)))
    (Fencing ((b, n) ∷ answers), []) (reads_fit x (known_count x ((b, n) ∷ answers)) (known_count x ((b, n) ∷ answers))) tt) tt
recovers_fit x (Reading start entry denials) b (NoEntry t l e true) is =
    cond_both CameFits (is_about_entry x entry b t l e) (after_denial x start entry (b ∷ denials)) (Reading start entry denials, [])
    (cond_both CameFits (blocks x.pieces entry (among (b ∷ denials))) (Ended entry, []) (Reading start entry (b ∷ denials), []) is is) is
recovers_fit x (Reading start entry denials) b (EntryIs t l e bytes) is =
    cond_both CameFits (is_about_entry x entry b t l e) (after_entry x start entry bytes) (Reading start entry denials, []) tt is
recovers_fit x (Copying start entry copied) b (CopyOk t l e) is =
    cond_both CameFits (is_about_entry x entry b t l e) (after_copy x start entry (b ∷ copied)) (Copying start entry copied, [])
    (cond_both CameFits (acks x.pieces entry (among (b ∷ copied))) (reads x start (entry + 1)) (Copying start entry (b ∷ copied), [])
    (reads_fit x start (entry + 1)) tt) tt
recovers_fit x phase b m is = is

-- the recovery of a ledger
abbrev RecoveryFits : RecoveryStage → Type 0
RecoveryFits (GettingNode last) = Unit {0}
RecoveryFits (Marking m version) = Unit {0}
RecoveryFits (Searching m version phase) = PhaseFits phase
RecoveryFits (Closing m version count) = count ≤ max_u64
RecoveryFits (IsClosed m) = LedgerFits m
RecoveryFits (IsGone last) = Unit {0}
RecoveryFits (WasRefused last) = Unit {0}

-- a stage of it, and what it does next
abbrev LedgerMove : RecoveryStage × Next ℕ → Type 0
LedgerMove move = PairFits RecoveryFits Any move

-- behind a phase that was come to
after_move_fits : (x : RecoveryArgs) (m : LedgerNode) (version : ℕ) (move : Move) → CameFits move → LedgerMove (after_move x m version move)
after_move_fits x m version (Ended count, letters) is = (is, tt)
after_move_fits x m version (Exhausted, letters) is = (tt, tt)
after_move_fits x m version (phase, letters) is = (is, any_next (tells letters))

-- behind a node that was read
after_node_fits : (x : RecoveryArgs) (version : ℕ) (m : LedgerNode) (s : LedgerState) → LedgerFits m → LedgerMove (after_node x version m s)
after_node_fits x version m state.Writing is = (tt, tt)
after_node_fits x version m state.Recovering is = after_move_fits x m version (fences (subject_of x m)) tt
after_node_fits x version m state.Closed is = (is, tt)

-- what it does at an answer
recovery_answers_fit : (x : RecoveryArgs) (stage : RecoveryStage) (a : MetaAnswer) → RecoveryFits stage → LedgerMove (recovery_answers x stage a)
unfolding recovery_answers
recovery_answers_fit x (GettingNode old) (answer.One (Bytes bytes version)) is =
    refused_such RecoveryFits Any (WasRefused old) (λ m. after_node x version m m.state) (ledger_node_of x.conf x.ledger bytes) tt
    (ok_map (ledger_node_of x.conf x.ledger bytes) LedgerFits (λ m. LedgerMove (after_node x version m m.state)) (ledger_fits x.conf x.ledger bytes)
    (λ m fit. after_node_fits x version m m.state fit))
recovery_answers_fit x (GettingNode old) (answer.Failed place NoNode) is = (tt, tt)
recovery_answers_fit x (GettingNode old) (answer.Failed place w) is = (tt, tt)
recovery_answers_fit x (Marking m version) (answer.One (Version now)) is =
    after_move_fits x (come_to state.Recovering 0 m) now (fences (subject_of x (come_to state.Recovering 0 m))) tt
recovery_answers_fit x (Marking m version) (answer.Failed place NoNode) is = (tt, tt)
recovery_answers_fit x (Marking m version) (answer.Failed place (BadVersion now)) is = (tt, tt)
recovery_answers_fit x (Marking m version) (answer.Failed place w) is = (tt, tt)
recovery_answers_fit x (Closing m version count) (answer.One (Version now)) is = (is, tt)
recovery_answers_fit x (Closing m version count) (answer.Failed place NoNode) is = (tt, tt)
recovery_answers_fit x (Closing m version count) (answer.Failed place (BadVersion now)) is = (tt, tt)
recovery_answers_fit x (Closing m version count) (answer.Failed place w) is = (tt, tt)
recovery_answers_fit x stage a is = (is, tt)

-- what it does at a message of a bookie
recovery_told_fits : (x : RecoveryArgs) (stage : RecoveryStage) (b : ℕ) (m : Msg) → RecoveryFits stage → LedgerMove (recovery_told x stage b m)
recovery_told_fits x (Searching m version phase) b msg is =
    after_move_fits x m version (recovers (subject_of x m) phase b msg) (recovers_fit (subject_of x m) phase b msg is)
recovery_told_fits x stage b m is = (is, tt)

-- what it does at what it hears
recovery_fits : (x : RecoveryArgs) (stage : RecoveryStage) (h : Heard) → RecoveryFits stage → LedgerMove (recovery_hears x stage h)
unfolding recovery_hears
recovery_fits x stage (Reply a) is = recovery_answers_fit x stage a is
recovery_fits x stage (From b m) is = recovery_told_fits x stage b m is

-- ---- segments

-- What the recovery of a segment is started with: its number has at most ten digits, there are 1 to 16 storage nodes, the stream is a
-- name, and the member, where there is one, has a path.
pub record SegmentArgsFit (x : SegmentArgs) : Type 0 where
  pub segment : x.segment ≤ ten_nines
  pub count : IsCount x.conf.b
  pub stream : IsName x.stream
  pub member : AllSome IsPathField x.member

-- A completion of a stream, with a count of 64 bits.
pub record CompletionFits (c : Completion) : Type 0 where
  pub entries : c.entries ≤ max_u64
  pub stream : IsName c.stream
  pub member : AllSome IsPathField c.member

-- the recovery of a segment
abbrev pub SegmentStageFits : SegmentStage → Type 0
SegmentStageFits GettingSegment = Unit {0}
SegmentStageFits (RecoveringLedger ledger stage) = RecoveryFits stage
SegmentStageFits (FetchingEnd ledger m stage) = LedgerFits m
SegmentStageFits (Completing c) = CompletionFits c
SegmentStageFits (CheckingSegment ledger) = Unit {0}
SegmentStageFits SegmentDone = Unit {0}

-- the count of a segment that was completed
abbrev pub RecoveredFits : Recovered → Type 0
RecoveredFits (ClosedAt count) = count ≤ max_u64
RecoveredFits Again = Unit {0}

-- a stage of it, and what it does next
abbrev pub SegmentMove : SegmentStage × Next Recovered → Type 0
SegmentMove move = PairFits SegmentStageFits RecoveredFits move

-- messages hand nothing on
tells_fit : {A : Type 0} (P : A → Type 0) (letters : List Told) → NextFits P (tells letters)
tells_fit P [] = tt
tells_fit P (t ∷ ts) = tt

-- a completion of the segment
completes_fit : (x : SegmentArgs) (ledger entries rows last : ℕ) → SegmentArgsFit x → entries ≤ max_u64 → SegmentMove (completes x ledger entries rows last)
completes_fit x ledger entries rows last args is = (record { entries = is; stream = args.stream; member = args.member }, tt)

-- behind the last entry
after_end_fits : (x : SegmentArgs) (ledger : ℕ) (m : LedgerNode) (stage : ReaderStage) → SegmentArgsFit x → LedgerFits m
    → SegmentMove (after_end x ledger m stage)
after_end_fits x ledger m (Fetched bytes) args is = completes_fit x ledger m.count _ _ args is
after_end_fits x ledger m stage args is = (is, tt)

-- behind a closed ledger
after_closed_fits : (x : SegmentArgs) (ledger : ℕ) (m : LedgerNode) (count : ℕ) → SegmentArgsFit x → LedgerFits m
    → SegmentMove (after_closed x ledger m count)
after_closed_fits x ledger m zero args is = completes_fit x ledger 0 0 x.maxseq.last args (omega arith)
after_closed_fits x ledger m (suc last) args is = (is, tells_fit RecoveredFits (asks_entry (end_subject x ledger m) last))

-- behind the recovery of the ledger
after_ledger_fits : (x : SegmentArgs) (ledger : ℕ) (move : RecoveryStage × Next ℕ) → SegmentArgsFit x → LedgerMove move
    → SegmentMove (after_ledger x ledger move)
after_ledger_fits x ledger (IsGone last, next) args is = (tt, tt)
after_ledger_fits x ledger (IsClosed m, next) args is = after_closed_fits x ledger m m.count args is.0
after_ledger_fits x ledger (stage, next) args is =
    within_such RecoveryFits Any SegmentStageFits RecoveredFits (RecoveringLedger ledger) SegmentDone (λ n. (SegmentDone, Wait)) (stage, next)
    (λ s fit. fit) tt (λ n u. (tt, tt)) is

-- a completion fails
not_completed_fits : (c : Completion) (at : ℕ) (w : Why) → c.entries ≤ max_u64 → SegmentMove (not_completed c at w)
not_completed_fits c at w is = cond_both SegmentMove (is_completed c.member at w) (SegmentDone, Done (ClosedAt c.entries)) _ (tt, is) (tt, tt)

-- what it does at an answer
segment_answers_fit : (x : SegmentArgs) (stage : SegmentStage) (a : MetaAnswer) → SegmentArgsFit x → SegmentStageFits stage
    → SegmentMove (segment_answers x stage a)
unfolding segment_answers
segment_answers_fit x GettingSegment (answer.One (Bytes bytes version)) args is =
    refused_such SegmentStageFits RecoveredFits SegmentDone (after_segment x) (segment_of x.stream (Progress x.segment) bytes) tt
    (ok_map (segment_of x.stream (Progress x.segment) bytes) Any (λ m. SegmentMove (after_segment x m))
    (any_ok (segment_of x.stream (Progress x.segment) bytes))
    (λ m u. after_ledger_fits x (ledger_of m) (recovery_first (ledger_args x (ledger_of m))) args (tt, tt)))
segment_answers_fit x GettingSegment (answer.Failed at NoNode) args is = (tt, tt)
segment_answers_fit x GettingSegment (answer.Failed at w) args is = (tt, tt)
segment_answers_fit x (RecoveringLedger ledger stage) a args is =
    after_ledger_fits x ledger (recovery_hears (ledger_args x ledger) stage (Reply a)) args (recovery_fits (ledger_args x ledger) stage (Reply a) is)
segment_answers_fit x (Completing c) (answer.Failed at w) args is = not_completed_fits c at w is.entries
segment_answers_fit x (Completing c) a args is = (tt, is.entries)
segment_answers_fit x (CheckingSegment ledger) (answer.Failed at NoNode) args is = (tt, tt)
segment_answers_fit x (CheckingSegment ledger) a args is = (tt, tt)
segment_answers_fit x stage a args is = (is, tt)

-- what it does at a message of a bookie
segment_told_fits : (x : SegmentArgs) (stage : SegmentStage) (b : ℕ) (m : Msg) → SegmentArgsFit x → SegmentStageFits stage
    → SegmentMove (segment_told x stage b m)
segment_told_fits x (RecoveringLedger ledger stage) b m args is =
    after_ledger_fits x ledger (recovery_hears (ledger_args x ledger) stage (From b m)) args (recovery_fits (ledger_args x ledger) stage (From b m) is)
segment_told_fits x (FetchingEnd ledger node stage) b m args is = after_end_fits x ledger node (hears (end_subject x ledger node) stage b m) args is
segment_told_fits x stage b m args is = (is, tt)

-- what it does at what it hears
pub segment_fits : (x : SegmentArgs) (stage : SegmentStage) (h : Heard) → SegmentArgsFit x → SegmentStageFits stage → SegmentMove (segment_hears x stage h)
unfolding segment_hears
segment_fits x stage (Reply a) args is = segment_answers_fit x stage a args is
segment_fits x stage (From b m) args is = segment_told_fits x stage b m args is

-- the place at which a segment of at most ten digits ends
pub end_place : (segment count : ℕ) → segment ≤ ten_nines → count ≤ max_u64 → IsPlaceFrom 0 (place segment count 0)
end_place segment count s c = ((omega arith, omega (arith, s)), ((omega arith, c), (omega arith, omega arith)))

-- the place below which all rows of the segment stand
pub by_fits : (x : SegmentArgs) (move : SegmentStage × Next Recovered) → x.segment ≤ ten_nines → SegmentMove move
    → AllSome (IsPlaceFrom 0) (recovered_by x move)
by_fits x (stage, Done (ClosedAt count)) s is = end_place x.segment count s is.1
by_fits x (stage, next) s is = tt

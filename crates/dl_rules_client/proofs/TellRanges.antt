-- Messages are told to storage nodes of the configuration.
use Rattle.std.proofs.Common.{ℕ, zero, suc, ◌+◌, ◌<◌, ◌%◌, List, [], ◌∷◌, Option, Some, None, slice_index, Result}
use Rattle.std.proofs.Common.{Ok, Err, mod-lt, arith}
use Rattle.std.specs.Prelude.{nat_le, nat_lt, if◌then◌else◌}
use Rattle.std.specs.List.{AllByRecursion}
use Rattle.dl_types.specs.Upto.{upto}
use Rattle.dl_types.specs.Places.{is_at_most, is_before}
use Rattle.dl_types.specs.declared.dlsn.Dlsn.{Dlsn}
use Rattle.dl_types.specs.declared.refusal.Refusal.{Refusal}
use Rattle.dl_types.specs.declared.refusal.Refusal.TheVariants as refused
use Rattle.dl_types.specs.declared.meta_answer.MetaAnswer.{MetaAnswer}
use Rattle.dl_types.specs.declared.meta_answer.MetaAnswer.TheVariants as answer
use Rattle.dl_types.specs.declared.one_answer.OneAnswer.TheVariants.{Made, Names, Bytes}
use Rattle.dl_types.specs.declared.why.Why.TheVariants.{NoNode, NodeExists, NotEmpty}
use Rattle.dl_quorum.specs.Sizes.{Sizes}
use Rattle.dl_quorum.specs.Pieces.{ring_members, ring, members, last_piece}
use Rattle.dl_quorum.specs.WriteSets.{write_set}
use Rattle.dl_msg.specs.declared.heard.Heard.{Heard}
use Rattle.dl_msg.specs.declared.heard.Heard.TheVariants.{Reply, From}
use Rattle.dl_msg.specs.declared.letters.Told.{Told}
use Rattle.dl_msg.specs.declared.msg.Msg.{Msg}
use Rattle.dl_formats.specs.declared.conf.Conf.{Conf}
use Rattle.dl_formats.specs.declared.fault.MetaBytesFault.{MetaBytesFault}
use Rattle.dl_formats.specs.declared.maxseq.MaxSeq.{MaxSeq as MaxSeqNode}
use Rattle.dl_formats.specs.declared.segment.SegmentMeta.{SegmentMeta}
use Rattle.dl_formats.specs.declared.segment_name.SegmentName.{SegmentName}
use Rattle.dl_formats.specs.declared.segment_name.SegmentName.TheVariants.{Progress, Completed}
use Rattle.dl_formats.specs.Keys.{Key, Ledger, MaxSeq, Cut, Alloc, path_of}
use Rattle.dl_formats.specs.Reading.{ledger_at, segment_at, maxseq_at, cut_at, alloc_at}
use Rattle.dl_codec.specs.Fields.{IsBytes}
use Rattle.dl_fields.specs.Paths.{IsPathField}
use Rattle.dl_text.specs.PlaceFields.{IsPlaceFrom}
use Rattle.dl_transcript.specs.Ranges.{IsRefusal}
use Rattle.dl_schedule.specs.StepLines.{IsBookie, IsCount}
use Rattle.dl_rules_ledger.specs.Subjects.{Subject, tell_each}
use Rattle.dl_rules_stream.specs.Orders.{Next, Wait, Ask, Tell, Done, Refused, tells, within, or_refused, by_reply, or_gave_up}
use Rattle.dl_rules_stream.specs.Orders as stream
use Rattle.dl_rules_stream.specs.Requests.{MakeStream, MakeAgain, RemoveStream, MakeMember, ListMembers, LeaveLock, Look, MakeLedger, GetSegment}
use Rattle.dl_rules_stream.specs.Requests.{CompleteSegment, ListCut, LookCut, SetCut, segment_key}
use Rattle.dl_rules_stream.specs.Nodes.{LedgerNode, new_sizes}
use Rattle.dl_rules_stream.specs.Listings.{number_behind, segments_of, last_segment, maxseq_of, alloc_of, point_of, is_named, segment_of, ledger_node_of}
use Rattle.dl_rules_stream.specs.Makes as make
use Rattle.dl_rules_stream.specs.Removes as remove
use Rattle.dl_rules_stream.specs.Closes as close
use Rattle.dl_rules_stream.specs.Seeks as seek
use Rattle.dl_rules_stream.specs.Truncates as truncate
use Rattle.dl_rules_stream.specs.Purges as purge
use Rattle.dl_rules_stream.specs.Locks as lock
use Rattle.dl_rules_stream.specs.Looks as look
use Rattle.dl_rules_stream.specs.Allocations as allocation
use Rattle.dl_rules_client.specs.EventRanges.{RequestFits, AnswerFits, MsgFits}
use Rattle.dl_text.specs.NameFields.{IsName}
use Rattle.dl_rules_client.proofs.RangeLists.{Any, AllOk, AllSome, cond_both, all-map}
use Rattle.dl_rules_client.proofs.NextRanges.{HeardFits, NextFits}
use Rattle.dl_rules_client.proofs.NodeRanges.{SegmentFits, segment_such, MaxSeqFits, NameFits, segments_fit, last_segment_fits, maxseq_fits, cut_fits, any_ok}
use Rattle.dl_rules_client.proofs.PathRanges.{HasName, key_has_form, segment_fits, no_way_fits}
use Rattle.dl_rules_client.proofs.RecoveryRanges.{LockStageFits}

-- a storage node of the configuration is told something
abbrev pub ToldFits : Told → Type 0
ToldFits t = IsBookie t.bookie × MsgFits t.msg

-- what an order does next: it tells storage nodes of the configuration, where it tells any, its request fits, and so does its refusal
abbrev pub TellsFit : {A : Type 0} → Next A → Type 0
TellsFit Wait = Unit {0}
TellsFit (Ask r) = RequestFits r
TellsFit (Tell letters) = AllByRecursion ToldFits letters
TellsFit (Done a) = Unit {0}
TellsFit (Refused r) = IsRefusal r

-- ---- refusals

-- what holds of a value, and of the refusal where there is none
abbrev pub ResultFits : {A : Type 0} → Result A Refusal → (A → Type 0) → Type 0
ResultFits (Ok a) P = P a
ResultFits (Err why) P = IsRefusal why

-- the bytes of a node that was read
gave_up_fits : {A : Type 0} (path : List ℕ) (r : Result A MetaBytesFault) (P : A → Type 0) → IsPathField path → AllOk r P → ResultFits (or_gave_up path r) P
gave_up_fits path (Ok a) P is h = h
gave_up_fits path (Err fault) P is h = is

-- the bytes of the node at a key
node_fits : {A : Type 0} (k : Key) (r : Result A MetaBytesFault) → HasName k → ResultFits (or_gave_up (path_of k) r) Any
node_fits k r name = gave_up_fits (path_of k) r Any (key_has_form k name) (any_ok r)

-- one reading of a node and then another, where something is known of the first value
then_such : {A B : Type 0} (r : Result A Refusal) (f : A → Result B Refusal) (P : A → Type 0) (Q : B → Type 0) → ResultFits r P
    → ((a : A) → P a → ResultFits (f a) Q) → ResultFits (stream.◌>>=◌ r f) Q
then_such (Ok a) f P Q is h = h a is
then_such (Err why) f P Q is h = is

-- the same where nothing is known of it
then_fits : {A B : Type 0} (r : Result A Refusal) (f : A → Result B Refusal) (P : B → Type 0) → ResultFits r Any → ((a : A) → ResultFits (f a) P)
    → ResultFits (stream.◌>>=◌ r f) P
then_fits r f P is h = then_such r f Any P is (λ a u. h a)

-- the point of a stream
pub point_refused : (s bytes : List ℕ) → IsName s → IsBytes bytes → ResultFits (point_of s bytes) (IsPlaceFrom 1)
point_refused s bytes name are =
    then_such (or_gave_up (path_of (Cut s)) (cut_at bytes)) _ (λ c. IsPlaceFrom 1 c.point) (IsPlaceFrom 1)
    (gave_up_fits (path_of (Cut s)) (cut_at bytes) (λ c. IsPlaceFrom 1 c.point) (key_has_form (Cut s) name) (cut_fits bytes are)) (λ c fit. fit)

-- the node of a segment
pub segment_refused : (s : List ℕ) (name : SegmentName) (bytes : List ℕ) → IsName s → ResultFits (segment_of s name bytes) SegmentFits
segment_refused s name bytes is =
    then_such (or_gave_up (path_of (segment_key s name)) (segment_at bytes)) _ SegmentFits SegmentFits
    (gave_up_fits (path_of (segment_key s name)) (segment_at bytes) SegmentFits (segment_fits s name is) (segment_such bytes))
    (λ m fit. cond_both (λ (r : Result SegmentMeta Refusal). ResultFits r SegmentFits) (is_named name m) _ _ fit (segment_fits s name is))

-- the node of a ledger
pub ledger_refused : (conf : Conf) (ledger : ℕ) (bytes : List ℕ) → ResultFits (ledger_node_of conf ledger bytes) Any
ledger_refused conf ledger bytes =
    then_fits (or_gave_up (path_of (Ledger ledger)) (ledger_at bytes)) _ Any (node_fits (Ledger ledger) (ledger_at bytes) tt)
    (λ f. cond_both (λ (r : Result LedgerNode Refusal). ResultFits r Any) (nat_le f.e conf.b) _ _ tt (key_has_form (Ledger ledger) tt))

-- the values of a look
pub look_refused : (s : List ℕ) (names : List (List ℕ)) (maxseq : List ℕ) (v : ℕ) (alloc : List ℕ) (w : ℕ) → IsName s
    → ResultFits (look.look_values s names maxseq v alloc w) Any
look_refused s names maxseq v alloc w name =
    then_fits (maxseq_of s maxseq) _ Any (node_fits (MaxSeq s) (maxseq_at maxseq) name) (λ m.
    then_fits (alloc_of s alloc) _ Any
    (then_fits (or_gave_up (path_of (Alloc s)) (alloc_at alloc)) _ Any (node_fits (Alloc s) (alloc_at alloc) name) (λ a. tt)) (λ old. tt))

-- the point of a stream and its end are places
abbrev BoundsFit : truncate.Bounds → Type 0
BoundsFit b = IsPlaceFrom 1 b.point × IsPlaceFrom 0 b.end

-- the end by the last segment
end_fits : (m : MaxSeqNode) (last : Option SegmentName) → MaxSeqFits m → AllSome NameFits last → IsPlaceFrom 0 (truncate.end_by m last)
end_fits m (Some (Progress k)) h is = ((omega arith, omega (arith, is)), ((omega arith, omega arith), (omega arith, omega arith)))
end_fits m (Some (Completed k)) h is = ((omega arith, omega (arith, is)), ((omega arith, omega arith), (omega arith, omega arith)))
end_fits m None h is = ((omega arith, omega (arith, h.segment)), ((omega arith, omega arith), (omega arith, omega arith)))

-- the values of a truncation
bounds_refused : (s : List ℕ) (names : List (List ℕ)) (cut maxseq : List ℕ) → IsName s → IsBytes cut
    → ResultFits (truncate.bounds_of s names cut maxseq) BoundsFit
bounds_refused s names cut maxseq name are =
    let last : Option SegmentName = last_segment (segments_of names) in
    let listed : AllSome NameFits last = last_segment_fits (segments_of names) (segments_fit names) in
    then_such (point_of s cut) _ (IsPlaceFrom 1) BoundsFit (point_refused s cut name are) (λ point at.
    then_such (maxseq_of s maxseq) _ MaxSeqFits BoundsFit
    (gave_up_fits (path_of (MaxSeq s)) (maxseq_at maxseq) MaxSeqFits (key_has_form (MaxSeq s) name) (maxseq_fits maxseq))
    (λ m fit. (at, end_fits m last fit listed)))

-- a place whose segment is at least 1 is a place
pub any_place : (d : Dlsn) → IsPlaceFrom 1 d → IsPlaceFrom 0 d
any_place d (segment, rest) = ((omega arith, segment.1), rest)

-- ---- pieces

-- Messages about a ledger go to storage nodes of the configuration.
pub record SubjectFits (x : Subject) : Type 0 where
  pub each : (entry : ℕ) → AllByRecursion IsBookie (members x.pieces entry)
  pub last : AllByRecursion IsBookie (last_piece x.pieces).members

-- nothing is asked of the items of a list
any_all : {A : Type 0} (xs : List A) → AllByRecursion Any xs
any_all [] = tt
any_all (x ∷ xs) = (tt, any_all xs)

-- the storage nodes of a ring
ring_fits : (first bookies e : ℕ) → IsCount bookies → AllByRecursion IsBookie (ring_members first bookies e)
ring_fits first bookies e is =
    all-map Any IsBookie (λ place. (first + place) % bookies)
    (λ place u. let below : (first + place) % bookies < bookies = mod-lt (first + place) (omega (arith, is.0)) in (omega arith, omega (arith, below, is.1)))
    (upto e) (any_all (upto e))

-- one of them, or the first one
index_fits : (xs : List ℕ) (k : ℕ) → AllByRecursion IsBookie xs → IsBookie (slice_index xs k)
index_fits [] k each = (omega arith, omega arith)
index_fits (x ∷ xs) zero each = each.0
index_fits (x ∷ xs) (suc k) each = index_fits xs k each.1

-- the storage nodes of a write set of a ring
pub members_fit : (ledger bookies : ℕ) (q : Sizes) (entry : ℕ) → IsCount bookies → AllByRecursion IsBookie (members (ring ledger bookies q) entry)
unfolding members
members_fit ledger bookies q entry is =
    let xs : List ℕ = ring_members (ledger % bookies) bookies q.e in
    all-map Any IsBookie (λ place. slice_index xs place) (λ place u. index_fits xs place (ring_fits (ledger % bookies) bookies q.e is))
    (write_set q entry) (any_all (write_set q entry))

-- messages about a ledger of a ring
pub subject_fits : (tag ledger bookies : ℕ) (q : Sizes) → IsCount bookies
    → SubjectFits (record { tag = tag; ledger = ledger; pieces = ring ledger bookies q })
subject_fits tag ledger bookies q is = record {
  each = λ entry. members_fit ledger bookies q entry is;
  last = ring_fits (ledger % bookies) bookies q.e is;
}

-- a message for each of these
pub each_told : (bookies : List ℕ) (m : Msg) → MsgFits m → AllByRecursion IsBookie bookies → AllByRecursion ToldFits (tell_each bookies m)
each_told [] m is each = tt
each_told (b ∷ bs) m is each = ((each.0, is), each_told bs m is each.1)

-- messages that are told, where there are any
pub tells_fit : (A : Type 0) (letters : List Told) → AllByRecursion ToldFits letters → TellsFit (tells {A = A} letters)
tells_fit A [] each = tt
tells_fit A (t ∷ ts) each = each

-- ---- parts of orders

-- a part of an order tells what it tells, and then what the order does
pub within_told : {S T A B : Type 0} (wrap : S → T) (ended : T) (go_on : A → T × Next B) (move : S × Next A) → TellsFit move.1
    → ((a : A) → TellsFit (go_on a).1) → TellsFit (within wrap ended go_on move).1
within_told wrap ended go_on (stage, Wait) is later = tt
within_told wrap ended go_on (stage, Ask r) is later = is
within_told wrap ended go_on (stage, Tell letters) is later = is
within_told wrap ended go_on (stage, Done x) is later = later x
within_told wrap ended go_on (stage, Refused r) is later = is

-- a reading that may be refused
pub refused_such : {T A B : Type 0} (ended : T) (go_on : A → T × Next B) (r : Result A Refusal) (P : A → Type 0) → ResultFits r P
    → ((a : A) → P a → TellsFit (go_on a).1) → TellsFit (or_refused ended go_on r).1
refused_such ended go_on (Ok x) P is later = later x is
refused_such ended go_on (Err why) P is later = is

-- the same where nothing is asked of the value
pub refused_told : {T A B : Type 0} (ended : T) (go_on : A → T × Next B) (r : Result A Refusal) → ResultFits r Any → ((a : A) → TellsFit (go_on a).1)
    → TellsFit (or_refused ended go_on r).1
refused_told ended go_on r is later = refused_such ended go_on r Any is (λ a u. later a)

-- a part that only hears replies
by_told : {S A : Type 0} (stage : S) (hears : MetaAnswer → S × Next A) (h : Heard) → HeardFits h → ((a : MetaAnswer) → AnswerFits a → TellsFit (hears a).1)
    → TellsFit (by_reply stage hears h).1
by_told stage hears (Reply a) is each = each a is
by_told stage hears (From b m) is each = tt

-- ---- orders that tell nothing

-- what the making of a stream does at an answer
make_answers_told : (s : List ℕ) (stage : make.MakeStage) (a : MetaAnswer) → IsName s → AnswerFits a → TellsFit (make.make_answers s stage a).1
unfolding make.make_answers
make_answers_told s make.Making (answer.Failed zero NodeExists) name is = name
make_answers_told s make.Making (answer.Failed place w) name is = no_way_fits (MakeStream s) place w name is
make_answers_told s make.Making a name is = tt
make_answers_told s make.MakingAgain (answer.Failed zero NodeExists) name is = tt
make_answers_told s make.MakingAgain (answer.Failed place w) name is = no_way_fits (MakeAgain s) place w name is
make_answers_told s make.MakingAgain a name is = tt
make_answers_told s make.MakeDone a name is = tt

-- the making of a stream
pub make_told : (s : List ℕ) (stage : make.MakeStage) (h : Heard) → IsName s → HeardFits h → TellsFit (make.make_hears s stage h).1
make_told s stage h name is = by_told stage (make.make_answers s stage) h is (λ a fit. make_answers_told s stage a name fit)

-- what a removal does at an answer
remove_answers_told : (s : List ℕ) (stage : remove.RemoveStage) (a : MetaAnswer) → IsName s → AnswerFits a → TellsFit (remove.remove_answers s stage a).1
unfolding remove.remove_answers
remove_answers_told s remove.Removing (answer.Failed place NoNode) name is = tt
remove_answers_told s remove.Removing (answer.Failed place (NotEmpty n)) name is = is
remove_answers_told s remove.Removing (answer.Failed place w) name is = no_way_fits (RemoveStream s) place w name is
remove_answers_told s remove.Removing a name is = tt
remove_answers_told s remove.RemoveDone a name is = tt

-- a removal
pub remove_told : (s : List ℕ) (stage : remove.RemoveStage) (h : Heard) → IsName s → HeardFits h → TellsFit (remove.remove_hears s stage h).1
remove_told s stage h name is = by_told stage (remove.remove_answers s stage) h is (λ a fit. remove_answers_told s stage a name fit)

-- What a close is started with names a stream and a member.
pub record CloseArgsFit (x : close.CloseArgs) : Type 0 where
  pub stream : IsName x.completion.stream
  pub owner : AllSome IsPathField x.completion.member
  pub member : IsPathField x.member

-- what a close does at an answer
close_answers_told : (x : close.CloseArgs) (stage : close.CloseStage) (a : MetaAnswer) → CloseArgsFit x → AnswerFits a
    → TellsFit (close.close_answers x stage a).1
unfolding close.close_answers
close_answers_told x close.ClosingLedger (answer.Failed place w) args is = no_way_fits (close.closes x) place w tt is
close_answers_told x close.ClosingLedger a args is = (args.stream, args.owner)
close_answers_told x close.Completing (answer.Failed (suc zero) NoNode) args is = args.member
close_answers_told x close.Completing (answer.Failed place w) args is = no_way_fits (CompleteSegment x.completion) place w (args.stream, args.owner) is
close_answers_told x close.Completing a args is = args.member
close_answers_told x close.LeavingLock (answer.Failed place w) args is = no_way_fits (LeaveLock x.member) place w args.member is
close_answers_told x close.LeavingLock a args is = tt
close_answers_told x close.CloseDone a args is = tt

-- a close
pub close_told : (x : close.CloseArgs) (stage : close.CloseStage) (h : Heard) → CloseArgsFit x → HeardFits h → TellsFit (close.close_hears x stage h).1
close_told x stage h args is = by_told stage (close.close_answers x stage) h is (λ a fit. close_answers_told x stage a args fit)

-- an order of one step goes on with a value, and so does what it hands on
value_told : {S A : Type 0} (ended : S) (r : Result A Refusal) (P : A → Type 0) → ResultFits r P
    → TellsFit (or_refused ended (λ x. (ended, Done x)) r).1 × NextFits P (or_refused ended (λ x. (ended, Done x)) r).1
value_told ended (Ok x) P is = (tt, is)
value_told ended (Err why) P is = (is, tt)

-- what a seek does at an answer, and the point that it is done with
seek_answers_told : (s : List ℕ) (stage : seek.SeekStage) (a : MetaAnswer) → IsName s → AnswerFits a
    → TellsFit (seek.seek_answers s stage a).1 × NextFits (IsPlaceFrom 1) (seek.seek_answers s stage a).1
unfolding seek.seek_answers
seek_answers_told s seek.Seeking (answer.Many (Names names ∷ Bytes cut version ∷ [])) name is =
    value_told seek.SeekDone (point_of s cut) (IsPlaceFrom 1) (point_refused s cut name is.1.0)
seek_answers_told s seek.Seeking (answer.Failed zero NoNode) name is = (tt, tt)
seek_answers_told s seek.Seeking (answer.Failed place w) name is = (no_way_fits (ListCut s) place w name is, tt)
seek_answers_told s stage a name is = (tt, tt)

-- a seek
pub seek_told : (s : List ℕ) (stage : seek.SeekStage) (h : Heard) → IsName s → HeardFits h
    → TellsFit (seek.seek_hears s stage h).1 × NextFits (IsPlaceFrom 1) (seek.seek_hears s stage h).1
seek_told s stage (Reply a) name is = seek_answers_told s stage a name is
seek_told s stage (From b m) name is = (tt, tt)

-- a new point that was asked for
bounds_told : (x : truncate.TruncateArgs) (version : ℕ) (b : truncate.Bounds) → IsName x.stream × IsPlaceFrom 1 x.place → BoundsFit b
    → TellsFit (truncate.within_bounds x version b).1
bounds_told x version b args is =
    let P : truncate.TruncateStage × Next Dlsn → Type 0 = λ m. TellsFit m.1 in
    let low : truncate.TruncateStage × Next Dlsn = (truncate.TruncateDone, Refused (refused.Truncated b.point)) in
    let high : truncate.TruncateStage × Next Dlsn = (truncate.TruncateDone, Refused (refused.BeyondEnd b.end)) in
    let sets : truncate.TruncateStage × Next Dlsn = (truncate.SettingCut version, Ask (SetCut x.stream x.place version)) in
    cond_both P (is_at_most x.place b.point) low (if is_before b.end x.place then high else sets) (any_place b.point is.0)
    (cond_both P (is_before b.end x.place) high sets is.1 args)

-- what a truncation does at an answer
truncate_answers_told : (x : truncate.TruncateArgs) (stage : truncate.TruncateStage) (a : MetaAnswer) → IsName x.stream × IsPlaceFrom 1 x.place
    → AnswerFits a → TellsFit (truncate.truncate_answers x stage a).1
unfolding truncate.truncate_answers
truncate_answers_told x truncate.LookingAtCut (answer.Many (Names names ∷ Bytes cut version ∷ Bytes maxseq w ∷ [])) args is =
    refused_such truncate.TruncateDone (truncate.within_bounds x version) (truncate.bounds_of x.stream names cut maxseq) BoundsFit
    (bounds_refused x.stream names cut maxseq args.0 is.1.0) (λ b fit. bounds_told x version b args fit)
truncate_answers_told x truncate.LookingAtCut (answer.Failed place NoNode) args is = tt
truncate_answers_told x truncate.LookingAtCut (answer.Failed place w) args is = no_way_fits (LookCut x.stream) place w args.0 is
truncate_answers_told x (truncate.SettingCut version) (answer.Failed place w) args is = no_way_fits (SetCut x.stream x.place version) place w args is
truncate_answers_told x (truncate.SettingCut version) a args is = tt
truncate_answers_told x stage a args is = tt

-- a truncation
pub truncate_told : (x : truncate.TruncateArgs) (stage : truncate.TruncateStage) (h : Heard) → IsName x.stream × IsPlaceFrom 1 x.place → HeardFits h
    → TellsFit (truncate.truncate_hears x stage h).1
truncate_told x stage h args is = by_told stage (truncate.truncate_answers x stage) h is (λ a fit. truncate_answers_told x stage a args fit)

-- the next segment of a purge
purge_goes_told : (s : List ℕ) (rest : List SegmentName) (count : ℕ) → IsName s → TellsFit (purge.goes_on s rest count).1
purge_goes_told s [] count name = tt
purge_goes_told s (segment ∷ rest) count name = name

-- what a purge does at an answer
purge_answers_told : (s : List ℕ) (stage : purge.PurgeStage) (a : MetaAnswer) → IsName s → AnswerFits a → TellsFit (purge.purge_answers s stage a).1
unfolding purge.purge_answers
purge_answers_told s purge.ListingCut (answer.Many (Names names ∷ Bytes cut version ∷ [])) name is =
    refused_such purge.PurgeDone (purge.after_list s names) (point_of s cut) (IsPlaceFrom 1) (point_refused s cut name is.1.0)
    (λ point at. purge_goes_told s _ 0 name)
purge_answers_told s purge.ListingCut (answer.Failed place w) name is = no_way_fits (ListCut s) place w name is
purge_answers_told s (purge.GettingSegment segment rest count) (answer.One (Bytes bytes version)) name is =
    refused_such purge.PurgeDone (purge.after_get s segment rest count) (segment_of s segment bytes) SegmentFits (segment_refused s segment bytes name)
    (λ m fit. name)
purge_answers_told s (purge.GettingSegment segment rest count) (answer.Failed place NoNode) name is = purge_goes_told s rest count name
purge_answers_told s (purge.GettingSegment segment rest count) (answer.Failed place w) name is = no_way_fits (GetSegment s segment) place w name is
purge_answers_told s (purge.Dropping segment ledger rest count) (answer.Failed place NoNode) name is = purge_goes_told s rest count name
purge_answers_told s (purge.Dropping segment ledger rest count) (answer.Failed place w) name is = no_way_fits (purge.drops s segment ledger) place w name is
purge_answers_told s (purge.Dropping segment ledger rest count) a name is = purge_goes_told s rest (suc count) name
purge_answers_told s stage a name is = tt

-- a purge
pub purge_told : (s : List ℕ) (stage : purge.PurgeStage) (h : Heard) → IsName s → HeardFits h → TellsFit (purge.purge_hears s stage h).1
purge_told s stage h name is = by_told stage (purge.purge_answers s stage) h is (λ a fit. purge_answers_told s stage a name fit)

-- a lock that is settled
settled_told : (member : List ℕ) (least : ℕ) → IsPathField member → TellsFit (lock.lock_or_leave member least).1
settled_told member least is = cond_both (λ (m : lock.LockStage × Next (List ℕ)). TellsFit m.1) (nat_lt least (number_behind member)) _ _ is tt

-- what the taking of a lock does at an answer
lock_answers_told : (s : List ℕ) (stage : lock.LockStage) (a : MetaAnswer) → IsName s → LockStageFits stage → AnswerFits a
    → TellsFit (lock.lock_answers s stage a).1
unfolding lock.lock_answers
lock_answers_told s lock.MakingMember (answer.One (Made path)) name is fit = name
lock_answers_told s lock.MakingMember (answer.Failed place NoNode) name is fit = tt
lock_answers_told s lock.MakingMember (answer.Failed place w) name is fit = no_way_fits (MakeMember s) place w name fit
lock_answers_told s (lock.ListingMembers member) (answer.One (Names names)) name is fit = settled_told member _ is
lock_answers_told s (lock.ListingMembers member) (answer.Failed place w) name is fit = no_way_fits (ListMembers s) place w name fit
lock_answers_told s (lock.LeavingLock member least) (answer.Failed place w) name is fit = no_way_fits (LeaveLock member) place w is.0 fit
lock_answers_told s (lock.LeavingLock member least) a name is fit = (omega arith, omega (arith, is.1))
lock_answers_told s stage a name is fit = tt

-- the taking of a lock
pub lock_told : (s : List ℕ) (stage : lock.LockStage) (h : Heard) → IsName s → LockStageFits stage → HeardFits h → TellsFit (lock.lock_hears s stage h).1
lock_told s stage h name is fit = by_told stage (lock.lock_answers s stage) h fit (λ a heard. lock_answers_told s stage a name is heard)

-- what a look does at an answer
look_answers_told : (s : List ℕ) (stage : look.LookStage) (a : MetaAnswer) → IsName s → AnswerFits a → TellsFit (look.look_answers s stage a).1
unfolding look.look_answers
look_answers_told s look.Looking (answer.Many (Names names ∷ Bytes maxseq v ∷ Bytes alloc w ∷ [])) name is =
    refused_told look.LookDone (λ x. (look.LookDone, Done x)) (look.look_values s names maxseq v alloc w)
    (look_refused s names maxseq v alloc w name) (λ x. tt)
look_answers_told s look.Looking (answer.Failed zero NoNode) name is = tt
look_answers_told s look.Looking (answer.Failed place w) name is = no_way_fits (Look s) place w name is
look_answers_told s stage a name is = tt

-- a look
pub look_told : (s : List ℕ) (stage : look.LookStage) (h : Heard) → IsName s → HeardFits h → TellsFit (look.look_hears s stage h).1
look_told s stage h name is = by_told stage (look.look_answers s stage) h is (λ a fit. look_answers_told s stage a name fit)

-- an allocation is for a stream and a member
abbrev pub AllocationFits : allocation.AllocationArgs → Type 0
AllocationFits x = IsName x.stream × IsPathField x.member

-- what an allocation does at an answer
allocation_answers_told : (x : allocation.AllocationArgs) (stage : allocation.AllocationStage) (a : MetaAnswer) → AllocationFits x → AnswerFits a
    → TellsFit (allocation.allocation_answers x stage a).1
unfolding allocation.allocation_answers
allocation_answers_told x allocation.MakingLedger (answer.One (Made path)) args is = args
allocation_answers_told x allocation.MakingLedger (answer.Failed place w) args is = no_way_fits (MakeLedger (new_sizes x.conf)) place w tt is
allocation_answers_told x (allocation.TakingLedger ledger) (answer.Failed place w) args is = no_way_fits (allocation.takes x ledger) place w args is
allocation_answers_told x (allocation.TakingLedger ledger) a args is = tt
allocation_answers_told x stage a args is = tt

-- an allocation
pub allocation_told : (x : allocation.AllocationArgs) (stage : allocation.AllocationStage) (h : Heard) → AllocationFits x → HeardFits h
    → TellsFit (allocation.allocation_hears x stage h).1
allocation_told x stage h args is = by_told stage (allocation.allocation_answers x stage) h is (λ a fit. allocation_answers_told x stage a args fit)

-- The number of a segment that an open starts has at most ten digits.
use Rattle.std.proofs.Common.{◌≡◌, ℕ, ◌+◌, ◌≤◌, Bool, true, false, cond, List, [], ◌∷◌, Option, Some, None, refl}
use Rattle.std.specs.Prelude.{nat_lt, if◌then◌else◌}
use Rattle.std.proofs.lemmas.Bool.{ltb-false}
use Rattle.dl_types.specs.declared.dlsn.Dlsn.{Dlsn}
use Rattle.dl_types.specs.declared.meta_answer.MetaAnswer.{MetaAnswer}
use Rattle.dl_types.specs.declared.meta_answer.MetaAnswer.TheVariants as answer
use Rattle.dl_types.specs.declared.one_answer.OneAnswer.TheVariants.{Names, Bytes}
use Rattle.dl_types.specs.declared.refusal.Refusal.TheVariants as refused
use Rattle.dl_types.specs.Places.{is_at_most, is_before}
use Rattle.dl_types.specs.declared.why.Why.TheVariants.{NoNode}
use Rattle.dl_fields.specs.Paths.{IsPathField}
use Rattle.dl_text.specs.NameFields.{IsName}
use Rattle.dl_text.specs.PlaceFields.{IsPlaceFrom}
use Rattle.dl_schedule.specs.StepLines.{IsCount, IsTxid}
use Rattle.dl_msg.specs.declared.heard.Heard.{Heard}
use Rattle.dl_msg.specs.declared.heard.Heard.TheVariants.{Reply, From}
use Rattle.dl_formats.specs.Keys.{MaxSeq, path_of}
use Rattle.dl_formats.specs.NodeBytes.{ten_nines}
use Rattle.dl_formats.specs.declared.segment_name.SegmentName.{SegmentName}
use Rattle.dl_formats.specs.declared.segment_name.SegmentName.TheVariants.{Progress, Completed}
use Rattle.dl_rules_stream.specs.Requests.{Beginning, SetCut}
use Rattle.dl_rules_stream.specs.Orders.{Next, Wait, Ask, Refused, stage_after}
use Rattle.dl_rules_stream.specs.Listings.{last_segment}
use Rattle.dl_rules_stream.specs.Locks.{lock_hears}
use Rattle.dl_rules_stream.specs.Looks.{Looked, look_first, look_hears}
use Rattle.dl_rules_stream.specs.Allocations.{AllocationStage, allocation_first, allocation_hears}
use Rattle.dl_rules_stream.specs.SegmentRecoveries.{SegmentArgs, SegmentStage, Recovered, ClosedAt, Again, segment_first, segment_hears}
use Rattle.dl_rules_stream.specs.Opens.{OpenArgs, OpenStage, Locking, LookingFor, RecoveringSegment, Allocating, Starting, OpenDone, Opened}
use Rattle.dl_rules_stream.specs.Opens.{alloc_version_in, looks, segment_args, segment_goes, allocation_args, allocation_goes, allocates}
use Rattle.dl_rules_stream.specs.Opens.{after_look, start_answers, open_hears, open_recovers, open_stage}
use Rattle.dl_rules_stream.specs.Recovers as recover
use Rattle.dl_rules_stream.specs.Truncates.{TruncateArgs, Bounds, TruncateStage, LookingAtCut, SettingCut, TruncateDone, within_bounds, truncate_answers}
use Rattle.dl_rules_stream.specs.Recovers as recover
use Rattle.dl_rules_stream.specs.Truncates.{truncate_hears}
use Rattle.dl_rules_client.proofs.RangeLists.{Any, AllSome, cond_both}
use Rattle.dl_rules_client.proofs.NextRanges.{HeardFits, NextFits, PairFits, within_such, within_fits, refused_fits}
use Rattle.dl_rules_client.proofs.NodeRanges.{NameFits, last_segment_fits}
use Rattle.dl_rules_client.proofs.RecoveryRanges.{LockStageFits, lock_fits, LookedFits, look_fits}
use Rattle.dl_rules_client.proofs.RecoveryRanges.{SegmentArgsFit, SegmentStageFits, RecoveredFits, SegmentMove, segment_fits, end_place, by_fits}

-- The next segment has at most ten digits, its stream is a name, and its owner's member has a path.
pub record BeginningFits (b : Beginning) : Type 0 where
  pub segment : b.segment ≤ ten_nines
  pub last : IsTxid b.last
  pub stream : IsName b.stream
  pub member : IsPathField b.member

-- the owner's member has a path, and the next segment has at most ten digits
abbrev pub OpenStageFits : OpenStage → Type 0
OpenStageFits (Locking stage) = LockStageFits stage
OpenStageFits (LookingFor member stage) = IsPathField member
OpenStageFits (RecoveringSegment member args stage) = IsPathField member × (SegmentArgsFit args × SegmentStageFits stage)
OpenStageFits (Allocating member looked stage) = IsPathField member × ((looked.maxseq.segment + 1 ≤ ten_nines) × IsTxid looked.maxseq.last)
OpenStageFits (Starting b) = BeginningFits b
OpenStageFits OpenDone = Unit {0}

-- A segment that is opened has at most ten digits, and its owner's member has a path.
pub record OpenedFits (x : Opened) : Type 0 where
  pub segment : x.segment ≤ ten_nines
  pub last : IsTxid x.last
  pub member : IsPathField x.member

-- An open is of a stream, in a world of 1 to 16 storage nodes.
pub record OpenArgsFit (x : OpenArgs) : Type 0 where
  pub count : IsCount x.conf.b
  pub stream : IsName x.stream

-- a stage of an open, and what it does next
abbrev OpenFits : OpenStage × Next Opened → Type 0
OpenFits move = PairFits OpenStageFits OpenedFits move

-- a look
looks_fit : (x : OpenArgs) (member : List ℕ) → IsPathField member → OpenFits (looks x member)
looks_fit x member is =
    within_fits OpenStageFits OpenedFits (LookingFor member) OpenDone (λ looked. (OpenDone, Wait)) (look_first x.stream) (λ s. is) tt (λ a. (tt, tt))

-- the recovery of a segment
goes_fits : (x : OpenArgs) (member : List ℕ) (args : SegmentArgs) (move : SegmentStage × Next Recovered) → IsPathField member → SegmentArgsFit args
    → SegmentMove move → OpenFits (segment_goes x member args move)
goes_fits x member args move own h is =
    within_such SegmentStageFits RecoveredFits OpenStageFits OpenedFits (RecoveringSegment member args) OpenDone (λ r. looks x member) move
    (λ s fit. (own, (h, fit))) tt (λ r u. looks_fit x member own) is

-- an allocation
allocation_fits : (x : OpenArgs) (member : List ℕ) (looked : Looked) (version : ℕ) (move : AllocationStage × Next ℕ) → OpenArgsFit x
    → IsPathField member → looked.maxseq.segment + 1 ≤ ten_nines → IsTxid looked.maxseq.last → OpenFits (allocation_goes x member looked version move)
allocation_fits x member looked version move args own h last =
    within_fits OpenStageFits OpenedFits (Allocating member looked) OpenDone _ move (λ s. (own, (h, last))) tt
    (λ ledger. (record { segment = h; last = last; stream = args.stream; member = own }, tt))

-- an allocation begins
allocates_fit : (x : OpenArgs) (member : List ℕ) (looked : Looked) → OpenArgsFit x → IsPathField member → IsTxid looked.maxseq.last
    → OpenFits (allocates x member looked)
allocates_fit x member looked args own last = go (nat_lt ten_nines (looked.maxseq.segment + 1)) refl
  where
    go : (t : Bool) → nat_lt ten_nines (looked.maxseq.segment + 1) ≡ t
        → OpenFits (cond t (OpenDone, Refused (refused.GaveUp (path_of (MaxSeq x.stream))))
        (allocation_goes x member looked 0 (allocation_first (allocation_args x member looked))))
    go true e = (tt, tt)
    go false e =
        allocation_fits x member looked 0 (allocation_first (allocation_args x member looked)) args own
        (ltb-false ten_nines (looked.maxseq.segment + 1) e) last

-- what the recovery of a segment starts with
segment_args_fit : (x : OpenArgs) (member : List ℕ) (looked : Looked) (k : ℕ) → OpenArgsFit x → IsPathField member → k ≤ ten_nines
    → SegmentArgsFit (segment_args x member looked k)
segment_args_fit x member looked k args own is = record { segment = is; count = args.count; stream = args.stream; member = own }

-- behind a look
after_look_fits : (x : OpenArgs) (member : List ℕ) (looked : Looked) (last : Option SegmentName) → OpenArgsFit x → IsPathField member
    → AllSome NameFits last → IsTxid looked.maxseq.last → OpenFits (after_look x member looked last)
after_look_fits x member looked (Some (Progress k)) args own is id =
    goes_fits x member (segment_args x member looked k) (segment_first (segment_args x member looked k)) own
    (segment_args_fit x member looked k args own is) (tt, tt)
after_look_fits x member looked (Some (Completed k)) args own is id = allocates_fit x member looked args own id
after_look_fits x member looked None args own is id = allocates_fit x member looked args own id

-- the start of the segment
start_fits : (b : Beginning) (a : MetaAnswer) → BeginningFits b → OpenFits (start_answers b a)
start_fits b (answer.Failed place w) h = (tt, tt)
start_fits b (answer.Many answers) h = (tt, record { segment = h.segment; last = h.last; member = h.member })
start_fits b (answer.One x) h = (h, tt)

-- what an open does at what it hears
pub open_fits : (x : OpenArgs) (stage : OpenStage) (h : Heard) → OpenArgsFit x → OpenStageFits stage → HeardFits h → OpenFits (open_hears x stage h)
unfolding open_hears
open_fits x (Locking stage) h args is heard =
    within_such LockStageFits IsPathField OpenStageFits OpenedFits Locking OpenDone (looks x) (lock_hears x.stream stage h) (λ s fit. fit) tt
    (λ member own. looks_fit x member own) (lock_fits x.stream stage h is heard)
open_fits x (LookingFor member stage) h args is heard =
    within_such Any LookedFits OpenStageFits OpenedFits (LookingFor member) OpenDone (λ looked. after_look x member looked (last_segment looked.segments))
    (look_hears x.stream stage h) (λ s u. is) tt
    (λ looked fit. after_look_fits x member looked (last_segment looked.segments) args is (last_segment_fits looked.segments fit.segments) fit.maxseq.last)
    (look_fits x.stream stage h)
open_fits x (RecoveringSegment member args stage) h own is heard =
    goes_fits x member args (segment_hears args stage h) is.0 is.1.0 (segment_fits args stage h is.1.0 is.1.1)
open_fits x (Allocating member looked stage) h args is heard =
    allocation_fits x member looked (alloc_version_in h) (allocation_hears (allocation_args x member looked) stage h) args is.0 is.1.0 is.1.1
open_fits x (Starting s) (Reply a) args is heard = start_fits s a is
open_fits x (Starting s) (From bookie m) args is heard = (is, tt)
open_fits x OpenDone h args is heard = (tt, tt)

-- the stage with which an open begins
pub open_begun : (x : OpenArgs) → OpenStageFits (open_stage x [])
unfolding stage_after
open_begun x = tt

-- the stage behind one thing more that it hears
pub open_later : (x : OpenArgs) (h : Heard) (heard : List Heard) → OpenArgsFit x → OpenStageFits (open_stage x heard) → HeardFits h
    → OpenStageFits (open_stage x (h ∷ heard))
unfolding stage_after
open_later x h heard args is fit = (open_fits x (open_stage x heard) h args is fit).0

-- the place at which a segment ends that what an open hears completes
pub recovers_fit : (stage : OpenStage) (h : Heard) → OpenStageFits stage → AllSome (IsPlaceFrom 0) (open_recovers stage h)
recovers_fit (RecoveringSegment member args stage) h is =
    by_fits args (segment_hears args stage h) is.1.0.segment (segment_fits args stage h is.1.0 is.1.1)
recovers_fit stage h is = tt

-- ---- recoveries

-- the segment that is recovered has at most ten digits
abbrev pub RecoverStageFits : recover.RecoverStage → Type 0
RecoverStageFits (recover.LookingFor stage) = Unit {0}
RecoverStageFits (recover.RecoveringSegment args stage) = SegmentArgsFit args × SegmentStageFits stage
RecoverStageFits recover.RecoverDone = Unit {0}

-- A recovery is of a stream, in a world of 1 to 16 storage nodes.
pub record RecoverArgsFit (x : recover.RecoverArgs) : Type 0 where
  pub count : IsCount x.conf.b
  pub stream : IsName x.stream

-- what a recovery finds ends at a place
abbrev pub FoundFits : recover.Found → Type 0
FoundFits recover.Whole = Unit {0}
FoundFits (recover.Completes end) = IsPlaceFrom 0 end

-- a stage of a recovery, and what it does next
abbrev RecoverFits : recover.RecoverStage × Next recover.Found → Type 0
RecoverFits move = PairFits RecoverStageFits FoundFits move

-- a look
recover_looks_fit : (x : recover.RecoverArgs) → RecoverFits (recover.looks x)
recover_looks_fit x =
    within_fits RecoverStageFits FoundFits recover.LookingFor recover.RecoverDone (λ looked. (recover.RecoverDone, Wait)) (look_first x.stream)
    (λ s. tt) tt (λ a. (tt, tt))

-- behind a segment that is recovered
after_recovered_fits : (x : recover.RecoverArgs) (args : SegmentArgs) (r : Recovered) → args.segment ≤ ten_nines → RecoveredFits r
    → RecoverFits (recover.after_segment x args r)
after_recovered_fits x args (ClosedAt count) h is = (tt, end_place args.segment count h is)
after_recovered_fits x args Again h is = recover_looks_fit x

-- the recovery of a segment
recover_goes_fits : (x : recover.RecoverArgs) (args : SegmentArgs) (move : SegmentStage × Next Recovered) → SegmentArgsFit args → SegmentMove move
    → RecoverFits (recover.segment_goes x args move)
recover_goes_fits x args move h is =
    within_such SegmentStageFits RecoveredFits RecoverStageFits FoundFits (recover.RecoveringSegment args) recover.RecoverDone
    (recover.after_segment x args) move
    (λ s fit. (h, fit)) tt (λ r fit. after_recovered_fits x args r h.segment fit) is

-- behind a look
recover_after_fits : (x : recover.RecoverArgs) (looked : Looked) (last : Option SegmentName) → RecoverArgsFit x → AllSome NameFits last
    → RecoverFits (recover.after_look x looked last)
recover_after_fits x looked (Some (Progress k)) args is =
    recover_goes_fits x (recover.segment_args x looked k) (segment_first (recover.segment_args x looked k))
    (record { segment = is; count = args.count; stream = args.stream; member = tt }) (tt, tt)
recover_after_fits x looked (Some (Completed k)) args is = (tt, tt)
recover_after_fits x looked None args is = (tt, tt)

-- what a recovery does at what it hears
pub recover_fits : (x : recover.RecoverArgs) (stage : recover.RecoverStage) (h : Heard) → RecoverArgsFit x → RecoverStageFits stage
    → RecoverFits (recover.recover_hears x stage h)
unfolding recover.recover_hears
recover_fits x (recover.LookingFor stage) h args is =
    within_such Any LookedFits RecoverStageFits FoundFits recover.LookingFor recover.RecoverDone
    (λ looked. recover.after_look x looked (last_segment looked.segments)) (look_hears x.stream stage h) (λ s u. tt) tt
    (λ looked fit. recover_after_fits x looked (last_segment looked.segments) args (last_segment_fits looked.segments fit.segments))
    (look_fits x.stream stage h)
recover_fits x (recover.RecoveringSegment args stage) h own is =
    recover_goes_fits x args (segment_hears args stage h) is.0 (segment_fits args stage h is.0 is.1)
recover_fits x recover.RecoverDone h args is = (tt, tt)

-- the stage with which a recovery begins
pub recover_begun : (x : recover.RecoverArgs) → RecoverStageFits (recover.recover_stage x [])
unfolding stage_after
recover_begun x = (recover_looks_fit x).0

-- the stage behind one thing more that it hears
pub recover_later : (x : recover.RecoverArgs) (h : Heard) (heard : List Heard) → RecoverArgsFit x → RecoverStageFits (recover.recover_stage x heard)
    → RecoverStageFits (recover.recover_stage x (h ∷ heard))
unfolding stage_after
recover_later x h heard args is = (recover_fits x (recover.recover_stage x heard) h args is).0

-- ---- truncations

-- a new point that was asked for
bounds_fit : (x : TruncateArgs) (version : ℕ) (b : Bounds) → NextFits (IsPlaceFrom 0) (within_bounds x version b).1
bounds_fit x version b =
    let P : TruncateStage × Next Dlsn → Type 0 = λ m. NextFits (IsPlaceFrom 0) m.1 in
    let low : TruncateStage × Next Dlsn = (TruncateDone, Refused (refused.Truncated b.point)) in
    let high : TruncateStage × Next Dlsn = (TruncateDone, Refused (refused.BeyondEnd b.end)) in
    let sets : TruncateStage × Next Dlsn = (SettingCut version, Ask (SetCut x.stream x.place version)) in
    cond_both P (is_at_most x.place b.point) low (if is_before b.end x.place then high else sets) tt (cond_both P (is_before b.end x.place) high sets tt tt)

-- a truncation is done with the place of its line
pub truncated_fits : (x : TruncateArgs) (stage : TruncateStage) (h : Heard) → IsPlaceFrom 0 x.place
    → NextFits (IsPlaceFrom 0) (truncate_hears x stage h).1
unfolding truncate_answers
truncated_fits x stage (From b m) is = tt
truncated_fits x stage (Reply a) is = by_answer stage a
  where
    by_answer : (s : TruncateStage) (a : MetaAnswer) → NextFits (IsPlaceFrom 0) (truncate_answers x s a).1
    by_answer LookingAtCut (answer.Many (Names names ∷ Bytes cut version ∷ Bytes maxseq w ∷ [])) =
        refused_fits (IsPlaceFrom 0) TruncateDone (within_bounds x version) _ (bounds_fit x version)
    by_answer LookingAtCut (answer.Failed place NoNode) = tt
    by_answer LookingAtCut (answer.Failed place w) = tt
    by_answer (SettingCut version) (answer.Failed place w) = tt
    by_answer (SettingCut version) a = is
    by_answer stage a = tt

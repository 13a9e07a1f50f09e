-- Opening a stream for writing: the lock, a look, the recovery of a segment in progress, a new ledger, and the start of the next
-- segment.
use Rattle.std.specs.Prelude.{ℕ, ◌+◌, nat_lt, if◌then◌else◌, List, [], ◌∷◌, Option, Some, None}
use Rattle.dl_types.specs.declared.dlsn.Dlsn.{Dlsn}
use Rattle.dl_types.specs.declared.refusal.Refusal.TheVariants as refused
use Rattle.dl_types.specs.declared.one_answer.OneAnswer.{OneAnswer}
use Rattle.dl_types.specs.declared.one_answer.OneAnswer.TheVariants.{Version}
use Rattle.dl_types.specs.declared.meta_answer.MetaAnswer.{MetaAnswer}
use Rattle.dl_types.specs.declared.meta_answer.MetaAnswer.TheVariants as answer
use Rattle.dl_msg.specs.declared.heard.Heard.{Heard}
use Rattle.dl_msg.specs.declared.heard.Heard.TheVariants.{Reply}
use Rattle.dl_formats.specs.declared.conf.Conf.{Conf}
use Rattle.dl_formats.specs.declared.segment_name.SegmentName.{SegmentName}
use Rattle.dl_formats.specs.declared.segment_name.SegmentName.TheVariants.{Progress}
use Rattle.dl_formats.specs.Keys.{MaxSeq, path_of}
use Rattle.dl_formats.specs.NodeBytes.{ten_nines}
use Rattle.dl_rules_stream.specs.Requests.{Beginning, StartSegment}
use Rattle.dl_rules_stream.specs.Orders.{Next, Wait, Ask, Done, Refused, no_way_on, by_reply, within, stage_after}
use Rattle.dl_rules_stream.specs.Listings.{last_segment}
use Rattle.dl_rules_stream.specs.Locks.{LockStage, lock_first, lock_hears}
use Rattle.dl_rules_stream.specs.Looks.{Looked, LookStage, look_first, look_hears}
use Rattle.dl_rules_stream.specs.Allocations.{AllocationArgs, AllocationStage, allocation_first, allocation_hears}
use Rattle.dl_rules_stream.specs.SegmentRecoveries.{SegmentArgs, SegmentStage, Recovered, segment_first, segment_hears, recovered_by}

-- The tag of its messages, the stream, and the configuration.
pub record OpenArgs : Type 0 where
  pub tag : ℕ
  pub stream : List ℕ
  pub conf : Conf

-- which part is under way, with the path of the owner's member and what the last look told
pub data OpenStage : Type 0 where
  Locking : (stage : LockStage) → OpenStage
  LookingFor : (member : List ℕ) (stage : LookStage) → OpenStage
  RecoveringSegment : (member : List ℕ) (args : SegmentArgs) (stage : SegmentStage) → OpenStage
  Allocating : (member : List ℕ) (looked : Looked) (stage : AllocationStage) → OpenStage
  Starting : (b : Beginning) → OpenStage
  OpenDone : OpenStage

-- A writer that begins: the path of its member, its segment and ledger, the last transaction id before it, and the version of
-- `maxseq`.
pub record Opened : Type 0 where
  pub member : List ℕ
  pub segment : ℕ
  pub ledger : ℕ
  pub last : ℕ
  pub version : ℕ

-- ---- the versions that sets answered

-- the version that an operation answered
abbrev pub version_in : OneAnswer → ℕ
version_in (Version now) = now
version_in a = 0

-- the version that the last of these answered
abbrev pub last_version : List OneAnswer → ℕ
last_version [] = 0
last_version (a ∷ []) = version_in a
last_version (a ∷ b ∷ more) = last_version (b ∷ more)

-- the version of `alloc` that the request which named a ledger answered; its last operation set it
abbrev pub alloc_version_in : Heard → ℕ
alloc_version_in (Reply (answer.Many answers)) = last_version answers
alloc_version_in h = 0

-- the version of `maxseq` that the start of a segment answered; its second operation set it
abbrev pub maxseq_version_in : List OneAnswer → ℕ
maxseq_version_in (a ∷ b ∷ more) = version_in b
maxseq_version_in answers = 0

-- ---- the parts

-- a look
abbrev pub looks : OpenArgs → List ℕ → OpenStage × Next Opened
looks x member = within (LookingFor member) OpenDone (λ looked. (OpenDone, Wait)) (look_first x.stream)

-- what the recovery of a segment in progress starts with
abbrev pub segment_args : OpenArgs → List ℕ → Looked → ℕ → SegmentArgs
segment_args x member looked segment = record {
  tag = x.tag;
  stream = x.stream;
  member = Some member;
  segment = segment;
  maxseq = looked.maxseq;
  version = looked.version;
  conf = x.conf;
}

-- the recovery of a segment, behind which the stream is looked at again
abbrev pub segment_goes : OpenArgs → List ℕ → SegmentArgs → SegmentStage × Next Recovered → OpenStage × Next Opened
segment_goes x member args move = within (RecoveringSegment member args) OpenDone (λ r. looks x member) move

-- what an allocation starts with
abbrev pub allocation_args : OpenArgs → List ℕ → Looked → AllocationArgs
allocation_args x member looked = record { stream = x.stream; member = member; old = looked.old; version = looked.alloc_version; conf = x.conf }

-- the next segment, with a ledger and the version of `alloc`
abbrev pub beginning_of : OpenArgs → List ℕ → Looked → (ledger alloc_version : ℕ) → Beginning
beginning_of x member looked ledger alloc_version = record {
  stream = x.stream;
  member = member;
  segment = looked.maxseq.segment + 1;
  ledger = ledger;
  last = looked.maxseq.last;
  version = looked.version;
  alloc_version = alloc_version;
}

-- an allocation, behind which the next segment is started
abbrev pub allocation_goes : OpenArgs → List ℕ → Looked → ℕ → AllocationStage × Next ℕ → OpenStage × Next Opened
allocation_goes x member looked alloc_version move =
    within (Allocating member looked) OpenDone
    (λ ledger. (Starting (beginning_of x member looked ledger alloc_version), Ask (StartSegment (beginning_of x member looked ledger alloc_version)))) move

-- a ledger is allocated, unless the next segment has more than ten digits
abbrev pub allocates : OpenArgs → List ℕ → Looked → OpenStage × Next Opened
allocates x member looked =
    if nat_lt ten_nines (looked.maxseq.segment + 1) then (OpenDone, Refused (refused.GaveUp (path_of (MaxSeq x.stream))))
    else allocation_goes x member looked 0 (allocation_first (allocation_args x member looked))

-- a segment in progress is recovered first
abbrev pub after_look : OpenArgs → List ℕ → Looked → Option SegmentName → OpenStage × Next Opened
after_look x member looked (Some (Progress k)) = segment_goes x member (segment_args x member looked k) (segment_first (segment_args x member looked k))
after_look x member looked last = allocates x member looked

-- a look, behind which it goes on by the last segment
abbrev pub look_goes : OpenArgs → List ℕ → LookStage × Next Looked → OpenStage × Next Opened
look_goes x member move = within (LookingFor member) OpenDone (λ looked. after_look x member looked (last_segment looked.segments)) move

-- the lock, behind which the stream is looked at
abbrev pub lock_goes : OpenArgs → LockStage × Next (List ℕ) → OpenStage × Next Opened
lock_goes x move = within Locking OpenDone (looks x) move

-- ---- the whole

-- the writer that begins, where `maxseq` has this version
abbrev pub opened_writer : Beginning → ℕ → Opened
opened_writer b version = record { member = b.member; segment = b.segment; ledger = b.ledger; last = b.last; version = version }

-- what the start of the segment answered
abbrev pub start_answers : Beginning → MetaAnswer → OpenStage × Next Opened
start_answers b (answer.Failed place w) = (OpenDone, Refused (no_way_on (StartSegment b) place w))
start_answers b (answer.Many answers) = (OpenDone, Done (opened_writer b (maxseq_version_in answers)))
start_answers b a = (Starting b, Wait)

-- what it begins with
abbrev pub open_first : OpenArgs → OpenStage × Next Opened
open_first x = lock_goes x (lock_first x.stream)

-- what it does at what it hears
unfoldable pub open_hears : OpenArgs → OpenStage → Heard → OpenStage × Next Opened
open_hears x (Locking stage) h = lock_goes x (lock_hears x.stream stage h)
open_hears x (LookingFor member stage) h = look_goes x member (look_hears x.stream stage h)
open_hears x (RecoveringSegment member args stage) h = segment_goes x member args (segment_hears args stage h)
open_hears x (Allocating member looked stage) h =
    allocation_goes x member looked (alloc_version_in h) (allocation_hears (allocation_args x member looked) stage h)
open_hears x (Starting b) h = by_reply (Starting b) (start_answers b) h
open_hears x OpenDone h = (OpenDone, Wait)

-- the place below which all rows of a segment stand that what it hears completes, where it completes one
abbrev pub open_recovers : OpenStage → Heard → Option Dlsn
open_recovers (RecoveringSegment member args stage) h = recovered_by args (segment_hears args stage h)
open_recovers stage h = None

-- the stage after all that it heard, the newest first
abbrev pub open_stage : OpenArgs → List Heard → OpenStage
open_stage x heard = stage_after (open_first x) (open_hears x) heard

-- Purging a stream: each completed segment below that of the point is deleted with its ledger, the first one first.
use Rattle.std.specs.Prelude.{ℕ, suc, nat_lt, Bool, false, List, [], ◌∷◌, filter}
use Rattle.dl_types.specs.declared.dlsn.Dlsn.{Dlsn}
use Rattle.dl_types.specs.declared.why.Why.TheVariants.{NoNode}
use Rattle.dl_types.specs.declared.one_answer.OneAnswer.TheVariants.{Names, Bytes}
use Rattle.dl_types.specs.declared.meta_answer.MetaAnswer.{MetaAnswer}
use Rattle.dl_types.specs.declared.meta_answer.MetaAnswer.TheVariants as answer
use Rattle.dl_msg.specs.declared.heard.Heard.{Heard}
use Rattle.dl_formats.specs.declared.segment.SegmentMeta.{SegmentMeta}
use Rattle.dl_formats.specs.declared.segment_name.SegmentName.{SegmentName}
use Rattle.dl_formats.specs.declared.segment_name.SegmentName.TheVariants.{Progress, Completed}
use Rattle.dl_rules_stream.specs.Requests.{Request, ListCut, GetSegment, DropSegment}
use Rattle.dl_rules_stream.specs.Orders.{Next, Wait, Ask, Done, Refused, no_way_on, by_reply, or_refused, stage_after}
use Rattle.dl_rules_stream.specs.Listings.{segments_of, number_of, point_of, segment_of, ledger_of}

-- which request it waits for, with the segments that are left and how many it has deleted
pub data PurgeStage : Type 0 where
  ListingCut : PurgeStage
  GettingSegment : (segment : SegmentName) (rest : List SegmentName) (count : ℕ) → PurgeStage
  Dropping : (segment : SegmentName) (ledger : ℕ) (rest : List SegmentName) (count : ℕ) → PurgeStage
  PurgeDone : PurgeStage

-- whether a segment is completed, and below this one
abbrev pub is_below : ℕ → SegmentName → Bool
is_below segment (Completed k) = nat_lt k segment
is_below segment (Progress k) = false

-- the next segment, where one is left
abbrev pub goes_on : List ℕ → List SegmentName → ℕ → PurgeStage × Next ℕ
goes_on s [] count = (PurgeDone, Done count)
goes_on s (segment ∷ rest) count = (GettingSegment segment rest count, Ask (GetSegment s segment))

-- the request that deletes a segment
abbrev pub drops : List ℕ → SegmentName → ℕ → Request
drops s segment ledger = DropSegment s (number_of segment) ledger

-- the segments below that of the point
abbrev pub after_list : List ℕ → List (List ℕ) → Dlsn → PurgeStage × Next ℕ
after_list s names point = goes_on s (filter (is_below point.segment) (segments_of names)) 0

-- a segment's node was read
abbrev pub after_get : List ℕ → SegmentName → List SegmentName → ℕ → SegmentMeta → PurgeStage × Next ℕ
after_get s segment rest count m = (Dropping segment (ledger_of m) rest count, Ask (drops s segment (ledger_of m)))

-- what it begins with
abbrev pub purge_first : List ℕ → PurgeStage × Next ℕ
purge_first s = (ListingCut, Ask (ListCut s))

-- what it does at an answer; a segment that is there no more is passed over; it is done with the count of its own deletions
unfoldable pub purge_answers : List ℕ → PurgeStage → MetaAnswer → PurgeStage × Next ℕ
purge_answers s ListingCut (answer.Many (Names names ∷ Bytes cut version ∷ [])) = or_refused PurgeDone (after_list s names) (point_of s cut)
purge_answers s ListingCut (answer.Failed place w) = (PurgeDone, Refused (no_way_on (ListCut s) place w))
purge_answers s (GettingSegment segment rest count) (answer.One (Bytes bytes version)) =
    or_refused PurgeDone (after_get s segment rest count) (segment_of s segment bytes)
purge_answers s (GettingSegment segment rest count) (answer.Failed place NoNode) = goes_on s rest count
purge_answers s (GettingSegment segment rest count) (answer.Failed place w) = (PurgeDone, Refused (no_way_on (GetSegment s segment) place w))
purge_answers s (Dropping segment ledger rest count) (answer.Failed place NoNode) = goes_on s rest count
purge_answers s (Dropping segment ledger rest count) (answer.Failed place w) = (PurgeDone, Refused (no_way_on (drops s segment ledger) place w))
purge_answers s (Dropping segment ledger rest count) a = goes_on s rest (suc count)
purge_answers s stage a = (stage, Wait)

-- what it does at what it hears
abbrev pub purge_hears : List ℕ → PurgeStage → Heard → PurgeStage × Next ℕ
purge_hears s stage h = by_reply stage (purge_answers s stage) h

-- the stage after all that it heard, the newest first
abbrev pub purge_stage : List ℕ → List Heard → PurgeStage
purge_stage s heard = stage_after (purge_first s) (purge_hears s) heard

-- Truncating a stream (DistributedLog documentation, "Truncation"): its point moves up, at most to its end.
use Rattle.std.specs.Prelude.{ℕ, ◌+◌, if◌then◌else◌, List, [], ◌∷◌, Option, Some, None, Result, Ok}
use Rattle.dl_types.specs.declared.dlsn.Dlsn.{Dlsn}
use Rattle.dl_types.specs.declared.refusal.Refusal.{Refusal}
use Rattle.dl_types.specs.declared.refusal.Refusal.TheVariants as refused
use Rattle.dl_types.specs.declared.why.Why.TheVariants.{NoNode}
use Rattle.dl_types.specs.declared.one_answer.OneAnswer.TheVariants.{Names, Bytes}
use Rattle.dl_types.specs.declared.meta_answer.MetaAnswer.{MetaAnswer}
use Rattle.dl_types.specs.declared.meta_answer.MetaAnswer.TheVariants as answer
use Rattle.dl_types.specs.Places.{place, is_before, is_at_most}
use Rattle.dl_msg.specs.declared.heard.Heard.{Heard}
use Rattle.dl_formats.specs.declared.maxseq.MaxSeq.{MaxSeq}
use Rattle.dl_formats.specs.declared.segment_name.SegmentName.{SegmentName}
use Rattle.dl_formats.specs.declared.segment_name.SegmentName.TheVariants.{Progress, Completed}
use Rattle.dl_rules_stream.specs.Requests.{LookCut, SetCut}
use Rattle.dl_rules_stream.specs.Orders.{Next, Wait, Ask, Done, Refused, no_way_on, by_reply, or_refused, stage_after, ◌>>=◌}
use Rattle.dl_rules_stream.specs.Listings.{segments_of, last_segment, maxseq_of, point_of}

-- The stream, and the place to which its point is to move.
pub record TruncateArgs : Type 0 where
  pub stream : List ℕ
  pub place : Dlsn

-- which request it waits for, with the version of `cut`
pub data TruncateStage : Type 0 where
  LookingAtCut : TruncateStage
  SettingCut : (version : ℕ) → TruncateStage
  TruncateDone : TruncateStage

-- What it read: the point, and the end of the stream.
pub record Bounds : Type 0 where
  pub point : Dlsn
  pub end : Dlsn

-- the end of a stream, by its last segment, or where none is listed by the greatest that there was
abbrev pub end_by : MaxSeq → Option SegmentName → Dlsn
end_by m (Some (Progress k)) = place k 0 0
end_by m (Some (Completed k)) = place (k + 1) 0 0
end_by m None = place (m.segment + 1) 0 0

-- the values of the nodes that were read
abbrev pub bounds_of : List ℕ → List (List ℕ) → List ℕ → List ℕ → Result Bounds Refusal
bounds_of s names cut maxseq =
    point_of s cut >>= λ point. maxseq_of s maxseq >>= λ m. Ok (record { point = point; end = end_by m (last_segment (segments_of names)) })

-- a new point is above the old one, and at most the end
abbrev pub within_bounds : TruncateArgs → ℕ → Bounds → TruncateStage × Next Dlsn
within_bounds x version b =
    if is_at_most x.place b.point then (TruncateDone, Refused (refused.Truncated b.point))
    else (if is_before b.end x.place then (TruncateDone, Refused (refused.BeyondEnd b.end))
    else (SettingCut version, Ask (SetCut x.stream x.place version)))

-- what it begins with
abbrev pub truncate_first : TruncateArgs → TruncateStage × Next Dlsn
truncate_first x = (LookingAtCut, Ask (LookCut x.stream))

-- what it does at an answer; it is done with the point
unfoldable pub truncate_answers : TruncateArgs → TruncateStage → MetaAnswer → TruncateStage × Next Dlsn
truncate_answers x LookingAtCut (answer.Many (Names names ∷ Bytes cut version ∷ Bytes maxseq w ∷ [])) =
    or_refused TruncateDone (within_bounds x version) (bounds_of x.stream names cut maxseq)
truncate_answers x LookingAtCut (answer.Failed place NoNode) = (TruncateDone, Refused refused.NoStream)
truncate_answers x LookingAtCut (answer.Failed place w) = (TruncateDone, Refused (no_way_on (LookCut x.stream) place w))
truncate_answers x (SettingCut version) (answer.Failed place w) = (TruncateDone, Refused (no_way_on (SetCut x.stream x.place version) place w))
truncate_answers x (SettingCut version) a = (TruncateDone, Done x.place)
truncate_answers x stage a = (stage, Wait)

-- what it does at what it hears
abbrev pub truncate_hears : TruncateArgs → TruncateStage → Heard → TruncateStage × Next Dlsn
truncate_hears x stage h = by_reply stage (truncate_answers x stage) h

-- the stage after all that it heard, the newest first
abbrev pub truncate_stage : TruncateArgs → List Heard → TruncateStage
truncate_stage x heard = stage_after (truncate_first x) (truncate_hears x) heard

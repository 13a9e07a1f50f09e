-- Recovering a stream: its last segment, where that is in progress, is completed.
use Rattle.std.specs.Prelude.{ℕ, List, Option, Some, None}
use Rattle.dl_types.specs.declared.dlsn.Dlsn.{Dlsn}
use Rattle.dl_types.specs.Places.{place}
use Rattle.dl_msg.specs.declared.heard.Heard.{Heard}
use Rattle.dl_formats.specs.declared.conf.Conf.{Conf}
use Rattle.dl_formats.specs.declared.segment_name.SegmentName.{SegmentName}
use Rattle.dl_formats.specs.declared.segment_name.SegmentName.TheVariants.{Progress}
use Rattle.dl_rules_stream.specs.Orders.{Next, Wait, Done, within, stage_after}
use Rattle.dl_rules_stream.specs.Listings.{last_segment}
use Rattle.dl_rules_stream.specs.Looks.{Looked, LookStage, look_first, look_hears}
use Rattle.dl_rules_stream.specs.SegmentRecoveries.{SegmentArgs, SegmentStage, Recovered, ClosedAt, Again, segment_first, segment_hears}

-- The tag of its messages, the stream, and the configuration.
pub record RecoverArgs : Type 0 where
  pub tag : ℕ
  pub stream : List ℕ
  pub conf : Conf

-- which part is under way
pub data RecoverStage : Type 0 where
  LookingFor : (stage : LookStage) → RecoverStage
  RecoveringSegment : (args : SegmentArgs) (stage : SegmentStage) → RecoverStage
  RecoverDone : RecoverStage

-- no segment was in progress, or the last one was completed, with all its rows below this place
pub data Found : Type 0 where
  Whole : Found
  Completes : (end : Dlsn) → Found

-- what the recovery of a segment starts with
abbrev pub segment_args : RecoverArgs → Looked → ℕ → SegmentArgs
segment_args x looked segment = record {
  tag = x.tag;
  stream = x.stream;
  member = None;
  segment = segment;
  maxseq = looked.maxseq;
  version = looked.version;
  conf = x.conf;
}

-- a look
abbrev pub looks : RecoverArgs → RecoverStage × Next Found
looks x = within LookingFor RecoverDone (λ looked. (RecoverDone, Wait)) (look_first x.stream)

-- a segment that is recovered
abbrev pub after_segment : RecoverArgs → SegmentArgs → Recovered → RecoverStage × Next Found
after_segment x args (ClosedAt count) = (RecoverDone, Done (Completes (place args.segment count 0)))
after_segment x args Again = looks x

-- the recovery of a segment
abbrev pub segment_goes : RecoverArgs → SegmentArgs → SegmentStage × Next Recovered → RecoverStage × Next Found
segment_goes x args move = within (RecoveringSegment args) RecoverDone (after_segment x args) move

-- a last segment that is in progress is recovered
abbrev pub after_look : RecoverArgs → Looked → Option SegmentName → RecoverStage × Next Found
after_look x looked (Some (Progress k)) = segment_goes x (segment_args x looked k) (segment_first (segment_args x looked k))
after_look x looked last = (RecoverDone, Done Whole)

-- what it begins with
abbrev pub recover_first : RecoverArgs → RecoverStage × Next Found
recover_first x = looks x

-- what it does at what it hears
unfoldable pub recover_hears : RecoverArgs → RecoverStage → Heard → RecoverStage × Next Found
recover_hears x (LookingFor stage) h =
    within LookingFor RecoverDone (λ looked. after_look x looked (last_segment looked.segments)) (look_hears x.stream stage h)
recover_hears x (RecoveringSegment args stage) h = segment_goes x args (segment_hears args stage h)
recover_hears x RecoverDone h = (RecoverDone, Wait)

-- the stage after all that it heard, the newest first
abbrev pub recover_stage : RecoverArgs → List Heard → RecoverStage
recover_stage x heard = stage_after (recover_first x) (recover_hears x) heard

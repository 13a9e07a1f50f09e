-- The recovery of a segment promises nothing but what it heard promised.
use Rattle.std.proofs.Common.{ℕ, zero, suc, Result, Ok, Err}
use Rattle.std.proofs.lemmas.Bool.{cond_both}
use Rattle.dl_types.specs.declared.meta_answer.MetaAnswer.{MetaAnswer}
use Rattle.dl_types.specs.declared.meta_answer.MetaAnswer.TheVariants as answer
use Rattle.dl_types.specs.declared.one_answer.OneAnswer.TheVariants.{Bytes}
use Rattle.dl_types.specs.declared.refusal.Refusal.{Refusal}
use Rattle.dl_types.specs.declared.why.Why.{Why}
use Rattle.dl_types.specs.declared.why.Why.TheVariants.{NoNode}
use Rattle.dl_quorum.specs.Pieces.{members}
use Rattle.dl_msg.specs.declared.heard.Heard.{Heard}
use Rattle.dl_msg.specs.declared.heard.Heard.TheVariants.{Reply, From}
use Rattle.dl_msg.specs.declared.msg.Msg.{Msg}
use Rattle.dl_msg.specs.declared.msg.Msg.TheVariants.{AskEntry}
use Rattle.dl_formats.specs.declared.segment.SegmentMeta.{SegmentMeta}
use Rattle.dl_formats.specs.declared.segment_name.SegmentName.TheVariants.{Progress}
use Rattle.dl_rules_ledger.specs.Readers.{ReaderStage, Fetched, asks_entry, hears}
use Rattle.dl_rules_stream.specs.Nodes.{LedgerNode}
use Rattle.dl_rules_stream.specs.Orders.{Next, Wait, Ask, Tell, Done, Refused, or_refused, within}
use Rattle.dl_rules_stream.specs.Requests.{Completion}
use Rattle.dl_rules_stream.specs.Listings.{segment_of, ledger_of}
use Rattle.dl_rules_stream.specs.LedgerRecoveries as ledger
use Rattle.dl_rules_stream.specs.LedgerRecoveries.{RecoveryStage}
use Rattle.dl_rules_stream.specs.SegmentRecoveries as segment
use Rattle.dl_rules_stream.specs.SegmentRecoveries.{SegmentArgs, SegmentStage, Recovered}
use Rattle.dl_law_nodes.specs.Disks.{Nodes}
use Rattle.dl_law_nodes.specs.Promises.{Shapes, LastPiecesFollow, AnswerHolds}
use Rattle.dl_law_nodes.proofs.Tasks.{told_each}
use Rattle.dl_law_stores.specs.Tasks.{HeardHolds, StageGoesOn}
use Rattle.dl_law_stores.specs.Segments.{SegmentHolds, SegmentKnowsPieces, SegmentGoesOn, SegmentRecoveriesHold}
use Rattle.dl_law_stores.proofs.Tasks.{tells_hold, ledger_recoveries_hold}

module _ (shape : Shapes) (k : Nodes) (x : SegmentArgs) where
  -- a stage goes on
  abbrev Goes : SegmentStage × Next Recovered → Type 0
  Goes move = SegmentGoesOn shape k move

  -- behind the last entry
  end_goes : (l : ℕ) (m : LedgerNode) (stage : ReaderStage) → Goes (segment.after_end x l m stage)
  end_goes l m (Fetched bytes) = record { stage = tt; next = tt }
  end_goes l m stage = record { stage = tt; next = tt }

  -- behind a closed ledger
  closed_goes : (l : ℕ) (m : LedgerNode) (count : ℕ) → Goes (segment.after_closed x l m count)
  closed_goes l m zero = record { stage = tt; next = tt }
  closed_goes l m (suc last) = record {
    stage = tt;
    next = tells_hold shape k Recovered (asks_entry (segment.end_subject x l m) last)
        (told_each shape k (members (segment.end_subject x l m).pieces last) (AskEntry x.tag l last) tt);
  }

  -- the recovery of the ledger, within that of the segment
  within_goes : (l : ℕ) (stage : RecoveryStage) (next : Next ℕ) → StageGoesOn shape k l (stage, next)
      → Goes (within (segment.RecoveringLedger l) segment.SegmentDone (λ n. (segment.SegmentDone, Wait)) (stage, next))
  within_goes l stage Wait g = record { stage = g.stage; next = tt }
  within_goes l stage (Ask r) g = record { stage = g.stage; next = tt }
  within_goes l stage (Tell letters) g = record { stage = g.stage; next = g.next }
  within_goes l stage (Done n) g = record { stage = tt; next = tt }
  within_goes l stage (Refused r) g = record { stage = tt; next = tt }

  -- behind the recovery of the ledger
  ledger_goes : (l : ℕ) (move : RecoveryStage × Next ℕ) → StageGoesOn shape k l move → Goes (segment.after_ledger x l move)
  ledger_goes l (ledger.IsGone last, next) g = record { stage = tt; next = tt }
  ledger_goes l (ledger.IsClosed m, next) g = closed_goes l m m.count
  ledger_goes l (stage, next) g = within_goes l stage next g

  -- behind the node of the segment
  segment_goes : (r : Result SegmentMeta Refusal) → Goes (or_refused segment.SegmentDone (segment.after_segment x) r)
  segment_goes (Ok m) =
      ledger_goes (ledger_of m) (ledger.recovery_first (segment.ledger_args x (ledger_of m)))
      (ledger_recoveries_hold shape k (segment.ledger_args x (ledger_of m))).begun
  segment_goes (Err r) = record { stage = tt; next = tt }

  -- a completion fails
  not_completed_goes : (c : Completion) (at : ℕ) (w : Why) → Goes (segment.not_completed c at w)
  not_completed_goes c at w =
      cond_both (segment.is_completed c.member at w) _ _ Goes (λ _. record { stage = tt; next = tt }) (λ _. record { stage = tt; next = tt })

  module _ (follow : LastPiecesFollow shape k) where
    -- an answer
    answer_goes : (stage : SegmentStage) (a : MetaAnswer) → SegmentKnowsPieces shape x stage → SegmentHolds shape k stage
        → Goes (segment.segment_answers x stage a)
    unfolding segment.segment_answers
    answer_goes segment.GettingSegment (answer.One (Bytes bytes version)) own h = segment_goes (segment_of x.stream (Progress x.segment) bytes)
    answer_goes segment.GettingSegment (answer.Failed at NoNode) own h = record { stage = tt; next = tt }
    answer_goes segment.GettingSegment (answer.Failed at w) own h = record { stage = tt; next = tt }
    answer_goes (segment.RecoveringLedger l stage) a own h =
        ledger_goes l (ledger.recovery_hears (segment.ledger_args x l) stage (Reply a))
        ((ledger_recoveries_hold shape k (segment.ledger_args x l)).heard follow stage (Reply a) own h tt)
    answer_goes (segment.Completing c) (answer.Failed at w) own h = not_completed_goes c at w
    answer_goes (segment.Completing c) a own h = record { stage = tt; next = tt }
    answer_goes (segment.CheckingSegment l) (answer.Failed at NoNode) own h = record { stage = tt; next = tt }
    answer_goes (segment.CheckingSegment l) a own h = record { stage = tt; next = tt }
    answer_goes stage a own h = record { stage = h; next = tt }

    -- a message of a bookie
    told_goes : (stage : SegmentStage) (b : ℕ) (m : Msg) → SegmentKnowsPieces shape x stage → SegmentHolds shape k stage → AnswerHolds shape k b m
        → Goes (segment.segment_told x stage b m)
    told_goes (segment.RecoveringLedger l stage) b m own h a =
        ledger_goes l (ledger.recovery_hears (segment.ledger_args x l) stage (From b m))
        ((ledger_recoveries_hold shape k (segment.ledger_args x l)).heard follow stage (From b m) own h a)
    told_goes (segment.FetchingEnd l node stage) b m own h a = end_goes l node (hears (segment.end_subject x l node) stage b m)
    told_goes stage b m own h a = record { stage = h; next = tt }

    -- what it hears
    heard_goes : (stage : SegmentStage) (h : Heard) → SegmentKnowsPieces shape x stage → SegmentHolds shape k stage → HeardHolds shape k h
        → Goes (segment.segment_hears x stage h)
    unfolding segment.segment_hears
    heard_goes stage (Reply a) own s h = answer_goes stage a own s
    heard_goes stage (From b m) own s h = told_goes stage b m own s h

-- recoveries of segments hold
pub segment_recoveries_hold : SegmentRecoveriesHold
segment_recoveries_hold shape k x = record { begun = record { stage = tt; next = tt }; heard = heard_goes shape k x }

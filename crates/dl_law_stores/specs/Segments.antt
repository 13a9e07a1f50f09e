-- What the recovery of a segment knows of the storage nodes.
use Rattle.dl_msg.specs.declared.heard.Heard.{Heard}
use Rattle.dl_rules_stream.specs.Orders.{Next}
use Rattle.dl_rules_stream.specs.SegmentRecoveries.{SegmentArgs, SegmentStage, GettingSegment, RecoveringLedger, FetchingEnd, Completing, CheckingSegment}
use Rattle.dl_rules_stream.specs.SegmentRecoveries.{SegmentDone, Recovered, ledger_args, segment_first, segment_hears}
use Rattle.dl_law_nodes.specs.Disks.{Nodes}
use Rattle.dl_law_nodes.specs.Promises.{Shapes, LastPiecesFollow}
use Rattle.dl_law_stores.specs.Tasks.{HeardHolds, NextHolds, StageHolds, KnowsPieces}

-- what it knows at a stage: what the recovery of its ledger knows
abbrev pub SegmentHolds : Shapes → Nodes → SegmentStage → Type 0
SegmentHolds shape k GettingSegment = Unit {0}
SegmentHolds shape k (RecoveringLedger ledger stage) = StageHolds shape k ledger stage
SegmentHolds shape k (FetchingEnd ledger node stage) = Unit {0}
SegmentHolds shape k (Completing c) = Unit {0}
SegmentHolds shape k (CheckingSegment ledger) = Unit {0}
SegmentHolds shape k SegmentDone = Unit {0}

-- the pieces that it reads from its ledger's node are the ledger's own, where it asks bookies by them
abbrev pub SegmentKnowsPieces : Shapes → SegmentArgs → SegmentStage → Type 0
SegmentKnowsPieces shape x GettingSegment = Unit {0}
SegmentKnowsPieces shape x (RecoveringLedger ledger stage) = KnowsPieces shape (ledger_args x ledger) stage
SegmentKnowsPieces shape x (FetchingEnd ledger node stage) = Unit {0}
SegmentKnowsPieces shape x (Completing c) = Unit {0}
SegmentKnowsPieces shape x (CheckingSegment ledger) = Unit {0}
SegmentKnowsPieces shape x SegmentDone = Unit {0}

-- A stage that it has come to, and what it does next.
pub record SegmentGoesOn (shape : Shapes) (k : Nodes) (move : SegmentStage × Next Recovered) : Type 0 where
  pub stage : SegmentHolds shape k move.0
  pub next : NextHolds shape k move.1

-- The recovery of a segment knows nothing but what it heard promised.
pub record SegmentRecoveryHolds (shape : Shapes) (k : Nodes) (x : SegmentArgs) : Type 0 where
  pub begun : SegmentGoesOn shape k (segment_first x)
  pub heard : LastPiecesFollow shape k → (stage : SegmentStage) (h : Heard) → SegmentKnowsPieces shape x stage → SegmentHolds shape k stage
      → HeardHolds shape k h → SegmentGoesOn shape k (segment_hears x stage h)

-- so do all
abbrev pub SegmentRecoveriesHold : Type 0
SegmentRecoveriesHold = (shape : Shapes) (k : Nodes) (x : SegmentArgs) → SegmentRecoveryHolds shape k x

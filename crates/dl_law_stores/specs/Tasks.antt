-- What the recovery of a ledger as a whole and the writer of a log segment know of the storage nodes.
use Rattle.std.specs.Prelude.{◌≡◌, ℕ, List, IfOk}
use Rattle.dl_types.specs.declared.row.Origin.{Origin}
use Rattle.dl_msg.specs.declared.heard.Heard.{Heard}
use Rattle.dl_msg.specs.declared.heard.Heard.TheVariants.{Reply, From}
use Rattle.dl_msg.specs.declared.msg.Msg.{Msg}
use Rattle.dl_rules_stream.specs.Orders.{Next, Wait, Ask, Tell, Done, Refused}
use Rattle.dl_rules_stream.specs.LedgerRecoveries.{RecoveryArgs, RecoveryStage, GettingNode, Marking, Searching, Closing, IsClosed, IsGone, WasRefused, subject_of}
use Rattle.dl_rules_stream.specs.LedgerRecoveries.{recovery_first, recovery_hears}
use Rattle.dl_rules_stream.specs.LogWriters as log
use Rattle.dl_rules_stream.specs.LogWriters.{LogArgs, LogNow, LogMove, log_started, appends, appends_set, log_flushes, log_hears}
use Rattle.dl_law_nodes.specs.Disks.{Nodes}
use Rattle.dl_law_nodes.specs.Promises.{Shapes, LastPiecesFollow, AnswerHolds, ToldHold, EndsAt, PhaseHolds, WriterHolds}

-- ---- orders

-- what an order hears keeps its promise
abbrev pub HeardHolds : Shapes → Nodes → Heard → Type 0
HeardHolds shape k (Reply a) = Unit {0}
HeardHolds shape k (From b m) = AnswerHolds shape k b m

-- what an order does next: what it tells keeps its promise
abbrev pub NextHolds : {A : Type 0} → Shapes → Nodes → Next A → Type 0
NextHolds shape k Wait = Unit {0}
NextHolds shape k (Ask r) = Unit {0}
NextHolds shape k (Tell told) = ToldHold shape k told
NextHolds shape k (Done a) = Unit {0}
NextHolds shape k (Refused r) = Unit {0}

-- ---- the recovery of a ledger

-- what it knows at a stage; a count at which it closes is its end
abbrev pub StageHolds : Shapes → Nodes → ℕ → RecoveryStage → Type 0
StageHolds shape k l (GettingNode found) = Unit {0}
StageHolds shape k l (Marking found version) = Unit {0}
StageHolds shape k l (Searching found version phase) = PhaseHolds shape k l phase
StageHolds shape k l (Closing found version count) = EndsAt shape k l count
StageHolds shape k l (IsClosed found) = Unit {0}
StageHolds shape k l (IsGone found) = Unit {0}
StageHolds shape k l (WasRefused found) = Unit {0}

-- the pieces that it reads from the ledger's node are the ledger's own, where it asks bookies by them
abbrev pub KnowsPieces : Shapes → RecoveryArgs → RecoveryStage → Type 0
KnowsPieces shape x (GettingNode found) = Unit {0}
KnowsPieces shape x (Marking found version) = Unit {0}
KnowsPieces shape x (Searching found version phase) = (subject_of x found).pieces ≡ shape x.ledger
KnowsPieces shape x (Closing found version count) = Unit {0}
KnowsPieces shape x (IsClosed found) = Unit {0}
KnowsPieces shape x (IsGone found) = Unit {0}
KnowsPieces shape x (WasRefused found) = Unit {0}

-- A stage that it has come to, and what it does next.
pub record StageGoesOn (shape : Shapes) (k : Nodes) (l : ℕ) (move : RecoveryStage × Next ℕ) : Type 0 where
  pub stage : StageHolds shape k l move.0
  pub next : NextHolds shape k move.1

-- The recovery of a ledger knows nothing but what it heard promised.
pub record LedgerRecoveryHolds (shape : Shapes) (k : Nodes) (x : RecoveryArgs) : Type 0 where
  pub begun : StageGoesOn shape k x.ledger (recovery_first x)
  pub heard : LastPiecesFollow shape k → (stage : RecoveryStage) (h : Heard) → KnowsPieces shape x stage → StageHolds shape k x.ledger stage
      → HeardHolds shape k h → StageGoesOn shape k x.ledger (recovery_hears x stage h)

-- so do all
abbrev pub LedgerRecoveriesHold : Type 0
LedgerRecoveriesHold = (shape : Shapes) (k : Nodes) (x : RecoveryArgs) → LedgerRecoveryHolds shape k x

-- ---- the writer of a segment

-- What a log writer knows: its ledger's pieces are the ledger's own, and its ledger's writer knows what it knows.
pub record LogHolds (shape : Shapes) (k : Nodes) (w : LogNow) : Type 0 where
  pub own : w.ledger.pieces ≡ shape w.ledger.ledger
  pub writer : WriterHolds k w.ledger

-- A move of a log writer: it knows what it knows, and what it tells keeps its promise.
pub record LogGoesOn (shape : Shapes) (k : Nodes) (m : LogMove) : Type 0 where
  pub now : LogHolds shape k m.now
  pub told : ToldHold shape k m.letters

-- Each call of a log writer is such a move, where it isn't refused.
pub record LogCallsHold (shape : Shapes) (k : Nodes) (w : LogNow) : Type 0 where
  pub appending : (o : Origin) (txid : ℕ) (payload : List ℕ) → IfOk (appends w o txid payload) (LogGoesOn shape k)
  pub appending_set : (o : Origin) (txid : ℕ) (payloads : List (List ℕ)) → IfOk (appends_set w o txid payloads) (LogGoesOn shape k)
  pub flushing : IfOk (log_flushes w) (LogGoesOn shape k)
  pub committing : IfOk (log.commits w) (LogGoesOn shape k)
  pub closing : IfOk (log.closes w) (LogGoesOn shape k)
  pub hearing : (b : ℕ) (m : Msg) → AnswerHolds shape k b m → LogGoesOn shape k (log_hears w b m)

-- A log writer that was just started on the ledger's own pieces knows so, and so after each call.
pub record LogWritersHold : Type 0 where
  pub begun : (shape : Shapes) (k : Nodes) (x : LogArgs) → x.pieces ≡ shape x.ledger → LogHolds shape k (log_started x)
  pub each : (shape : Shapes) (k : Nodes) (w : LogNow) → LogHolds shape k w → LogCallsHold shape k w

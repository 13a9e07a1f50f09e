-- The recovery of a segment stands for a view: what it was given, and all that it heard.
use Rattle.std.specs.Prelude.{◌≡◌, ℕ, List, Option}
use Rattle.dl_formats.specs.declared.conf.Conf.{Conf}
use Rattle.dl_formats.specs.declared.maxseq.MaxSeq.{MaxSeq}
use Rattle.dl_rules_ledger.specs.Readers.{ReaderStage}
use Rattle.dl_rules_stream.specs.Nodes.{LedgerNode}
use Rattle.dl_rules_stream.specs.Orders.{Next}
use Rattle.dl_rules_stream.specs.SegmentRecoveries as rule
use Rattle.dl_requests.specs.Completions.{completion_by}
use Rattle.dl_requests.specs.Tasks.{View, Order, stage_by}
use Rattle.dl_requests.specs.Turns.{turn_of, next_by, stage_behind, turn_in}
use Rattle.dl_requests.specs.declared.moves.Move.{Move}
use Rattle.dl_lread.specs.Facts.{ReaderFacts}
use Rattle.dl_lread.specs.Standing as reading
use Rattle.dl_lrecover.specs.Facts.{RecoveryFacts}
use Rattle.dl_lrecover.specs.Views as recovering
use Rattle.dl_rules_stream.specs.LedgerRecoveries.{RecoveryStage}
use Rattle.dl_segrecover.specs.declared.recovered.Recovered.{Recovered}
use Rattle.dl_segrecover.specs.declared.recovered.Recovered.TheVariants.{Closed, Again}
use Rattle.dl_segrecover.specs.declared.stage.Stage.{Stage}
use Rattle.dl_segrecover.specs.declared.stage.Stage.TheVariants as kept
use Rattle.dl_segrecover.specs.Facts.{SegmentFacts}

-- the arguments of the order, one by one
abbrev pub given_of : ℕ → List ℕ → Option (List ℕ) → ℕ → MaxSeq → ℕ → Conf → rule.SegmentArgs
given_of tag stream member segment maxseq version conf = record {
  tag = tag;
  stream = stream;
  member = member;
  segment = segment;
  maxseq = maxseq;
  version = version;
  conf = conf;
}

-- the order that recovers a segment
abbrev pub segment_order : Order rule.SegmentArgs rule.SegmentStage rule.Recovered
segment_order = record { first = rule.segment_first; hears = rule.segment_hears }

-- what the task is done with, where the order is done with this
abbrev pub recovered_of : rule.Recovered → Recovered
recovered_of (rule.ClosedAt count) = Closed count
recovered_of rule.Again = Again

-- ---- stages

-- a kept recovery of this ledger stands at a stage of its rule
pub record IsRecovering (x : rule.SegmentArgs) (ledger : ℕ) (stage : RecoveryStage) (l : ℕ) (recovery : RecoveryFacts) : Type 0 where
  pub ledger_is : l ≡ ledger
  pub stands : recovering.StandsAt (rule.ledger_args x ledger) stage recovery

-- a kept reader of this ledger, which is closed at the kept count, stands at a stage of its rule
pub record IsFetching (x : rule.SegmentArgs) (ledger : ℕ) (m : LedgerNode) (stage : ReaderStage) (l entries : ℕ) (reader : ReaderFacts)
    : Type 0 where
  pub ledger_is : l ≡ ledger
  pub entries_are : entries ≡ m.count
  pub stands : reading.StandsAt (rule.end_subject x ledger m) stage reader

-- a kept stage stands for a stage of the order
abbrev pub StageStands : rule.SegmentArgs → rule.SegmentStage → Stage → Type 0
StageStands x rule.GettingSegment kept.GettingSegment = Unit {0}
StageStands x (rule.RecoveringLedger ledger stage) (kept.RecoveringLedger l recovery) = IsRecovering x ledger stage l recovery
StageStands x (rule.FetchingEnd ledger m stage) (kept.FetchingEnd l entries reader) = IsFetching x ledger m stage l entries reader
StageStands x (rule.Completing c) (kept.Completing end) = completion_by x.stream x.member end ≡ c
StageStands x (rule.CheckingSegment ledger) (kept.CheckingSegment l) = l ≡ ledger
StageStands x rule.SegmentDone kept.Over = Unit {0}
StageStands x _ _ = ⊥

-- a task stands at a stage of its order
pub record StandsAt (x : rule.SegmentArgs) (stage : rule.SegmentStage) (f : SegmentFacts) : Type 0 where
  pub given : f.given ≡ x
  pub at : StageStands x stage f.stage

-- a task stands for a view: each thing that it keeps is what the view says
abbrev pub StandsFor : View rule.SegmentArgs → SegmentFacts → Type 0
StandsFor v f = StandsAt v.given (stage_by segment_order v) f

-- a task at another kept stage
abbrev pub with_stage : SegmentFacts → Stage → SegmentFacts
with_stage f stage = record { given = f.given; stage = stage }

-- ---- moves

-- a move from a kept stage goes where the order goes
pub record IsMove (x : rule.SegmentArgs) (from : Stage) (to : rule.SegmentStage × Next rule.Recovered) (move : Move Stage Recovered) : Type 0 where
  pub stage : StageStands x to.0 (stage_behind from move)
  pub turn : turn_in move ≡ turn_of (next_by recovered_of to.1)

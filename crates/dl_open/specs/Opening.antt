-- The opening of a stream stands for a view: what it was given, and all that it heard.
use Rattle.std.specs.Prelude.{◌≡◌, ℕ, ◌+◌, List, Option, Some, None}
use Rattle.dl_types.specs.declared.dlsn.Dlsn.{Dlsn}
use Rattle.dl_types.specs.Places.{place}
use Rattle.dl_quorum.specs.Pieces.{ring}
use Rattle.dl_msg.specs.declared.heard.Heard.{Heard}
use Rattle.dl_msg.specs.declared.turn.Turn.{Turn}
use Rattle.dl_msg.specs.declared.turn.Turn.TheVariants as turn
use Rattle.dl_formats.specs.declared.conf.Conf.{Conf}
use Rattle.dl_rules_stream.specs.Allocations.{AllocationStage}
use Rattle.dl_rules_stream.specs.Looks as looks
use Rattle.dl_rules_stream.specs.Nodes.{new_sizes}
use Rattle.dl_rules_stream.specs.Opens as rule
use Rattle.dl_rules_stream.specs.Orders.{Next}
use Rattle.dl_rules_stream.specs.SegmentRecoveries.{SegmentArgs, SegmentStage}
use Rattle.dl_requests.specs.Beginnings.{beginning_by}
use Rattle.dl_requests.specs.Tasks.{View, Order, stage_by, with_heard}
use Rattle.dl_requests.specs.Turns.{IsTurn}
use Rattle.dl_alloc.specs.declared.stage.Stage as alloc_stage
use Rattle.dl_alloc.specs.Facts.{AllocationFacts}
use Rattle.dl_alloc.specs.Standing as allocation
use Rattle.dl_lock.specs.declared.stage.Stage as lock_stage
use Rattle.dl_lock.specs.Standing as lock
use Rattle.dl_segrecover.specs.declared.recovered.Recovered.{Recovered}
use Rattle.dl_segrecover.specs.declared.recovered.Recovered.TheVariants as comes_to
use Rattle.dl_segrecover.specs.declared.stage.Stage as segment_stage
use Rattle.dl_segrecover.specs.Facts.{SegmentFacts}
use Rattle.dl_segrecover.specs.Standing as segment
use Rattle.dl_writer.specs.Views as log
use Rattle.dl_open.specs.declared.given.Given.{Given}
use Rattle.dl_open.specs.declared.next_segment.NextSegment.{NextSegment}
use Rattle.dl_open.specs.declared.new_writer.NewWriter.{NewWriter}
use Rattle.dl_open.specs.declared.open_turn.OpenTurn.{OpenTurn}
use Rattle.dl_open.specs.declared.open_stage.OpenStage.{OpenStage}
use Rattle.dl_open.specs.declared.open_stage.OpenStage.TheVariants as kept
use Rattle.dl_open.specs.declared.open_step.OpenStep.{OpenStep}
use Rattle.dl_open.specs.declared.open_step.OpenStep.TheVariants as step

-- What the opening of a stream was given, and what it waits for.
pub record OpenFacts : Type 0 where
  pub given : rule.OpenArgs
  pub stage : OpenStage

-- the arguments of the order, one by one
abbrev pub given_of : ℕ → List ℕ → Conf → rule.OpenArgs
given_of tag stream conf = record { tag = tag; stream = stream; conf = conf }

-- the arguments of the order, by what is kept of them
abbrev pub args_of : Given → rule.OpenArgs
args_of g = given_of g.tag g.stream g.conf

-- the order that opens a stream
abbrev pub open_order : Order rule.OpenArgs rule.OpenStage rule.Opened
open_order = record { first = rule.open_first; hears = rule.open_hears }

-- The writer with which an order is done, where its rule is done with this: each number is the rule's, and the log is a new one.
pub record IsNewWriter (x : rule.OpenArgs) (o : rule.Opened) (w : NewWriter) : Type 0 where
  pub member : w.member ≡ o.member
  pub segment : w.segment ≡ o.segment
  pub ledger : w.ledger ≡ o.ledger
  pub last : w.last ≡ o.last
  pub version : w.version ≡ o.version
  pub log : log.StandsFor (log.new_view (log.args_of o.segment o.last o.ledger (ring o.ledger x.conf.b (new_sizes x.conf)))) w.log

-- where a segment is complete by what its recovery comes to, the place below which all its rows stand
abbrev pub closed_at : ℕ → Recovered → Option Dlsn
closed_at k (comes_to.Closed count) = Some (place k count 0)
closed_at k comes_to.Again = None

-- the same by a turn of its recovery
abbrev pub closed_by : ℕ → Turn Recovered → Option Dlsn
closed_by k (turn.Done recovered) = closed_at k recovered
closed_by k t = None

-- ---- stages

-- a kept recovery of this segment stands at a stage of its rule
pub record IsRecovering (member : List ℕ) (args : SegmentArgs) (stage : SegmentStage) (m : List ℕ) (k : ℕ) (recovery : SegmentFacts) : Type 0 where
  pub member_is : m ≡ member
  pub segment_is : k ≡ args.segment
  pub stands : segment.StandsAt args stage recovery

-- the next segment, by what a look told
abbrev pub next_of : looks.Looked → NextSegment
next_of l = record { segment = l.maxseq.segment + 1; last = l.maxseq.last; version = l.version }

-- a kept allocation stands at a stage of its rule
pub record IsAllocating (x : rule.OpenArgs) (member : List ℕ) (looked : looks.Looked) (stage : AllocationStage) (m : List ℕ) (n : NextSegment)
    (a : AllocationFacts) : Type 0 where
  pub member_is : m ≡ member
  pub next_is : n ≡ next_of looked
  pub stands : allocation.StandsAt (rule.allocation_args x member looked) stage a

-- a kept stage stands for a stage of the order
abbrev pub StageStands : rule.OpenArgs → rule.OpenStage → OpenStage → Type 0
StageStands x (rule.Locking stage) (kept.Locking l) = lock.StandsAt x.stream stage l
StageStands x (rule.LookingFor member looks.Looking) (kept.Looking m) = m ≡ member
StageStands x (rule.RecoveringSegment member args stage) (kept.Recovering m k recovery) = IsRecovering member args stage m k recovery
StageStands x (rule.Allocating member looked stage) (kept.Allocating m n a) = IsAllocating x member looked stage m n a
StageStands x (rule.Starting b) (kept.Starting m start) = beginning_by x.stream m start ≡ b
StageStands x rule.OpenDone kept.Over = Unit {0}
StageStands x _ _ = ⊥

-- an order stands at a stage of its rule
pub record OpensAt (x : rule.OpenArgs) (stage : rule.OpenStage) (f : OpenFacts) : Type 0 where
  pub given : f.given ≡ x
  pub at : StageStands x stage f.stage

-- an order stands for a view: each thing that it keeps is what the view says
abbrev pub OpensFor : View rule.OpenArgs → OpenFacts → Type 0
OpensFor v f = OpensAt v.given (stage_by open_order v) f

-- An order goes on as the rule does: it answers with this turn, tells of the segment that it completed, and stands then at the
-- rule's stage.
pub record OpensBy (x : rule.OpenArgs) (stage : rule.OpenStage) (h : Heard) (t : OpenTurn) (f : OpenFacts) : Type 0 where
  pub turn : IsTurn (IsNewWriter x) (rule.open_hears x stage h).1 t.turn
  pub recovered : t.recovered ≡ rule.open_recovers stage h
  pub stands : OpensAt x (rule.open_hears x stage h).0 f

-- An order answers by what its view says, and stands then for the view with what it heard.
pub record Hears (v : View rule.OpenArgs) (h : Heard) (t : OpenTurn) (f : OpenFacts) : Type 0 where
  pub turn : IsTurn (IsNewWriter v.given) (rule.open_hears v.given (stage_by open_order v) h).1 t.turn
  pub recovered : t.recovered ≡ rule.open_recovers (stage_by open_order v) h
  pub stands : OpensFor (with_heard v h) f

-- ---- steps

-- a kept stage, with its lock at another stage
abbrev pub with_lock : OpenStage → lock_stage.Stage → OpenStage
with_lock (kept.Locking l) next = kept.Locking (lock.with_stage l next)
with_lock stage next = stage

-- a kept stage, with its recovery of a segment at another stage
abbrev pub with_recovery : OpenStage → segment_stage.Stage → OpenStage
with_recovery (kept.Recovering m k recovery) next = kept.Recovering m k (segment.with_stage recovery next)
with_recovery stage next = stage

-- a kept stage, with its allocation at another stage
abbrev pub with_allocation : OpenStage → alloc_stage.Stage → OpenStage
with_allocation (kept.Allocating m n a) next = kept.Allocating m n (allocation.with_stage a next)
with_allocation stage next = stage

-- the kept stage behind a step
abbrev pub stage_behind : OpenStage → OpenStep → OpenStage
stage_behind stage step.Stays = stage
stage_behind stage (step.Locks next t) = with_lock stage next
stage_behind stage (step.Recovers next t) = with_recovery stage next
stage_behind stage (step.Allocates next t) = with_allocation stage next
stage_behind stage (step.Goes next t) = next

-- the turn of a step
abbrev pub turn_in : OpenStep → Turn NewWriter
turn_in step.Stays = turn.Wait
turn_in (step.Locks next t) = t
turn_in (step.Recovers next t) = t
turn_in (step.Allocates next t) = t
turn_in (step.Goes next t) = t

-- a step from a kept stage goes where the order goes
pub record IsStep (x : rule.OpenArgs) (from : OpenStage) (to : rule.OpenStage × Next rule.Opened) (s : OpenStep) : Type 0 where
  pub stage : StageStands x to.0 (stage_behind from s)
  pub turn : IsTurn (IsNewWriter x) to.1 (turn_in s)

-- A task that deletes the segments below a stream's point stands for a view: the stream, and all that it heard.
use Rattle.std.specs.Prelude.{◌≡◌, ℕ, ◌+◌, List}
use Rattle.dl_formats.specs.declared.segment_name.SegmentName.{SegmentName}
use Rattle.dl_msg.specs.declared.turn.Turn.{Turn}
use Rattle.dl_msg.specs.declared.turn.Turn.TheVariants as turn
use Rattle.dl_rules_stream.specs.Purges as rule
use Rattle.dl_requests.specs.Turns.{answer_of}
use Rattle.dl_requests.specs.Tasks.{View, Order, stage_by}
use Rattle.dl_trunc.specs.declared.purge_stage.PurgeStage.{PurgeStage}
use Rattle.dl_trunc.specs.declared.purge_stage.PurgeStage.TheVariants.{Listing, Getting, Dropping, Over}
use Rattle.dl_trunc.specs.declared.purge_answers.Step.{Step}
use Rattle.dl_trunc.specs.declared.purge_answers.Step.TheVariants.{Stays, Goes, Lists, Passes, Counts}
use Rattle.dl_trunc.specs.Facts.{PurgeFacts}

-- the order that deletes the segments below a stream's point
abbrev pub purge_order : Order (List ℕ) rule.PurgeStage ℕ
purge_order = record { first = rule.purge_first; hears = rule.purge_hears }

-- the stage of the order that a kept stage stands for, with the segments that are left and the count of deletions
abbrev pub purge_stage_of : List SegmentName → ℕ → PurgeStage → rule.PurgeStage
purge_stage_of left count Listing = rule.ListingCut
purge_stage_of left count (Getting segment) = rule.GettingSegment segment left count
purge_stage_of left count (Dropping segment ledger) = rule.Dropping segment ledger left count
purge_stage_of left count Over = rule.PurgeDone

-- what a step says, from a stage of the order: the order's stage behind it, and the task's turn
abbrev pub step_answer : List ℕ → List SegmentName → ℕ → rule.PurgeStage → Step → rule.PurgeStage × Turn ℕ
step_answer s left count stage Stays = (stage, turn.Wait)
step_answer s left count stage (Goes kept t) = (purge_stage_of left count kept, t)
step_answer s left count stage (Lists all) = answer_of (rule.goes_on s all.items 0)
step_answer s left count stage Passes = answer_of (rule.goes_on s left count)
step_answer s left count stage Counts = answer_of (rule.goes_on s left (count + 1))

-- a task stands at a stage of its order
pub record PurgesAt (s : List ℕ) (stage : rule.PurgeStage) (f : PurgeFacts) : Type 0 where
  pub stream : f.stream ≡ s
  pub at : purge_stage_of f.left f.count f.stage ≡ stage

-- a task stands for a view: each thing that it keeps is what the view says
abbrev pub PurgesFor : View (List ℕ) → PurgeFacts → Type 0
PurgesFor v f = PurgesAt v.given (stage_by purge_order v) f

-- The recovery of a stream stands for a view: what it was given, and all that it heard.
use Rattle.std.specs.Prelude.{◌≡◌, ℕ, List}
use Rattle.dl_msg.specs.declared.turn.Turn.{Turn}
use Rattle.dl_msg.specs.declared.turn.Turn.TheVariants as turn
use Rattle.dl_formats.specs.declared.conf.Conf.{Conf}
use Rattle.dl_rules_stream.specs.Listings.{last_segment}
use Rattle.dl_rules_stream.specs.Looks.{Looked, LookStage, Looking}
use Rattle.dl_rules_stream.specs.Orders.{Next, within}
use Rattle.dl_rules_stream.specs.Recovers as rule
use Rattle.dl_rules_stream.specs.SegmentRecoveries.{SegmentArgs, SegmentStage}
use Rattle.dl_requests.specs.Tasks.{View, Order, stage_by}
use Rattle.dl_requests.specs.Turns.{turn_of, next_by}
use Rattle.dl_segrecover.specs.declared.stage.Stage.{Stage}
use Rattle.dl_segrecover.specs.Facts.{SegmentFacts}
use Rattle.dl_segrecover.specs.Standing as segment
use Rattle.dl_open.specs.declared.found.Found.{Found}
use Rattle.dl_open.specs.declared.found.Found.TheVariants.{Whole, Completes}
use Rattle.dl_open.specs.declared.given.Given.{Given}
use Rattle.dl_open.specs.declared.recover_stage.RecoverStage.{RecoverStage}
use Rattle.dl_open.specs.declared.recover_stage.RecoverStage.TheVariants as kept
use Rattle.dl_open.specs.declared.recover_step.RecoverStep.{RecoverStep}
use Rattle.dl_open.specs.declared.recover_step.RecoverStep.TheVariants as step

-- What the recovery of a stream was given, and what it waits for.
pub record RecoverFacts : Type 0 where
  pub given : rule.RecoverArgs
  pub stage : RecoverStage

-- the arguments of the order, one by one
abbrev pub given_of : ℕ → List ℕ → Conf → rule.RecoverArgs
given_of tag stream conf = record { tag = tag; stream = stream; conf = conf }

-- the arguments of the order, by what is kept of them
abbrev pub args_of : Given → rule.RecoverArgs
args_of g = given_of g.tag g.stream g.conf

-- the order that recovers a stream
abbrev pub recover_order : Order rule.RecoverArgs rule.RecoverStage rule.Found
recover_order = record { first = rule.recover_first; hears = rule.recover_hears }

-- what the order is done with, where its rule is done with this
abbrev pub found_of : rule.Found → Found
found_of rule.Whole = Whole
found_of (rule.Completes end) = Completes end

-- a look, behind which the last segment is recovered
abbrev pub look_goes : rule.RecoverArgs → LookStage × Next Looked → rule.RecoverStage × Next rule.Found
look_goes x move = within rule.LookingFor rule.RecoverDone (λ looked. rule.after_look x looked (last_segment looked.segments)) move

-- ---- stages

-- a kept recovery of this segment stands at a stage of its rule
pub record IsRecovering (args : SegmentArgs) (stage : SegmentStage) (k : ℕ) (recovery : SegmentFacts) : Type 0 where
  pub segment_is : k ≡ args.segment
  pub stands : segment.StandsAt args stage recovery

-- a kept stage stands for a stage of the order
abbrev pub StageStands : rule.RecoverStage → RecoverStage → Type 0
StageStands (rule.LookingFor Looking) kept.Looking = Unit {0}
StageStands (rule.RecoveringSegment args stage) (kept.Recovering k recovery) = IsRecovering args stage k recovery
StageStands rule.RecoverDone kept.Over = Unit {0}
StageStands _ _ = ⊥

-- an order stands at a stage of its rule
pub record RecoversAt (x : rule.RecoverArgs) (stage : rule.RecoverStage) (f : RecoverFacts) : Type 0 where
  pub given : f.given ≡ x
  pub at : StageStands stage f.stage

-- an order stands for a view: each thing that it keeps is what the view says
abbrev pub RecoversFor : View rule.RecoverArgs → RecoverFacts → Type 0
RecoversFor v f = RecoversAt v.given (stage_by recover_order v) f

-- ---- steps

-- a kept stage, with its recovery of a segment at another stage
abbrev pub with_recovery : RecoverStage → Stage → RecoverStage
with_recovery (kept.Recovering k recovery) next = kept.Recovering k (segment.with_stage recovery next)
with_recovery stage next = stage

-- the kept stage behind a step
abbrev pub stage_behind : RecoverStage → RecoverStep → RecoverStage
stage_behind stage step.Stays = stage
stage_behind stage (step.Recovers next t) = with_recovery stage next
stage_behind stage (step.Goes next t) = next

-- the turn of a step
abbrev pub turn_in : RecoverStep → Turn Found
turn_in step.Stays = turn.Wait
turn_in (step.Recovers next t) = t
turn_in (step.Goes next t) = t

-- a step from a kept stage goes where the order goes
pub record IsStep (from : RecoverStage) (to : rule.RecoverStage × Next rule.Found) (s : RecoverStep) : Type 0 where
  pub stage : StageStands to.0 (stage_behind from s)
  pub turn : turn_in s ≡ turn_of (next_by found_of to.1)

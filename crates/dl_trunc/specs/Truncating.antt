-- A task that moves a stream's point up stands for a view: what it was given, and all that it heard.
use Rattle.std.specs.Prelude.{◌≡◌, ℕ, List}
use Rattle.dl_types.specs.declared.dlsn.Dlsn.{Dlsn}
use Rattle.dl_rules_stream.specs.Truncates as rule
use Rattle.dl_requests.specs.Tasks.{View, Order, stage_by}
use Rattle.dl_trunc.specs.declared.truncate_stage.TruncateStage.{TruncateStage}
use Rattle.dl_trunc.specs.declared.truncate_stage.TruncateStage.TheVariants.{Looking, Setting, Over}
use Rattle.dl_trunc.specs.Facts.{TruncateFacts}

-- the arguments of the order, one by one
abbrev pub given_of : List ℕ → Dlsn → rule.TruncateArgs
given_of stream place = record { stream = stream; place = place }

-- the bounds of a new point, one by one
abbrev pub bounds_with : Dlsn → Dlsn → rule.Bounds
bounds_with point end = record { point = point; end = end }

-- the order that moves a stream's point up
abbrev pub truncate_order : Order rule.TruncateArgs rule.TruncateStage Dlsn
truncate_order = record { first = rule.truncate_first; hears = rule.truncate_hears }

-- the stage of the order that a kept stage stands for
abbrev pub truncate_stage_of : TruncateStage → rule.TruncateStage
truncate_stage_of Looking = rule.LookingAtCut
truncate_stage_of (Setting version) = rule.SettingCut version
truncate_stage_of Over = rule.TruncateDone

-- a task stands at a stage of its order
pub record TruncatesAt (x : rule.TruncateArgs) (stage : rule.TruncateStage) (f : TruncateFacts) : Type 0 where
  pub given : f.given ≡ x
  pub at : truncate_stage_of f.stage ≡ stage

-- a task stands for a view: each thing that it keeps is what the view says
abbrev pub TruncatesFor : View rule.TruncateArgs → TruncateFacts → Type 0
TruncatesFor v f = TruncatesAt v.given (stage_by truncate_order v) f

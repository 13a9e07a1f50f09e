-- A task that removes a stream stands for a view: the stream, and all that it heard.
use Rattle.std.specs.Prelude.{◌≡◌, ℕ, List}
use Rattle.dl_rules_stream.specs.Removes as rule
use Rattle.dl_requests.specs.Tasks.{View, Order, stage_by}
use Rattle.dl_namespace.specs.declared.remove_stage.RemoveStage.{RemoveStage}
use Rattle.dl_namespace.specs.declared.remove_stage.RemoveStage.TheVariants.{Removing, Over}
use Rattle.dl_namespace.specs.Facts.{RemoveFacts}

-- the order that removes a stream
abbrev pub remove_order : Order (List ℕ) rule.RemoveStage (Unit {0})
remove_order = record { first = rule.remove_first; hears = rule.remove_hears }

-- the stage of the order that a kept stage stands for
abbrev pub remove_stage_of : RemoveStage → rule.RemoveStage
remove_stage_of Removing = rule.Removing
remove_stage_of Over = rule.RemoveDone

-- a task stands at a stage of its order
pub record RemovesAt (s : List ℕ) (stage : rule.RemoveStage) (f : RemoveFacts) : Type 0 where
  pub stream : f.stream ≡ s
  pub at : remove_stage_of f.stage ≡ stage

-- a task stands for a view: each thing that it keeps is what the view says
abbrev pub RemovesFor : View (List ℕ) → RemoveFacts → Type 0
RemovesFor v f = RemovesAt v.given (stage_by remove_order v) f

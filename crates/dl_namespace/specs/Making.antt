-- A task that makes a stream stands for a view: the stream, and all that it heard.
use Rattle.std.specs.Prelude.{◌≡◌, ℕ, List}
use Rattle.dl_rules_stream.specs.Makes as rule
use Rattle.dl_requests.specs.Tasks.{View, Order, stage_by}
use Rattle.dl_namespace.specs.declared.make_stage.MakeStage.{MakeStage}
use Rattle.dl_namespace.specs.declared.make_stage.MakeStage.TheVariants.{Making, MakingAgain, Over}
use Rattle.dl_namespace.specs.Facts.{MakeFacts}

-- the order that makes a stream
abbrev pub make_order : Order (List ℕ) rule.MakeStage (Unit {0})
make_order = record { first = rule.make_first; hears = rule.make_hears }

-- the stage of the order that a kept stage stands for
abbrev pub make_stage_of : MakeStage → rule.MakeStage
make_stage_of Making = rule.Making
make_stage_of MakingAgain = rule.MakingAgain
make_stage_of Over = rule.MakeDone

-- a task stands at a stage of its order
pub record MakesAt (s : List ℕ) (stage : rule.MakeStage) (f : MakeFacts) : Type 0 where
  pub stream : f.stream ≡ s
  pub at : make_stage_of f.stage ≡ stage

-- a task stands for a view: each thing that it keeps is what the view says
abbrev pub MakesFor : View (List ℕ) → MakeFacts → Type 0
MakesFor v f = MakesAt v.given (stage_by make_order v) f

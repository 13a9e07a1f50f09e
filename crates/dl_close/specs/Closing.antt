-- The end of a writer stands for a view: what it was given, and all that it heard.
use Rattle.std.specs.Prelude.{◌≡◌, ℕ, zero, suc, Bool, true, false, List, Some}
use Rattle.dl_types.specs.declared.why.Why.{Why}
use Rattle.dl_types.specs.declared.why.Why.TheVariants.{NoNode}
use Rattle.dl_quorum.specs.Sizes.{Sizes, sizes_of}
use Rattle.dl_rules_stream.specs.Closes as rule
use Rattle.dl_requests.specs.declared.segment_end.SegmentEnd.{SegmentEnd}
use Rattle.dl_requests.specs.Completions.{completion_by}
use Rattle.dl_requests.specs.Tasks.{View, Order, stage_by}
use Rattle.dl_close.specs.declared.close_given.CloseGiven.{CloseGiven}
use Rattle.dl_close.specs.declared.close_stage.CloseStage.{CloseStage}
use Rattle.dl_close.specs.declared.close_stage.CloseStage.TheVariants.{Closing, Completing, Leaving, Over}

-- What the end of a writer was given, and which request it waits for.
pub record CloseFacts : Type 0 where
  pub given : rule.CloseArgs
  pub stage : CloseStage

-- the arguments of the order, one by one
abbrev pub given_of : (stream member : List ℕ) → SegmentEnd → Sizes → ℕ → rule.CloseArgs
given_of stream member end q version = record { completion = completion_by stream (Some member) end; q = q; version = version; member = member }

-- the arguments of the order, by what is kept of them
abbrev pub args_of : CloseGiven → rule.CloseArgs
args_of g = given_of g.stream g.member g.end (sizes_of g.q) g.version

-- the order that ends a writer
abbrev pub close_order : Order rule.CloseArgs rule.CloseStage (Unit {0})
close_order = record { first = rule.close_first; hears = rule.close_hears }

-- whether a failure of the completion says that the segment in progress is there no more: its deletion is the second operation
abbrev pub is_completed : ℕ → Why → Bool
is_completed (suc zero) NoNode = true
is_completed place w = false

-- the stage of the order that a kept stage stands for
abbrev pub close_stage_of : CloseStage → rule.CloseStage
close_stage_of Closing = rule.ClosingLedger
close_stage_of Completing = rule.Completing
close_stage_of Leaving = rule.LeavingLock
close_stage_of Over = rule.CloseDone

-- an order stands at a stage of its rule
pub record ClosesAt (x : rule.CloseArgs) (stage : rule.CloseStage) (f : CloseFacts) : Type 0 where
  pub given : f.given ≡ x
  pub at : close_stage_of f.stage ≡ stage

-- an order stands for a view: each thing that it keeps is what the view says
abbrev pub ClosesFor : View rule.CloseArgs → CloseFacts → Type 0
ClosesFor v f = ClosesAt v.given (stage_by close_order v) f

-- The allocation of a ledger stands for a view: what it was given, and all that it heard.
use Rattle.std.specs.Prelude.{◌≡◌, ℕ, List, Option}
use Rattle.dl_formats.specs.declared.conf.Conf.{Conf}
use Rattle.dl_rules_stream.specs.Allocations.{AllocationArgs, AllocationStage, MakingLedger, TakingLedger, AllocationDone}
use Rattle.dl_rules_stream.specs.Allocations.{allocation_first, allocation_hears}
use Rattle.dl_requests.specs.Tasks.{View, Order, stage_by}
use Rattle.dl_alloc.specs.declared.stage.Stage.{Stage}
use Rattle.dl_alloc.specs.declared.stage.Stage.TheVariants.{Making, Taking, Over}
use Rattle.dl_alloc.specs.Facts.{AllocationFacts}

-- the arguments of the order, one by one
abbrev pub given_of : (stream member : List ℕ) → Option ℕ → ℕ → Conf → AllocationArgs
given_of stream member old version conf = record { stream = stream; member = member; old = old; version = version; conf = conf }

-- the order that allocates a ledger
abbrev pub allocation_order : Order AllocationArgs AllocationStage ℕ
allocation_order = record { first = allocation_first; hears = allocation_hears }

-- the stage of the order that a kept stage stands for
abbrev pub allocation_stage_of : Stage → AllocationStage
allocation_stage_of Making = MakingLedger
allocation_stage_of (Taking ledger) = TakingLedger ledger
allocation_stage_of Over = AllocationDone

-- a task stands at a stage of its order
pub record StandsAt (x : AllocationArgs) (stage : AllocationStage) (f : AllocationFacts) : Type 0 where
  pub given : f.given ≡ x
  pub at : allocation_stage_of f.stage ≡ stage

-- a task stands for a view: each thing that it keeps is what the view says
abbrev pub StandsFor : View AllocationArgs → AllocationFacts → Type 0
StandsFor v f = StandsAt v.given (stage_by allocation_order v) f

-- a task at another kept stage
abbrev pub with_stage : AllocationFacts → Stage → AllocationFacts
with_stage f stage = record { given = f.given; stage = stage }

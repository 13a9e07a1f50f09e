-- When an operation is not done.
use Rattle.std.specs.Prelude.{◌≡◌, ℕ, Ok, Err, List, ◌++◌}
use Rattle.dl_types.specs.declared.one_answer.OneAnswer.{OneAnswer}
use Rattle.dl_tree.specs.declared.fault.OneFault.{OneFault}
use Rattle.dl_tree.specs.declared.fault.OneFault.TheVariants.{NoMemory, Failed}
use Rattle.dl_tree.specs.declared.fault.RunFault.{RunFault}
use Rattle.dl_tree.specs.declared.fault.RunFault.TheVariants as run
use Rattle.dl_tree.specs.Trees.{Outcome, Run}

-- a failure is the outcome; want of memory says nothing of it
abbrev pub IsFault : Outcome → OneFault → Type 0
IsFault outcome NoMemory = Unit {0}
IsFault outcome (Failed why) = outcome ≡ Err why

-- the same of operations in order
abbrev pub IsRunFault : Run → RunFault → Type 0
IsRunFault outcome run.NoMemory = Unit {0}
IsRunFault outcome (run.Failed place why) = outcome ≡ Err (place, why)

-- answers before those of a run
abbrev pub after_answers : List OneAnswer → Run → Run
after_answers answers (Ok r) = Ok (answers ++ r.0, r.1)
after_answers answers (Err e) = Err e

-- the fault of a run whose operation at a place has a fault
abbrev pub at_place : OneFault → ℕ → RunFault
at_place NoMemory place = run.NoMemory
at_place (Failed why) place = run.Failed place why

-- The lines of an early schedule: which of the steps each of its lines may say.
use Rattle.std.specs.Prelude.{◌≡◌, ℕ, Option, Some, None, List, codes, ◌==◌, if◌then◌else◌}
use Rattle.dl_text.specs.Numbers.{IsWithin}
use Rattle.dl_text.specs.Hex.{AllBytes}
use Rattle.dl_schedule.specs.declared.step.Step.{Step}
use Rattle.dl_schedule.specs.declared.step.Step.TheVariants.{Setup, Join, Create, Open, Append, Flush, Settle}
use Rattle.dl_schedule.specs.declared.opening.Opening.{Opening}
use Rattle.dl_schedule.specs.declared.opening.Opening.TheVariants as opening
use Rattle.dl_schedule.specs.StepLines.{step_line, IsTxid}

-- the step that an opening line says
abbrev pub opening_step : Opening → Step
opening_step opening.Setup = Setup 3 3 3 2
opening_step opening.Join = Join 0
opening_step opening.Create = Create 0 (codes "s")
opening_step opening.Open = Open 0 (codes "s")
opening_step opening.Settle = Settle

-- an opening line is the spelling of its step
abbrev pub opening_text : Opening → List ℕ
opening_text o = step_line (opening_step o)

-- the opening line that the line of this number is, from 1; the lines behind the sixth are free
abbrev pub opening_at : ℕ → Option Opening
opening_at n =
    if n == 1 then Some opening.Setup
    else if n == 2 then Some opening.Join
    else if n == 3 then Some opening.Create
    else if n == 4 then Some opening.Settle
    else if n == 5 then Some opening.Open
    else if n == 6 then Some opening.Settle
    else None

-- a step of a free line: an append or a flush of client 0, or a settle
abbrev pub IsFree : Step → Type 0
IsFree (Append c t p) = IsWithin 0 0 c × (IsTxid t × AllBytes p)
IsFree (Flush c) = IsWithin 0 0 c
IsFree Settle = Unit {0}
IsFree _ = ⊥

-- the step of an opening line, or one of a free line
abbrev pub IsSaidBy : Option Opening → Step → Type 0
IsSaidBy (Some o) s = s ≡ opening_step o
IsSaidBy None s = IsFree s

-- the line of this number of an early schedule may say this step
abbrev pub IsEarly : ℕ → Step → Type 0
IsEarly n s = IsSaidBy (opening_at n) s

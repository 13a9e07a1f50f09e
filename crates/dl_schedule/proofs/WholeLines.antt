-- Whole lines, for a grammar of steps that is read exactly: what the reading of one says of the step and of the column.
use Rattle.std.proofs.Common.{◌≡◌, ℕ, List, Result, Ok, Err, sym, ap, subst, ◌∙◌}
use Rattle.dl_text.specs.Readers.{Exact, whole_at}
use Rattle.dl_text.specs.Columns.{StopsAt, column_of, ReadsWhole}
use Rattle.dl_text.proofs.LineLemmas.{whole_again, whole_reads}
use Rattle.dl_schedule.specs.declared.step.Step.{Step}
use Rattle.dl_schedule.specs.StepLines.{step_line}

-- a line says one step
pub same_step : {V : Step → Type 0} {r : List ℕ → Result (Step × List ℕ) ℕ} → Exact V step_line r → (line : List ℕ) (s t : Step) → whole_at r line ≡ Ok t
    → V s → line ≡ step_line s → t ≡ s
same_step {V} {r} exact line s t e valid spelt = let both : Ok t ≡ Ok s = sym e ∙ ap (whole_at r) spelt ∙ whole_again exact s valid in cc

-- a line that stops says none
pub no_step : {V : Step → Type 0} {r : List ℕ → Result (Step × List ℕ) ℕ} → Exact V step_line r → (line : List ℕ) (s : Step) (left : ℕ)
    → whole_at r line ≡ Err left → V s → line ≡ step_line s → ⊥
no_step {V} {r} exact line s left e valid spelt = let both : Err left ≡ Ok s = sym e ∙ ap (whole_at r) spelt ∙ whole_again exact s valid in cc

-- what is read is valid and spelt so
pub reading_found : {V : Step → Type 0} {r : List ℕ → Result (Step × List ℕ) ℕ} → Exact V step_line r → (line : List ℕ) (s : Step)
    → column_of line (whole_at r line) ≡ Ok s → V s × (line ≡ step_line s)
reading_found {V} {r} exact line s e = subst (ReadsWhole V step_line line) e (whole_reads exact line)

-- what is spelt so is read
pub reading_again : {V : Step → Type 0} {r : List ℕ → Result (Step × List ℕ) ℕ} → Exact V step_line r → (s : Step) → V s
    → column_of (step_line s) (whole_at r (step_line s)) ≡ Ok s
reading_again {V} {r} exact s valid = ap (column_of (step_line s)) (whole_again exact s valid)

-- what isn't read stops at the column
pub reading_stops : {V : Step → Type 0} {r : List ℕ → Result (Step × List ℕ) ℕ} → Exact V step_line r → (line : List ℕ) (column : ℕ)
    → column_of line (whole_at r line) ≡ Err column → StopsAt V step_line line column
reading_stops {V} {r} exact line column e = subst (ReadsWhole V step_line line) e (whole_reads exact line)

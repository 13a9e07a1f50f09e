-- The search for the end of a fenced ledger stands at a phase of the rule.
use Rattle.std.specs.Prelude.{◌≡◌, ℕ, List}
use Rattle.dl_rules_ledger.specs.Subjects.{Subject, among}
use Rattle.dl_rules_ledger.specs.Recoveries as rule
use Rattle.dl_subject.specs.Sets.{IsSetOf, IsTallyOf}
use Rattle.dl_lrecover.specs.declared.phase.Phase.{Phase}
use Rattle.dl_lrecover.specs.declared.phase.Phase.TheVariants as kept
use Rattle.dl_lrecover.specs.declared.phase.Step.{Step}
use Rattle.dl_lrecover.specs.declared.phase.Step.TheVariants as step

-- a set of places is that of these bookies
abbrev pub IsHeard : Subject → List ℕ → ℕ → Type 0
IsHeard x bookies set = IsSetOf x.pieces (among bookies) set

-- the start, the entry and the bookies that were heard on it are those of the rule
pub record IsAtEntry (x : Subject) (start entry : ℕ) (bookies : List ℕ) (s e set : ℕ) : Type 0 where
  pub start_is : s ≡ start
  pub entry_is : e ≡ entry
  pub heard : IsHeard x bookies set

-- a kept phase stands for a phase of the rule
abbrev pub PhaseStands : Subject → rule.Phase → Phase → Type 0
PhaseStands x (rule.Fencing answers) (kept.Fencing set greatest) = IsTallyOf x answers set greatest
PhaseStands x (rule.Reading start entry denials) (kept.Reading s e set) = IsAtEntry x start entry denials s e set
PhaseStands x (rule.Copying start entry copied) (kept.Copying s e set) = IsAtEntry x start entry copied s e set
PhaseStands x _ _ = ⊥

-- a step stands for a move of the rule: its phase, and what is told; or the end; or that no number is left
abbrev pub StepStands : Subject → rule.Move → Step → Type 0
StepStands x (rule.Ended count, letters) (step.Ended n) = n ≡ count
StepStands x (rule.Exhausted, letters) step.Exhausted = Unit {0}
StepStands x (phase, letters) (step.Goes k told) = PhaseStands x phase k × (told ≡ letters)
StepStands x _ _ = ⊥

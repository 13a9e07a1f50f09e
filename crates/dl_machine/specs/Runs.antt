-- Runs: each line as a list of atomic steps, with what failing devices made of each, and a run as the fold of its steps.
use Rattle.std.specs.Prelude.{ℕ, zero, suc, ◌+◌, Bool, true, if◌then◌else◌, not, ◌&&◌, ◌==◌, List, [], ◌∷◌, ◌++◌, length, map, Option, Some, None}
use Rattle.dl_msg.specs.declared.letter.Letter.{Letter}
use Rattle.dl_schedule.specs.declared.step.Step.{Step}
use Rattle.dl_schedule.specs.declared.step.Step.TheVariants as step
use Rattle.dl_transcript.specs.declared.event.Event.{Event}
use Rattle.dl_transcript.specs.declared.event.Event.TheVariants as event
use Rattle.dl_transcript.specs.Lines.{at_line}
use Rattle.dl_machine.specs.States.{State, Outcome, blank, bookies_of, can_take}
use Rattle.dl_machine.specs.Atoms.{Atom, Deliver, Commit, Shows, atom}
use Rattle.dl_machine.specs.Fates.{Luck, steps_by_luck, with_luck, well, may_have}
use Rattle.dl_machine.specs.Lines.{is_idle, plain_atoms, has_queue}
use Rattle.dl_machine.specs.Limits.{turn_limit}

-- ---- atomic steps in order

-- the state after atomic steps
unfoldable pub after : State → List Atom → State
after s [] = s
after s (a ∷ more) = after (atom s a).state more

-- the events of atomic steps
unfoldable pub events : State → List Atom → List Event
events s [] = []
events s (a ∷ more) = let now = atom s a in now.events ++ events now.state more

-- ---- settling

-- the place, counted on from this one, of the first letter that was never delivered and can be taken
unfoldable pub next_letter : State → ℕ → List Letter → Option ℕ
next_letter s place [] = None
next_letter s place (l ∷ ls) = if not (s.delivered place) && can_take s l l.to then Some place else next_letter s (suc place) ls

-- of so many storage nodes those that are up and have a queue, in rising order
unfoldable pub nodes_due : State → ℕ → List ℕ
nodes_due s zero = []
nodes_due s (suc b) = if has_queue (s.nodes b) then nodes_due s b ++ b ∷ [] else nodes_due s b

-- the letter that is due is delivered, or else each storage node that has a queue commits it
abbrev pub turn_by : State → Option ℕ → List Atom
turn_by s (Some place) = Deliver place ∷ []
turn_by s None = map Commit (nodes_due s (bookies_of s.conf))

-- one turn of settling
unfoldable pub turn : State → List Atom
turn s = turn_by s (next_letter s 0 s.letters)

-- a state in which nothing is left to settle
abbrev pub is_quiet : State → Bool
is_quiet s = length (turn s) == 0

-- a turn, with what devices made of it, and then the rest from its state on; a turn without a step is the end
abbrev pub goes_on : State → List Atom → List Atom → ℕ → (ℕ → State → List Atom) → List Atom
goes_on s [] now i rest = []
goes_on s (a ∷ more) now i rest = now ++ rest (i + length (a ∷ more)) (after s now)

-- the atomic steps of at most so many turns, with their lucks from the i-th on
unfoldable pub settles : (ℕ → Luck) → ℕ → ℕ → State → List Atom
settles luck zero i s = []
settles luck (suc n) i s = goes_on s (turn s) (with_luck luck i (turn s)) i (settles luck n)

-- ---- lines

-- the atomic steps of a line of this number that changes something
abbrev pub busy_atoms : (ℕ → Luck) → State → ℕ → Step → List Atom
busy_atoms luck s line step.Settle = settles luck turn_limit 0 s
busy_atoms luck s line x = with_luck luck 0 (plain_atoms s line x)

-- the atomic steps of the line of this number
unfoldable pub line_atoms : (ℕ → Luck) → State → ℕ → Step → List Atom
line_atoms luck s line x = if is_idle s x then Shows event.Nothing ∷ [] else busy_atoms luck s line x

-- a line: the state that it leaves, and what it shows
unfoldable pub step_with : (ℕ → Luck) → State → ℕ → Step → Outcome
step_with luck s line x = let atoms = line_atoms luck s line x in record { state = after s atoms; events = events s atoms }

-- ---- which lucks a line may have

-- each atomic step has a luck that it may have, where the devices of these storage nodes failed
unfoldable pub are_fit : (ℕ → Bool) → (ℕ → Luck) → ℕ → State → List Atom → Bool
are_fit failed luck i s [] = true
are_fit failed luck i s (a ∷ more) = may_have failed s (luck i) a && are_fit failed luck (suc i) (after s (steps_by_luck (luck i) a)) more

-- the same of a turn of settling and of the rest
abbrev pub fit_on : (ℕ → Bool) → (ℕ → Luck) → State → List Atom → ℕ → (ℕ → State → Bool) → Bool
fit_on failed luck s [] i rest = true
fit_on failed luck s (a ∷ more) i rest =
    are_fit failed luck i s (a ∷ more) && rest (i + length (a ∷ more)) (after s (with_luck luck i (a ∷ more)))

-- the same of a settling, turn by turn
unfoldable pub settles_fit : (ℕ → Bool) → (ℕ → Luck) → ℕ → ℕ → State → Bool
settles_fit failed luck zero i s = true
settles_fit failed luck (suc n) i s = fit_on failed luck s (turn s) i (settles_fit failed luck n)

-- the same of a line that changes something
abbrev pub busy_fit : (ℕ → Bool) → (ℕ → Luck) → State → ℕ → Step → Bool
busy_fit failed luck s line step.Settle = settles_fit failed luck turn_limit 0 s
busy_fit failed luck s line x = are_fit failed luck 0 s (plain_atoms s line x)

-- the lucks of a line are such as the devices of these storage nodes, which failed, may have made
unfoldable pub is_fit : (ℕ → Bool) → (ℕ → Luck) → State → ℕ → Step → Bool
is_fit failed luck s line x = if is_idle s x then true else busy_fit failed luck s line x

-- ---- runs

-- What a run shows, each event with the number of its line, and the state that it leaves.
pub record Run : Type 0 where
  pub transcript : List (ℕ × Event)
  pub state : State

-- the events of a line, and then a run behind it
abbrev pub behind : ℕ → List Event → Run → Run
behind line events rest = record rest { transcript = at_line line events ++ rest.transcript }

-- the run of lines, numbered from this one on, where no device fails
unfoldable pub run : State → ℕ → List Step → Run
run s line [] = record { transcript = []; state = s }
run s line (x ∷ xs) = let now = step_with well s line x in behind line now.events (run now.state (suc line) xs)

-- the transcript of a schedule
abbrev pub transcript : List Step → List (ℕ × Event)
transcript steps = (run blank 1 steps).transcript

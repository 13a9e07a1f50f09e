-- Runs are folds of atomic steps.
use Rattle.std.proofs.Common.{◌≡◌, ℕ, suc, List, [], ◌∷◌, ◌++◌, refl, sym, ap, ◌∙◌}
use Rattle.std.proofs.lemmas.List.{append_assoc, map-append}
use Rattle.dl_schedule.specs.declared.step.Step.{Step}
use Rattle.dl_transcript.specs.declared.event.Event.{Event}
use Rattle.dl_transcript.specs.Lines.{at_line}
use Rattle.dl_machine.specs.States.{State}
use Rattle.dl_machine.specs.Atoms.{Atom, atom}
use Rattle.dl_machine.specs.Fates.{well}
use Rattle.dl_machine.specs.Runs.{after, events, line_atoms, step_with, run}
use Rattle.dl_machine.specs.Laws.{run_atoms, events_in, RunsAreFolds}

-- atomic steps in a row leave the state that the second of them leave from that of the first
pub after-append : (s : State) (xs ys : List Atom) → after s (xs ++ ys) ≡ after (after s xs) ys
unfolding after
after-append s [] ys = refl
after-append s (a ∷ xs) ys = after-append (atom s a).state xs ys

-- they show what the first show, and then what the second do
pub events-append : (s : State) (xs ys : List Atom) → events s (xs ++ ys) ≡ events s xs ++ events (after s xs) ys
unfolding after events
events-append s [] ys = refl
events-append s (a ∷ xs) ys =
    ap (λ (es : List Event). (atom s a).events ++ es) (events-append (atom s a).state xs ys)
    ∙ sym (append_assoc (atom s a).events (events (atom s a).state xs) (events (after (atom s a).state xs) ys))

-- a run ends in the state that its atomic steps leave
run_ends : (s : State) (line : ℕ) (xs : List Step) → (run s line xs).state ≡ after s (run_atoms s line xs)
unfolding run run_atoms step_with after
run_ends s line [] = refl
run_ends s line (x ∷ xs) =
    run_ends (after s (line_atoms well s line x)) (suc line) xs
    ∙ sym (after-append s (line_atoms well s line x) (run_atoms (after s (line_atoms well s line x)) (suc line) xs))

-- the events of a line, without its number
without_number : (line : ℕ) (es : List Event) → events_in (at_line line es) ≡ es
without_number line [] = refl
without_number line (e ∷ es) = ap (e ∷◌) (without_number line es)

-- a run shows what its atomic steps show
run_shows : (s : State) (line : ℕ) (xs : List Step) → events_in (run s line xs).transcript ≡ events s (run_atoms s line xs)
unfolding run run_atoms step_with events
run_shows s line [] = refl
run_shows s line (x ∷ xs) =
    let now : List Atom = line_atoms well s line x in
    map-append (λ (y : ℕ × Event). y.1) (at_line line (events s now)) (run (after s now) (suc line) xs).transcript
    ∙ ap (λ (es : List Event). es ++ events_in (run (after s now) (suc line) xs).transcript) (without_number line (events s now))
    ∙ ap (λ (es : List Event). events s now ++ es) (run_shows (after s now) (suc line) xs)
    ∙ sym (events-append s now (run_atoms (after s now) (suc line) xs))

-- runs are folds of atomic steps, which is the law
pub runs_are_folds : RunsAreFolds
runs_are_folds = record { states = after-append; shown = events-append; last = run_ends; transcript = run_shows }

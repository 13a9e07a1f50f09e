-- Runs that are legal as to some events, whatever devices do; and what each atomic step has to keep for that.
use Rattle.std.specs.Prelude.{◌≡◌, ℕ, suc, Bool, true, false, List, [], ◌∷◌}
use Rattle.std.specs.List.{AllByRecursion}
use Rattle.dl_schedule.specs.declared.step.Step.{Step}
use Rattle.dl_transcript.specs.declared.event.Event.{Event}
use Rattle.dl_transcript.specs.declared.event.Event.TheVariants.{Mail, Nothing}
use Rattle.dl_transcript.specs.Legal.{History, no_history}
use Rattle.dl_transcript.specs.Lines.{print_transcript}
use Rattle.dl_machine.specs.States.{State, blank}
use Rattle.dl_machine.specs.Atoms.{Atom, SetUp, Join, Crash, End, Order, Deliver, Commit, Stop, StopMeta, Faint, Kill, KillMeta, Rise, RiseMeta, Loosen}
use Rattle.dl_machine.specs.Atoms.{Lose, Shows, atom}
use Rattle.dl_machine.specs.Fates.{Luck}
use Rattle.dl_machine.specs.Runs.{Run, events, step_with, behind, transcript}
use Rattle.dl_machine.specs.Replays.{replay_text}
use Rattle.dl_law_legal.specs.Ruled.{is_legal_as_to, AllKeep, Leads}

-- ---- atomic steps of lines

-- an event that tells nothing of streams, sessions or clients
abbrev pub is_notice : Event → Bool
is_notice (Mail from to count) = true
is_notice Nothing = true
is_notice e = false

-- any line will do
abbrev pub AnyLine : Step → Type 0
AnyLine x = Unit {0}

-- an atomic step that such a line may have: what is only shown is a notice
abbrev pub IsFit : (Step → Type 0) → Atom → Type 0
IsFit Line (SetUp conf) = Unit {0}
IsFit Line (Join c) = Unit {0}
IsFit Line (Crash c) = Unit {0}
IsFit Line (End k) = Unit {0}
IsFit Line (Order c line step) = Line step
IsFit Line (Deliver place) = Unit {0}
IsFit Line (Commit b) = Unit {0}
IsFit Line (Stop b kept) = Unit {0}
IsFit Line (StopMeta place kept) = Unit {0}
IsFit Line (Faint place) = Unit {0}
IsFit Line (Kill b) = Unit {0}
IsFit Line KillMeta = Unit {0}
IsFit Line (Rise b) = Unit {0}
IsFit Line RiseMeta = Unit {0}
IsFit Line (Loosen b other) = Unit {0}
IsFit Line (Lose b) = Unit {0}
IsFit Line (Shows e) = is_notice e ≡ true

-- ---- runs

-- the run of lines, numbered from this one on, each with the lucks of its devices
unfoldable pub run_by : (ℕ → ℕ → Luck) → State → ℕ → List Step → Run
run_by lucks s line [] = record { transcript = []; state = s }
run_by lucks s line (x ∷ xs) =
    let now = step_with (lucks line) s line x in
    behind line now.events (run_by lucks now.state (suc line) xs)

-- A text of a transcript that is legal as to these events.
pub record LegalText (ruled : Event → Bool) (text : List ℕ) : Type 0 where
  pub events : List (ℕ × Event)
  pub printed : text ≡ print_transcript events
  pub legal : is_legal_as_to ruled events ≡ true

-- Every run of such lines is legal as to these events: each list of atomic steps from the empty state on; the transcript of every
-- schedule; the same whatever devices do; and what the replay of any bytes prints.
pub record RunsAreLegal (Line : Step → Type 0) (ruled : Event → Bool) : Type 0 where
  pub steps : (xs : List Atom) → AllByRecursion (IsFit Line) xs → AllKeep ruled no_history (events blank xs)
  pub runs : (lines : List Step) → AllByRecursion Line lines → is_legal_as_to ruled (transcript lines) ≡ true
  pub devices : (lucks : ℕ → ℕ → Luck) (lines : List Step) → AllByRecursion Line lines
      → is_legal_as_to ruled (run_by lucks blank 1 lines).transcript ≡ true
  pub replays : (input : List ℕ) → LegalText ruled (replay_text input)

-- ---- what each atomic step keeps

-- A relation between a state and what was seen: it holds before the first event, and each atomic step of such lines leads on in it.
pub record Couples (Line : Step → Type 0) (ruled : Event → Bool) (P : State → History → Type 0) : Type 0 where
  pub begun : P blank no_history
  pub each : (s : State) (a : Atom) (seen : History) → IsFit Line a → P s seen
      → Leads ruled (P (atom s a).state) seen (atom s a).events

-- What holds of every run of the machine, as its transcript shows it.
use Rattle.std.specs.Prelude.{◌≡◌, ℕ, ◌≤◌, List, Some}
use Rattle.std.specs.List.{AllByRecursion}
use Rattle.dl_schedule.specs.declared.step.Step.{Step}
use Rattle.dl_schedule.specs.StepLines.{IsStep}
use Rattle.dl_transcript.specs.Legal.{History}
use Rattle.dl_law_meta.specs.Histories.{times_run}
use Rattle.dl_machine.specs.States.{State, Joined, blank}
use Rattle.dl_machine.specs.Atoms.{Atom}
use Rattle.dl_machine.specs.Runs.{after, events, transcript}
use Rattle.dl_law_legal.specs.Ruled.{is_ruled, is_of_session, is_of_record, is_of_reader, Leads}
use Rattle.dl_law_legal.specs.Words.{CountFrom, sessions_joined, records_taken}
use Rattle.dl_laws.specs.Frames.{AnyLine, IsFit, RunsAreLegal, Couples}
use Rattle.dl_laws.specs.Coupled.{Coupled}
use Rattle.dl_laws.specs.Served.{Served}
use Rattle.dl_laws.specs.Asking.{AllAsk}

-- ---- the rules

-- Each atomic step leads on, and so does every list of them, from every state that what was shown tells of.
pub record EachStepLeads : Type 0 where
  pub couples : Couples AnyLine is_ruled Coupled
  pub reached : (s : State) (xs : List Atom) (seen : History) → AllByRecursion (IsFit AnyLine) xs → Coupled s seen
      → Leads is_ruled (Coupled (after s xs)) seen (events s xs)

-- every run of lines of the grammar is legal as to the events whose rules are proved yet
abbrev pub EveryRunKeepsItsRules : Type 0
EveryRunKeepsItsRules = RunsAreLegal IsStep is_ruled

-- Every run, also of other lines, is legal as to the sessions that join and expire: those that join are 1, 2, 3 and so on.
pub record SessionsJoinInOrder : Type 0 where
  pub rules : RunsAreLegal AnyLine is_of_session
  pub counted : (lines : List Step) → CountFrom 1 (sessions_joined (transcript lines))

-- As to the records that are taken: those of each client are 1, 2, 3 and so on.
pub record RecordsAreCounted : Type 0 where
  pub rules : RunsAreLegal AnyLine is_of_record
  pub counted : (c : ℕ) (lines : List Step) → CountFrom 1 (records_taken c (transcript lines))

-- as to the readers that are opened, and the reads that begin
abbrev pub ReadsHaveReaders : Type 0
ReadsHaveReaders = RunsAreLegal AnyLine is_of_reader

-- ---- sessions, requests and replies

-- Sessions have owners, requests are the orders', and replies are answers of runs: before a setup, and after all atomic steps from
-- there, or from a state of which this is known. So two clients that have joined have two sessions, and each number of a session
-- runs at most once.
pub record SessionsAndRequestsAreKept : Type 0 where
  pub begun : Served blank
  pub reached : (s : State) (xs : List Atom) (seen : History) → AllByRecursion (IsFit AnyLine) xs → Coupled s seen → Served s
      → Served (after s xs)
  pub apart : (s : State) (c d : ℕ) (me other : Joined) → Served s → s.clients c ≡ Some me → s.clients d ≡ Some other
      → me.session ≡ other.session → c ≡ d
  pub once : (s : State) (session number : ℕ) → Served s → times_run session number s.meta.items ≤ 1

-- The letters of each process have its requests, numbered on: before a setup, and after all atomic steps from there, or from a state
-- of which this is known.
pub record RequestsAreNumbered : Type 0 where
  pub begun : AllAsk blank
  pub reached : (s : State) (xs : List Atom) (seen : History) → AllByRecursion (IsFit AnyLine) xs → Coupled s seen → Served s
      → AllAsk s → AllAsk (after s xs)

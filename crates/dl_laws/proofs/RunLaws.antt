-- The laws of every run.
use Rattle.std.proofs.Common.{◌≡◌, ℕ, Bool, true, List, [], ◌∷◌, Option, Some, refl, sym, subst, ◌∙◌, ap}
use Rattle.std.specs.List.{AllByRecursion}
use Rattle.dl_schedule.specs.declared.step.Step.{Step}
use Rattle.dl_schedule.specs.StepLines.{IsStep}
use Rattle.dl_transcript.specs.declared.event.Event.{Event}
use Rattle.dl_transcript.specs.declared.event.Event.TheVariants as event
use Rattle.dl_transcript.specs.Legal.{History}
use Rattle.dl_rules_client.specs.EventRanges.{AllSome}
use Rattle.dl_law_meta.proofs.Runs.{runs_once}
use Rattle.dl_machine.specs.States.{State, Joined}
use Rattle.dl_machine.specs.Atoms.{Atom, SetUp, Join, Crash, End, Order, Deliver, Commit, Stop, StopMeta, Faint, Kill, KillMeta, Rise, RiseMeta, Loosen}
use Rattle.dl_machine.specs.Atoms.{Lose, Shows, meta_in, atom}
use Rattle.dl_machine.specs.Runs.{after, transcript}
use Rattle.dl_law_legal.specs.Ruled.{is_ruled, is_of_session, is_of_record, is_of_reader}
use Rattle.dl_law_legal.proofs.Parts.{keep_fewer}
use Rattle.dl_law_legal.proofs.Words.{rules_count}
use Rattle.dl_laws.specs.Frames.{AnyLine, IsFit, RunsAreLegal, Couples}
use Rattle.dl_laws.specs.Coupled.{Coupled}
use Rattle.dl_laws.specs.Laws.{EachStepLeads, EveryRunKeepsItsRules, SessionsJoinInOrder, RecordsAreCounted, ReadsHaveReaders}
use Rattle.dl_laws.specs.Laws.{SessionsAndRequestsAreKept, RequestsAreNumbered}
use Rattle.dl_laws.proofs.Frames.{all_lead, runs_are_legal}
use Rattle.dl_laws.specs.Served.{IsOwn, ProcessOwn, Served}
use Rattle.dl_laws.proofs.Steps.{couples}
use Rattle.dl_laws.proofs.Serving.{blank_served, atom_served}
use Rattle.dl_laws.specs.Asking.{AllAsk}
use Rattle.dl_laws.proofs.Asking.{blank_asks, atom_ask}

-- what leads on as to more events does so as to fewer
couples_fewer : (few more : Event → Bool) (P : State → History → Type 0) → ((e : Event) → few e ≡ true → more e ≡ true) → Couples AnyLine more P
    → Couples AnyLine few P
couples_fewer few more P h c = record {
  begun = c.begun;
  each = λ s a seen fit p. let all = c.each s a seen fit p in record { keep = keep_fewer few more h seen _ all.keep; fits = all.fits };
}

-- an atomic step of some lines is one of any
any_fit : (Line : Step → Type 0) (a : Atom) → IsFit Line a → IsFit AnyLine a
any_fit Line (SetUp conf) fit = tt
any_fit Line (Join c) fit = tt
any_fit Line (Crash c) fit = tt
any_fit Line (End k) fit = tt
any_fit Line (Order c line step) fit = tt
any_fit Line (Deliver place) fit = tt
any_fit Line (Commit b) fit = tt
any_fit Line (Stop b kept) fit = tt
any_fit Line (StopMeta place kept) fit = tt
any_fit Line (Faint place) fit = tt
any_fit Line (Kill b) fit = tt
any_fit Line KillMeta fit = tt
any_fit Line (Rise b) fit = tt
any_fit Line RiseMeta fit = tt
any_fit Line (Loosen b other) fit = tt
any_fit Line (Lose b) fit = tt
any_fit Line (Shows e) fit = fit

-- each atomic step leads on
pub each_step_leads : EachStepLeads
each_step_leads = record { couples = couples; reached = λ s xs seen fit h. all_lead AnyLine is_ruled Coupled couples s xs seen fit h }

-- every run keeps its rules
pub every_run_keeps_its_rules : EveryRunKeepsItsRules
every_run_keeps_its_rules =
    runs_are_legal IsStep is_ruled Coupled
    (record { begun = couples.begun; each = λ s a seen fit p. couples.each s a seen (any_fit IsStep a fit) p }) (λ x is. is)

-- events of sessions are ruled
of_session : (e : Event) → is_of_session e ≡ true → is_ruled e ≡ true
of_session (event.Joined c k) h = refl
of_session (event.Expired k) h = refl
of_session e h = absurd cc

-- so are those of records
of_record : (e : Event) → is_of_record e ≡ true → is_ruled e ≡ true
of_record (event.Took c n stream txid payload) h = refl
of_record e h = absurd cc

-- so are those of readers
of_reader : (e : Event) → is_of_reader e ≡ true → is_ruled e ≡ true
of_reader (event.OpenedAt c stream d) h = refl
of_reader (event.OpenedFrom c stream txid) h = refl
of_reader (event.Reading c stream) h = refl
of_reader e h = absurd cc

-- nothing is asked of lines
any_each : (lines : List Step) → AllByRecursion AnyLine lines
any_each [] = tt
any_each (x ∷ lines) = (tt, any_each lines)

-- every run is legal as to sessions
session_rules : RunsAreLegal AnyLine is_of_session
session_rules = runs_are_legal AnyLine is_of_session Coupled (couples_fewer is_of_session is_ruled Coupled of_session couples) (λ x is. tt)

-- sessions join in order
pub sessions_join_in_order : SessionsJoinInOrder
sessions_join_in_order = record {
  rules = session_rules;
  counted = λ lines. rules_count.sessions (transcript lines) (session_rules.runs lines (any_each lines));
}

-- every run is legal as to records
record_rules : RunsAreLegal AnyLine is_of_record
record_rules = runs_are_legal AnyLine is_of_record Coupled (couples_fewer is_of_record is_ruled Coupled of_record couples) (λ x is. tt)

-- records are counted
pub records_are_counted : RecordsAreCounted
records_are_counted = record {
  rules = record_rules;
  counted = λ c lines. rules_count.records c (transcript lines) (record_rules.runs lines (any_each lines));
}

-- reads have readers
pub reads_have_readers : ReadsHaveReaders
reads_have_readers = runs_are_legal AnyLine is_of_reader Coupled (couples_fewer is_of_reader is_ruled Coupled of_reader couples) (λ x is. tt)

-- ---- sessions, requests and replies

-- all atomic steps in a row
all_served : (s : State) (xs : List Atom) (seen : History) → AllByRecursion (IsFit AnyLine) xs → Coupled s seen → Served s → Served (after s xs)
unfolding after
all_served s [] seen fit f h = h
all_served s (a ∷ xs) seen fit f h =
    let now = couples.each s a seen fit.0 f in
    all_served (atom s a).state xs _ fit.1 now.fits (atom_served s a seen f h)

-- the session of a client that has joined is its own
joined_own : (s : State) (c : ℕ) (me : Joined) (h : Served s) → s.clients c ≡ Some me → IsOwn h.who (meta_in s).sessions.last me.session c
joined_own s c me h e = subst (λ (o : Option Joined). AllSome (ProcessOwn h.who (meta_in s).sessions.last c) o) e (h.parts.clients_own c)

-- sessions, requests and replies
pub sessions_and_requests_are_kept : SessionsAndRequestsAreKept
sessions_and_requests_are_kept = record {
  begun = blank_served;
  reached = all_served;
  apart = λ s c d me other h p q e. sym (joined_own s c me h p).owner ∙ ap h.who e ∙ (joined_own s d other h q).owner;
  once = λ s session number h. runs_once s.meta.items session number h.admitted;
}

-- the requests of processes, through all atomic steps in a row
all_ask : (s : State) (xs : List Atom) (seen : History) → AllByRecursion (IsFit AnyLine) xs → Coupled s seen → Served s → AllAsk s
    → AllAsk (after s xs)
unfolding after
all_ask s [] seen fit f g h = h
all_ask s (a ∷ xs) seen fit f g h =
    let now = couples.each s a seen fit.0 f in
    all_ask (atom s a).state xs _ fit.1 now.fits (atom_served s a seen f g) (atom_ask s a seen f g h)

-- requests are numbered
pub requests_are_numbered : RequestsAreNumbered
requests_are_numbered = record { begun = blank_asks; reached = all_ask }

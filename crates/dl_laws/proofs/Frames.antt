-- From what each atomic step keeps to whole runs.
use Rattle.std.proofs.Common.{◌≡◌, ℕ, suc, ◌≤◌, Bool, true, List, [], ◌∷◌, ◌++◌, length, Option, Some, None, Result, Ok, Err, refl, sym, ap, ◌∙◌, arith}
use Rattle.std.specs.Prelude.{is_none}
use Rattle.std.specs.List.{AllByRecursion}
use Rattle.std.proofs.lemmas.List.Concat.{flat_map-append}
use Rattle.dl_text.specs.TextLines.{lines_of}
use Rattle.dl_schedule.specs.declared.step.Step.{Step}
use Rattle.dl_schedule.specs.StepReading.{parsed_line}
use Rattle.dl_schedule.specs.StepLines.{IsStep}
use Rattle.dl_schedule.proofs.StepExactness.{step_exact}
use Rattle.dl_schedule.proofs.WholeLines.{reading_found}
use Rattle.dl_transcript.specs.declared.event.Event.{Event}
use Rattle.dl_transcript.specs.Lines.{at_line, print_event, print_transcript}
use Rattle.dl_transcript.specs.Legal.{History, no_history}
use Rattle.dl_machine.specs.States.{State, blank}
use Rattle.dl_machine.specs.Atoms.{Atom, atom}
use Rattle.dl_machine.specs.Fates.{Luck, well}
use Rattle.dl_machine.specs.Limits.{Past}
use Rattle.dl_machine.specs.Replays.{Replay, Going, first_going, past_schedule, run_atoms, going_behind, after_line, run_line, take_line, replay_from}
use Rattle.dl_machine.specs.Replays.{replay, replay_text}
use Rattle.dl_machine.specs.Runs.{Run, after, events, line_atoms, step_with, behind, run}
use Rattle.dl_law_legal.specs.Ruled.{fault_as_to, is_legal_as_to, seen_by, AllKeep, Leads}
use Rattle.dl_law_legal.proofs.Leads.{leads_none, leads_both, fault_line}
use Rattle.dl_laws.specs.Frames.{run_by, LegalText, RunsAreLegal, Couples}
use Rattle.dl_laws.proofs.LineAtoms.{AreFit, line_fit}

-- ---- texts

-- A text of a transcript that is legal as to these events, behind what was seen and from this line on.
record LegalFrom (ruled : Event → Bool) (seen : History) (line : ℕ) (text : List ℕ) : Type 0 where
  events : List (ℕ × Event)
  printed : text ≡ print_transcript events
  legal : (place n : ℕ) → n ≤ line → fault_as_to ruled place n seen events ≡ None

-- no text
none_from : (ruled : Event → Bool) (seen : History) (line : ℕ) → LegalFrom ruled seen line []
unfolding fault_as_to
none_from ruled seen line = record { events = []; printed = refl; legal = λ place n le. refl }

-- the text of a line, and then that of later ones
line_from : (ruled : Event → Bool) (seen : History) (line : ℕ) (es : List Event) (text : List ℕ) → AllKeep ruled seen es
    → LegalFrom ruled (seen_by seen es) (suc line) text → LegalFrom ruled seen line (print_transcript (at_line line es) ++ text)
line_from ruled seen line es text keep rest = record {
  events = at_line line es ++ rest.events;
  printed = ap (λ (ys : List ℕ). print_transcript (at_line line es) ++ ys) rest.printed
      ∙ sym (flat_map-append (λ (x : ℕ × Event). print_event x.0 x.1) (at_line line es) rest.events);
  legal = λ place n le. fault_line ruled place n line seen es rest.events le keep (λ at k below. rest.legal at k (omega (arith, below)));
}

module _ (Line : Step → Type 0) (ruled : Event → Bool) (P : State → History → Type 0) (h : Couples Line ruled P) where
  -- what each atomic step leads to, a list of them leads to
  pub all_lead : (s : State) (xs : List Atom) (seen : History) → AreFit Line xs → P s seen → Leads ruled (P (after s xs)) seen (events s xs)
  unfolding after events
  all_lead s [] seen fit p = leads_none ruled (P s) seen p
  all_lead s (a ∷ xs) seen fit p =
      leads_both ruled (P (atom s a).state) (P (after (atom s a).state xs)) seen (atom s a).events (events (atom s a).state xs) (h.each s a seen fit.0 p)
      (λ t q. all_lead (atom s a).state xs t fit.1 q)

  -- a run has no fault
  run_fault : (lucks : ℕ → ℕ → Luck) (xs : List Step) (s : State) (place n line : ℕ) (seen : History) → n ≤ line → AllByRecursion Line xs → P s seen
      → fault_as_to ruled place n seen (run_by lucks s line xs).transcript ≡ None
  unfolding run_by step_with fault_as_to
  run_fault lucks [] s place n line seen le is p = refl
  run_fault lucks (x ∷ xs) s place n line seen le is p =
      let atoms : List Atom = line_atoms (lucks line) s line x in
      let now : Leads ruled (P (after s atoms)) seen (events s atoms) = all_lead s atoms seen (line_fit Line (lucks line) s line x is.0) p in
      fault_line ruled place n line seen (events s atoms) (run_by lucks (after s atoms) (suc line) xs).transcript le now.keep
      (λ at k below. run_fault lucks xs (after s atoms) at k (suc line) (seen_by seen (events s atoms)) (omega (arith, below)) is.1 now.fits)

  -- a line of a replay that is run
  after_from : (g : Going) (size : ℕ) (atoms : List Atom) (past : Option Past) (rest : Going → Replay) (seen : History) → AreFit Line atoms → P g.state seen
      → ((next : Going) (t : History) → P next.state t → LegalFrom ruled t (suc next.lines) (rest next).text)
      → LegalFrom ruled seen (suc g.lines) (after_line g size (run_atoms g atoms) past rest).text
  after_from g size atoms (Some past) rest seen fit p later = none_from ruled seen (suc g.lines)
  after_from g size atoms None rest seen fit p later =
      let now : Leads ruled (P (after g.state atoms)) seen (events g.state atoms) = all_lead g.state atoms seen fit p in
      let next : Going = going_behind g size (run_atoms g atoms) in
      line_from ruled seen (suc g.lines) (events g.state atoms) (rest next).text now.keep (later next (seen_by seen (events g.state atoms)) now.fits)

  -- a line of a replay that was read
  read_from : (g : Going) (line : List ℕ) (read : Result Step ℕ) (rest : Going → Replay) (seen : History) → ((x : Step) → IsStep x → Line x)
      → parsed_line line ≡ read → P g.state seen
      → ((next : Going) (t : History) → P next.state t → LegalFrom ruled t (suc next.lines) (rest next).text)
      → LegalFrom ruled seen (suc g.lines) (run_line g (length line) read rest).text
  read_from g line (Err column) rest seen such e p later = none_from ruled seen (suc g.lines)
  read_from g line (Ok x) rest seen such e p later =
      after_from g (length line) (line_atoms well g.state (suc g.lines) x) (run_atoms g (line_atoms well g.state (suc g.lines) x)).past rest seen
      (line_fit Line well g.state (suc g.lines) x (such x (reading_found step_exact line x e).0)) p later

  -- a line of a replay
  take_from : (g : Going) (line : List ℕ) (past : Option Past) (rest : Going → Replay) (seen : History) → ((x : Step) → IsStep x → Line x)
      → P g.state seen
      → ((next : Going) (t : History) → P next.state t → LegalFrom ruled t (suc next.lines) (rest next).text)
      → LegalFrom ruled seen (suc g.lines) (take_line g line past rest).text
  take_from g line (Some past) rest seen such p later = none_from ruled seen (suc g.lines)
  take_from g line None rest seen such p later = read_from g line (parsed_line line) rest seen such refl p later

  -- the replay of lines
  lines_from : (g : Going) (lines : List (List ℕ)) (seen : History) → ((x : Step) → IsStep x → Line x) → P g.state seen
      → LegalFrom ruled seen (suc g.lines) (replay_from g lines).text
  unfolding replay_from
  lines_from g [] seen such p = none_from ruled seen (suc g.lines)
  lines_from g (line ∷ lines) seen such p =
      take_from g line (past_schedule g line) (λ next. replay_from next lines) seen such p (λ next t q. lines_from next lines t such q)

  -- the replay of a schedule
  replay_legal : ((x : Step) → IsStep x → Line x) → (input : List ℕ) → LegalText ruled (replay_text input)
  unfolding replay
  replay_legal such input =
      let all : LegalFrom ruled no_history 1 (replay_from first_going (lines_of input)).text =
      lines_from first_going (lines_of input) no_history such h.begun in
      record { events = all.events; printed = all.printed; legal = ap is_none (all.legal 1 0 (omega arith)) }

  -- a run where no device fails is one with these lucks
  run_is : (xs : List Step) (s : State) (line : ℕ) → run s line xs ≡ run_by (λ l. well) s line xs
  unfolding run run_by
  run_is [] s line = refl
  run_is (x ∷ xs) s line =
      let now = step_with well s line x in
      ap (λ (rest : Run). behind line now.events rest) (run_is xs now.state (suc line))

  -- a run whatever devices do
  devices_legal : (lucks : ℕ → ℕ → Luck) (lines : List Step) → AllByRecursion Line lines → is_legal_as_to ruled (run_by lucks blank 1 lines).transcript ≡ true
  devices_legal lucks lines is = ap is_none (run_fault lucks lines blank 1 0 1 no_history (omega arith) is h.begun)

  -- every run is legal as to these events
  pub runs_are_legal : ((x : Step) → IsStep x → Line x) → RunsAreLegal Line ruled
  runs_are_legal such = record {
    steps = λ xs fit. (all_lead blank xs no_history fit h.begun).keep;
    runs = λ lines is. ap (λ (r : Run). is_legal_as_to ruled r.transcript) (run_is lines blank 1) ∙ devices_legal (λ l. well) lines is;
    devices = devices_legal;
    replays = replay_legal such;
  }

-- Each event of a run fits its line.
use Rattle.std.proofs.Common.{◌≡◌, ℕ, zero, suc, ◌+◌, ◌≤◌, Bool, true, false, List, [], ◌∷◌, ◌++◌, length, map, Option, Some, None, refl, sym, ap, ◌∙◌, ◌*◌}
use Rattle.std.proofs.Common.{subst, Result, Ok, Err, append_assoc, arith}
use Rattle.std.specs.List.{AllByRecursion}
use Rattle.std.specs.Prelude.{nat_lt}
use Rattle.std.proofs.lemmas.Bool.{ltb-false}
use Rattle.dl_types.specs.declared.limit.LimitName.TheVariants as limit
use Rattle.dl_text.specs.Numbers.{most_u64}
use Rattle.dl_text.specs.TextLines.{lines_of}
use Rattle.dl_schedule.specs.StepReading.{parsed_line}
use Rattle.dl_schedule.proofs.StepExactness.{step_exact}
use Rattle.dl_schedule.proofs.WholeLines.{reading_found}
use Rattle.dl_msg.specs.declared.letter.Letter.{Letter}
use Rattle.dl_schedule.specs.declared.node.Node as target
use Rattle.dl_schedule.specs.declared.node.Node.TheVariants as node
use Rattle.dl_schedule.specs.declared.step.Step.{Step}
use Rattle.dl_schedule.specs.declared.step.Step.TheVariants as step
use Rattle.dl_schedule.specs.StepLines.{IsStep, IsLink}
use Rattle.dl_transcript.specs.declared.event.Event.{Event}
use Rattle.dl_transcript.specs.declared.event.Event.TheVariants as event
use Rattle.dl_transcript.specs.Lines.{at_line, print_event, print_transcript}
use Rattle.dl_transcript.specs.Ranges.{IsU32, IsEvent, IsLine}
use Rattle.dl_rules_nodes.specs.Metadata.{meta_from}
use Rattle.dl_rules_client.specs.EventRanges.{LetterFits, IsCountable}
use Rattle.dl_rules_client.proofs.RangeLists.{all-append}
use Rattle.dl_machine.specs.States.{State, blank, bookies_of}
use Rattle.dl_machine.specs.Atoms.{Atom, SetUp, Join, Crash, End, Order, Deliver, Commit, Stop, StopMeta, Kill, KillMeta, Rise, RiseMeta, Lose, Shows, atom}
use Rattle.dl_machine.specs.Lines.{Mail, with_mail, first_mail, comes_before, is_on, links, conf_of, is_idle, is_kept, place_of, at_place, kill_of, rise_of}
use Rattle.dl_machine.specs.Lines.{order_of, client_in, plain_atoms}
use Rattle.dl_machine.specs.Limits.{Past, past_where, first_past, most_lines, most_schedule, turn_limit}
use Rattle.dl_machine.specs.Replays.{Replay, Going, first_going, past_schedule, run_atoms, going_behind, after_line, run_line, take_line, replay_from}
use Rattle.dl_machine.specs.Replays.{replay, replay_text}
use Rattle.dl_machine.specs.Fates.{with_luck, well}
use Rattle.dl_machine.specs.Runs.{after, events, next_letter, nodes_due, turn_by, turn, settles, busy_atoms, line_atoms, step_with, run, transcript}
use Rattle.dl_machine.specs.Laws.{turns_on, turns}
use Rattle.dl_machine.specs.RangeLaws.{FittingText, EventsFitTheirLines}
use Rattle.dl_machine.proofs.Movements.{cond_both}
use Rattle.dl_types.specs.declared.limit.LimitName.{LimitName}
use Rattle.std.proofs.Common.{length-drop}
use Rattle.dl_machine.proofs.StayLaws.{letters_grow, atom_letters}
use Rattle.dl_machine.specs.Limits.{Traffic, with_message, with_traffic, past_traffic, past_letters, letters_since, past_before, past_at, past_in}
use Rattle.dl_machine.specs.Limits.{most_messages, most_message_bytes}
use Rattle.dl_machine.specs.Replays.{past_text}
use Rattle.dl_machine.proofs.FateLaws.{failures_aside}
use Rattle.dl_machine.proofs.LineLengths.{line_countable}
use Rattle.dl_tree.specs.Trees.{root_alone}
use Rattle.dl_machine.proofs.TreeRanges.{tree_more}
use Rattle.dl_machine.proofs.RequestRanges.{root_fits}
use Rattle.dl_machine.proofs.StateRanges.{tree_most, StateFits, state_more, IsAtom, cost, takings, atom_fits}

-- ---- atomic steps in order

-- how many lines atomic steps count for
abbrev costs : List Atom → ℕ
costs [] = 0
costs (a ∷ xs) = cost a + costs xs

-- how many lines and letters are taken by atomic steps
abbrev all_takings : List Atom → ℕ
all_takings [] = 0
all_takings (a ∷ xs) = takings a + all_takings xs

-- The state behind atomic steps, and what they show.
record RowFits (lines inputs : ℕ) (s : State) (xs : List Atom) : Type 0 where
  state : StateFits lines inputs (after s xs)
  shown : AllByRecursion IsEvent (events s xs)

-- atomic steps in a row
row_fits : (n m i j : ℕ) (s : State) (xs : List Atom) → n + costs xs ≤ m → i + all_takings xs ≤ j → m ≤ most_lines → tree_most j ≤ most_u64
    → AllByRecursion IsAtom xs → StateFits n i s → RowFits m j s xs
unfolding after events
row_fits n m i j s [] h g few small is fit = record { state = state_more n m i j s (omega (arith, h)) (omega (arith, g)) fit; shown = tt }
row_fits n m i j s (a ∷ xs) h g few small is fit =
    let here : n + cost a ≤ m = omega (arith, h) in
    let rest : (n + cost a) + costs xs ≤ m = omega (arith, h) in
    let taken : i + takings a ≤ j = omega (arith, g) in
    let others : (i + takings a) + all_takings xs ≤ j = omega (arith, g) in
    let now = atom_fits n (n + cost a) i (i + takings a) s a (omega arith) (omega arith) (omega (arith, here, few)) (omega (arith, taken, small)) is.0 fit in
    let later = row_fits (n + cost a) m (i + takings a) j (atom s a).state xs rest others few small is.1 now.state in
    record { state = later.state; shown = all-append IsEvent (atom s a).events (events (atom s a).state xs) now.events later.shown }

-- ---- the atomic steps of a line

-- more lines and letters than are taken by one line
abbrev pub line_takings : ℕ
line_takings = 2000003

-- The atomic steps of a line: they count for one at most.
record LineFits (xs : List Atom) : Type 0 where
  each : AllByRecursion IsAtom xs
  few : costs xs ≤ 1
  taken : all_takings xs ≤ line_takings

-- Atomic steps that count for none, and by which at most so many letters are taken.
record AreFree (most : ℕ) (xs : List Atom) : Type 0 where
  each : AllByRecursion IsAtom xs
  free : costs xs ≡ 0
  taken : all_takings xs ≤ most

-- steps that count for none are those of a line
free_line : (most : ℕ) (xs : List Atom) → most ≤ line_takings → AreFree most xs → LineFits xs
free_line most xs g h = record { each = h.each; few = omega (arith, h.free); taken = omega (arith, g, h.taken) }

-- one step
one_fits : (a : Atom) → IsAtom a → cost a ≤ 1 → takings a ≤ 1 → LineFits (a ∷ [])
one_fits a is few taken = record { each = (is, tt); few = omega (arith, few); taken = omega (arith, taken) }

-- steps that count for none, and others behind them
free-append : (n m : ℕ) (xs ys : List Atom) → AreFree n xs → AreFree m ys → AreFree (n + m) (xs ++ ys)
free-append n m [] ys a b = record { each = b.each; free = b.free; taken = omega (arith, b.taken) }
free-append n m (x ∷ xs) ys a b =
    let none : costs xs ≡ 0 = omega (arith, a.free) in
    let cheap : cost x ≡ 0 = omega (arith, a.free) in
    let rest = free-append (all_takings xs) m xs ys (record { each = a.each.1; free = none; taken = omega arith }) b in
    record { each = (a.each.0, rest.each); free = omega (arith, cheap, rest.free); taken = omega (arith, a.taken, rest.taken) }

-- a link that has letters, and at most so many
abbrev IsMail : ℕ → Mail → Type 0
IsMail n m = IsLink m.from m.to × ((1 ≤ m.count) × (m.count ≤ n))

-- of one letter more
mail_more : (n : ℕ) (ms : List Mail) → AllByRecursion (IsMail n) ms → AllByRecursion (IsMail (suc n)) ms
mail_more n [] each = tt
mail_more n (m ∷ ms) each = ((each.0.0, (each.0.1.0, omega (arith, each.0.1.1))), mail_more n ms each.1)

-- a letter more on links
with_mail_fits : (n : ℕ) (l : Letter) (ms : List Mail) → LetterFits l → AllByRecursion (IsMail n) ms → AllByRecursion (IsMail (suc n)) (with_mail l ms)
with_mail_fits n l [] link each = ((link.0, (omega arith, omega arith)), tt)
with_mail_fits n l (m ∷ ms) link each =
    cond_both (AllByRecursion (IsMail (suc n))) (is_on m.from m.to l) _ _
    ((each.0.0, (omega arith, omega (arith, each.0.1.1))), mail_more n ms each.1)
    (cond_both (AllByRecursion (IsMail (suc n))) (comes_before l m) (first_mail l ∷ m ∷ ms) (m ∷ with_mail l ms)
    ((link.0, (omega arith, omega arith)), mail_more n (m ∷ ms) each)
    ((each.0.0, (each.0.1.0, omega (arith, each.0.1.1))), with_mail_fits n l ms link each.1))

-- the links of letters
links_fit : (ls : List Letter) → AllByRecursion LetterFits ls → AllByRecursion (IsMail (length ls)) (links ls)
unfolding links
links_fit [] each = tt
links_fit (l ∷ ls) each = with_mail_fits (length ls) l (links ls) each.0 (links_fit ls each.1)

-- The letters of a state are on links, and no more than a run may have.
record MailFits (s : State) : Type 0 where
  links : AllByRecursion LetterFits s.letters
  few : length s.letters ≤ most_messages

-- links are shown
mails_fit : (n : ℕ) (ms : List Mail) → n ≤ most_messages → AllByRecursion (IsMail n) ms
    → AreFree 0 (map Shows (map (λ (m : Mail). event.Mail m.from m.to m.count) ms))
mails_fit n [] few each = record { each = tt; free = refl; taken = omega arith }
mails_fit n (m ∷ ms) few each =
    let rest = mails_fit n ms few each.1 in
    record {
      each = ((each.0.0, (each.0.1.0, omega (arith, few, each.0.1.1))), rest.each);
      free = omega (arith, rest.free);
      taken = omega (arith, rest.taken);
    }

-- a letter is delivered
deliver_fits : (place : Option ℕ) → LineFits (at_place Deliver place)
deliver_fits None = record { each = tt; few = omega arith; taken = omega arith }
deliver_fits (Some place) = one_fits (Deliver place) tt (omega arith) (omega arith)

-- the metadata node stops on a letter
stop_fits : (kept : Bool) (place : Option ℕ) → LineFits (at_place (λ place. StopMeta place kept) place)
stop_fits kept None = record { each = tt; few = omega arith; taken = omega arith }
stop_fits kept (Some place) = one_fits (StopMeta place kept) tt (omega arith) (omega arith)

-- a node goes down
kill_fits : (x : target.Node) → LineFits (kill_of x ∷ [])
kill_fits (node.Bookie b) = one_fits (Kill b) tt (omega arith) (omega arith)
kill_fits node.Meta = one_fits KillMeta tt (omega arith) (omega arith)

-- a node is loaded
rise_fits : (x : target.Node) → LineFits (rise_of x ∷ [])
rise_fits (node.Bookie b) = one_fits (Rise b) tt (omega arith) (omega arith)
rise_fits node.Meta = one_fits RiseMeta tt (omega arith) (omega arith)

-- a client takes a line
order_fits : (line : ℕ) (x : Step) (c : Option ℕ) → IsU32 line × IsCountable x → IsStep x → LineFits (order_of line x c)
order_fits line x None number is = record { each = tt; few = omega arith; taken = omega arith }
order_fits line x (Some c) number is = one_fits (Order c line x) (number.0, (is, number.1)) (omega arith) (omega arith)

-- the atomic steps of a line that doesn't settle
plain_fits : (s : State) (line : ℕ) (x : Step) → IsU32 line × IsCountable x → MailFits s → IsStep x → LineFits (plain_atoms s line x)
unfolding plain_atoms
plain_fits s line (step.Setup b e w a) number mail is = one_fits (SetUp (conf_of b e w a)) is.0 (omega arith) (omega arith)
plain_fits s line (step.Join c) number mail is = one_fits (Join c) is (omega arith) (omega arith)
plain_fits s line (step.Crash c) number mail is = one_fits (Crash c) tt (omega arith) (omega arith)
plain_fits s line (step.Expire k) number mail is = one_fits (End k) is (omega arith) (omega arith)
plain_fits s line (step.Deliver from to n) number mail is = deliver_fits (place_of s.letters from to n)
plain_fits s line (step.Sync b) number mail is = one_fits (Commit b) tt (omega arith) (omega arith)
plain_fits s line (step.Lose b) number mail is = one_fits (Lose b) tt (omega arith) (omega arith)
plain_fits s line (step.Stop b call kept) number mail is = one_fits (Stop b (is_kept call kept)) tt (omega arith) (omega arith)
plain_fits s line (step.StopMeta c n call kept) number mail is = stop_fits (is_kept call kept) _
plain_fits s line (step.Kill x) number mail is = kill_fits x
plain_fits s line (step.Up x) number mail is = rise_fits x
plain_fits s line step.Settle number mail is = record { each = tt; few = omega arith; taken = omega arith }
plain_fits s line step.Mail number mail is =
    free_line 0 _ (omega arith) (mails_fit (length s.letters) (links s.letters) mail.few (links_fit s.letters mail.links))
plain_fits s line x number mail is = order_fits line x (client_in x) number is

-- ---- settling

-- storage nodes commit
commits_free : (bookies : List ℕ) → AreFree 0 (map Commit bookies)
commits_free [] = record { each = tt; free = refl; taken = omega arith }
commits_free (b ∷ bs) = let rest = commits_free bs in record { each = (tt, rest.each); free = omega (arith, rest.free); taken = omega (arith, rest.taken) }

-- a turn of settling
turn_by_free : (s : State) (place : Option ℕ) → AreFree 1 (turn_by s place)
turn_by_free s None =
    let commits = commits_free (nodes_due s (bookies_of s.conf)) in
    record { each = commits.each; free = commits.free; taken = omega (arith, commits.taken) }
turn_by_free s (Some place) = record { each = (tt, tt); free = refl; taken = omega arith }

-- the same by the first letter that is due
turn_free : (s : State) → AreFree 1 (turn s)
unfolding turn
turn_free s = turn_by_free s (next_letter s 0 s.letters)

-- a turn, and those behind it
turns_on_free : (n : ℕ) (s : State) (xs : List Atom) (rest : State → List Atom) → AreFree 1 xs → ((t : State) → AreFree n (rest t))
    → AreFree (suc n) (turns_on s xs rest)
turns_on_free n s [] rest a later = record { each = a.each; free = a.free; taken = omega arith }
turns_on_free n s (x ∷ xs) rest a later =
    let both = free-append 1 n (x ∷ xs) (rest (after s (x ∷ xs))) a (later (after s (x ∷ xs))) in
    record { each = both.each; free = both.free; taken = omega (arith, both.taken) }

-- so many turns
turns_free : (n : ℕ) (s : State) → AreFree n (turns n s)
unfolding turns
turns_free zero s = record { each = tt; free = refl; taken = omega arith }
turns_free (suc n) s = turns_on_free n s (turn s) (turns n) (turn_free s) (turns_free n)

-- a settling has at most so many turns
limit_most : turn_limit ≤ line_takings
unfolding turn_limit
limit_most = omega arith

-- a settling
settle_fits : (s : State) → LineFits (settles well turn_limit 0 s)
settle_fits s = subst LineFits (sym (failures_aside.settling turn_limit 0 s)) (free_line turn_limit (turns turn_limit s) limit_most (turns_free turn_limit s))

-- ---- lines

-- the atomic steps of a line, where no device fails
lucky_fits : (s : State) (line : ℕ) (x : Step) → IsU32 line × IsCountable x → MailFits s → IsStep x → LineFits (with_luck well 0 (plain_atoms s line x))
lucky_fits s line x number mail is = subst LineFits (sym (failures_aside.steps 0 (plain_atoms s line x))) (plain_fits s line x number mail is)

-- the same of a line that changes something
busy_fits : (s : State) (line : ℕ) (x : Step) → IsU32 line × IsCountable x → MailFits s → IsStep x → LineFits (busy_atoms well s line x)
busy_fits s line step.Settle number mail is = settle_fits s
busy_fits s line x number mail is = lucky_fits s line x number mail is

-- the atomic steps of a line
line_fits : (s : State) (line : ℕ) (x : Step) → IsU32 line × IsCountable x → MailFits s → IsStep x → LineFits (line_atoms well s line x)
unfolding line_atoms
line_fits s line x number mail is =
    cond_both LineFits (is_idle s x) (Shows event.Nothing ∷ []) (busy_atoms well s line x) (one_fits (Shows event.Nothing) tt (omega arith) (omega arith))
    (busy_fits s line x number mail is)

-- ---- runs

-- the events of a line with its number
numbered_fits : (line : ℕ) (es : List Event) → IsU32 line → AllByRecursion IsEvent es → AllByRecursion IsLine (at_line line es)
numbered_fits line [] number each = tt
numbered_fits line (e ∷ es) number each = ((number, each.0), numbered_fits line es number each.1)

-- the atomic steps of a line, behind so many lines
row_behind : (n : ℕ) (s : State) (xs : List Atom) → suc n ≤ most_lines → LineFits xs → StateFits n (line_takings * n) s
    → RowFits (suc n) (line_takings * suc n) s xs
row_behind n s xs few its fit =
    row_fits n (suc n) (line_takings * n) (line_takings * suc n) s xs (omega (arith, its.few)) (omega (arith, its.taken)) few (omega (arith, few)) its.each fit

-- no run makes the letters fewer
run_grows : (s : State) (line : ℕ) (xs : List Step) → length s.letters ≤ length (run s line xs).state.letters
unfolding run step_with
run_grows s line [] = omega arith
run_grows s line (x ∷ xs) =
    let atoms : List Atom = line_atoms well s line x in omega (arith, letters_grow s atoms, run_grows (after s atoms) (suc line) xs)

-- a run behind so many lines
run_fits : (n : ℕ) (s : State) (line : ℕ) (xs : List Step) → line ≡ suc n → n + length xs ≤ most_lines → AllByRecursion IsStep xs
    → AllByRecursion IsCountable xs → length (run s line xs).state.letters ≤ most_messages → StateFits n (line_takings * n) s
    → AllByRecursion IsLine (run s line xs).transcript
unfolding run step_with
run_fits n s line [] at few is counts sent fit = tt
run_fits n s line (x ∷ xs) at few is counts sent fit =
    let atoms : List Atom = line_atoms well s line x in
    let its = line_fits s line x ((omega arith, omega (arith, at, few)), counts.0)
    (record { links = fit.letters; few = omega (arith, run_grows s line (x ∷ xs), sent) }) is.0 in
    let here : suc n ≤ most_lines = omega (arith, few) in
    let rest : suc n + length xs ≤ most_lines = omega (arith, few) in
    let row = row_behind n s atoms here its fit in
    all-append IsLine (at_line line (events s atoms)) (run (after s atoms) (suc line) xs).transcript
    (numbered_fits line (events s atoms) (omega arith, omega (arith, at, here)) row.shown)
    (run_fits (suc n) (after s atoms) (suc line) xs (omega (arith, at)) rest is.1 counts.1 sent row.state)

-- before a setup
blank_fits : StateFits 0 0 blank
unfolding meta_from
blank_fits = record {
  conf = tt;
  nodes = λ b. record { bookie = record { queue = tt; batches = tt }; other = tt };
  letters = tt;
  joined = λ c. tt;
  calls = λ c. omega arith;
  ledgers = λ l. tt;
  sessions = omega arith;
  tree = tree_more 1 (tree_most 0) root_alone (omega arith) root_fits;
}

-- a run from the first line on
all_fit : (steps : List Step) → AllByRecursion IsStep steps → AllByRecursion IsCountable steps → length steps ≤ most_lines
    → length (run blank 1 steps).state.letters ≤ most_messages → AllByRecursion IsLine (transcript steps)
all_fit steps is counts few sent = run_fits 0 blank 1 steps refl (omega (arith, few)) is counts sent blank_fits

-- ---- replays

-- the messages of letters are as many as the letters
traffic_count : (t : Traffic) (ls : List Letter) → (with_traffic t ls).messages ≡ t.messages + length ls
unfolding with_traffic
traffic_count t [] = omega arith
traffic_count t (l ∷ ls) = omega (arith, traffic_count (with_message t l.msg) ls)

-- the messages of a state behind an earlier one are as many as its letters
since_count : (t : Traffic) (s u : State) → t.messages ≡ length s.letters → length s.letters ≤ length u.letters
    → (with_traffic t (letters_since s u)).messages ≡ length u.letters
since_count t s u e h = omega (arith, e, h, traffic_count t (letters_since s u), length-drop (length s.letters) u.letters)

-- of two limits neither is passed
neither : (p q : Option Past) → first_past p q ≡ None → (p ≡ None) × (q ≡ None)
neither None q e = (refl, e)
neither (Some p) q e = absurd cc

-- a limit that isn't passed
not_where : (t : Bool) (name : LimitName) (k : ℕ) → past_where t name k ≡ None → t ≡ false
not_where false name k e = refl
not_where true name k e = absurd cc

-- letters that pass no limit are no more than a run may have
letters_within : (t : Traffic) (ls : List Letter) → t.messages ≤ most_messages → past_letters t ls ≡ None → (with_traffic t ls).messages ≤ most_messages
unfolding past_letters with_traffic
letters_within t [] h e = h
letters_within t (l ∷ ls) h e =
    let next : Traffic = with_message t l.msg in
    let both = neither (past_traffic next) (past_letters next ls) e in
    let count = neither (past_where (nat_lt most_messages next.messages) limit.Messages most_messages)
    (past_where (nat_lt most_message_bytes next.bytes) limit.MessageBytes most_message_bytes) both.0 in
    letters_within next ls (ltb-false most_messages next.messages (not_where (nat_lt most_messages next.messages) limit.Messages most_messages count.0)) both.1

-- nor are those of atomic steps that pass none
atoms_within : (t : Traffic) (s : State) (xs : List Atom) → t.messages ≡ length s.letters → length s.letters ≤ most_messages → past_in t s xs ≡ None
    → length (after s xs).letters ≤ most_messages
unfolding past_in after
atoms_within t s [] e h none = h
atoms_within t s (a ∷ more) e h none =
    let now : State = (atom s a).state in
    let both = neither (past_at t s a now) (past_in (with_traffic t (letters_since s now)) now more) none in
    let here = neither (past_before s a) (past_letters t (letters_since s now)) both.0 in
    let count = since_count t s now e (atom_letters s a) in
    let within = letters_within t (letters_since s now) (omega (arith, e, h)) here.1 in
    atoms_within (with_traffic t (letters_since s now)) now more count (omega (arith, count, within)) both.1

-- the text of a transcript, and then that of another
print-append : (xs ys : List (ℕ × Event)) → print_transcript (xs ++ ys) ≡ print_transcript xs ++ print_transcript ys
print-append [] ys = refl
print-append (x ∷ xs) ys =
    ap (λ text. print_event x.0 x.1 ++ text) (print-append xs ys) ∙ sym (append_assoc (print_event x.0 x.1) (print_transcript xs) (print_transcript ys))

-- no text
no_text : FittingText []
no_text = record { events = []; printed = refl; fit = tt }

-- the text of events that fit, and then another
more_text : (xs : List (ℕ × Event)) (text : List ℕ) → AllByRecursion IsLine xs → FittingText text → FittingText (print_transcript xs ++ text)
more_text xs text each t = record {
  events = xs ++ t.events;
  printed = ap (λ (ys : List ℕ). print_transcript xs ++ ys) t.printed ∙ sym (print-append xs t.events);
  fit = all-append IsLine xs t.events each t.fit;
}

-- What is known before a line of a replay.
record GoingFits (g : Going) : Type 0 where
  state : StateFits g.lines (line_takings * g.lines) g.state
  few : g.lines ≤ most_lines
  sent : length g.state.letters ≤ most_messages
  counted : g.traffic.messages ≡ length g.state.letters

-- a line of a replay that is run
after_fits : (g : Going) (size : ℕ) (atoms : List Atom) (past : Option Past) (rest : Going → Replay) → (run_atoms g atoms).past ≡ past
    → suc g.lines ≤ most_lines → LineFits atoms → GoingFits g → ((next : Going) → GoingFits next → FittingText (rest next).text)
    → FittingText (after_line g size (run_atoms g atoms) past rest).text
after_fits g size atoms (Some past) rest e few its fit later = no_text
after_fits g size atoms None rest e few its fit later =
    let row = row_behind g.lines g.state atoms few its fit.state in
    let next : Going = going_behind g size (run_atoms g atoms) in
    let grown = letters_grow g.state atoms in
    let none = (neither (past_in g.traffic g.state atoms) (past_text g (run_atoms g atoms).text) e).0 in
    more_text (at_line (suc g.lines) (events g.state atoms)) (rest next).text
    (numbered_fits (suc g.lines) (events g.state atoms) (omega arith, omega (arith, few)) row.shown)
    (later next (record {
      state = row.state;
      few = few;
      sent = atoms_within g.traffic g.state atoms fit.counted fit.sent none;
      counted = since_count g.traffic g.state (after g.state atoms) fit.counted grown;
    }))

-- a line of a replay that was read
read_fits : (g : Going) (line : List ℕ) (read : Result Step ℕ) (rest : Going → Replay) → parsed_line line ≡ read → suc g.lines ≤ most_lines
    → length line ≤ most_schedule → GoingFits g → ((next : Going) → GoingFits next → FittingText (rest next).text)
    → FittingText (run_line g (length line) read rest).text
read_fits g line (Err column) rest e few short fit later = no_text
read_fits g line (Ok x) rest e few short fit later =
    let found = reading_found step_exact line x e in
    let its = line_fits g.state (suc g.lines) x ((omega arith, omega (arith, few)), line_countable x line found.1 short)
    (record { links = fit.state.letters; few = fit.sent }) found.0 in
    after_fits g (length line) (line_atoms well g.state (suc g.lines) x) (run_atoms g (line_atoms well g.state (suc g.lines) x)).past rest refl few its fit
    later

-- a line that is past no limit of the schedule is one of at most so many, and of at most so many bytes
not_past : (g : Going) (line : List ℕ) → past_schedule g line ≡ None → (suc g.lines ≤ most_lines) × (length line ≤ most_schedule)
not_past g line e =
    let none = neither (past_where (nat_lt most_lines (suc g.lines)) limit.Lines most_lines)
    (past_where (nat_lt most_schedule (g.bytes + length line)) limit.Schedule most_schedule) e in
    let bytes : g.bytes + length line ≤ most_schedule = ltb-false most_schedule (g.bytes + length line)
    (not_where (nat_lt most_schedule (g.bytes + length line)) limit.Schedule most_schedule none.1) in
    (ltb-false most_lines (suc g.lines) (not_where (nat_lt most_lines (suc g.lines)) limit.Lines most_lines none.0), omega (arith, bytes))

-- a line of a replay
take_fits : (g : Going) (line : List ℕ) (past : Option Past) (rest : Going → Replay) → past_schedule g line ≡ past → GoingFits g
    → ((next : Going) → GoingFits next → FittingText (rest next).text) → FittingText (take_line g line past rest).text
take_fits g line (Some past) rest e fit later = no_text
take_fits g line None rest e fit later = let within = not_past g line e in read_fits g line (parsed_line line) rest refl within.0 within.1 fit later

-- the replay of lines
lines_fit : (g : Going) (lines : List (List ℕ)) → GoingFits g → FittingText (replay_from g lines).text
unfolding replay_from
lines_fit g [] fit = no_text
lines_fit g (line ∷ lines) fit =
    take_fits g line (past_schedule g line) (λ next. replay_from next lines) refl fit (λ next is. lines_fit next lines is)

-- the replay of a schedule
replay_fits : (input : List ℕ) → FittingText (replay_text input)
unfolding replay
replay_fits input = lines_fit first_going (lines_of input) (record { state = blank_fits; few = omega arith; sent = omega arith; counted = refl })

-- each event of a run fits its line, which is the law
pub events_fit_their_lines : EventsFitTheirLines
events_fit_their_lines = record { runs = all_fit; replays = replay_fits }

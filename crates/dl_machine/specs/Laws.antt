-- What holds of every run of the machine.
use Rattle.std.specs.Prelude.{◌≡◌, ℕ, zero, suc, ◌≤◌, ◌⊎◌, Bool, true, false, List, [], ◌∷◌, ◌++◌, length, map, Option, Some, None}
use Rattle.dl_rules_nodes.specs.Bookies.{Bookie, durable}
use Rattle.dl_rules_nodes.specs.Items.{MetaItem}
use Rattle.dl_rules_nodes.specs.Metadata.{MetaNode}
use Rattle.dl_schedule.specs.declared.step.Step.{Step}
use Rattle.dl_transcript.specs.declared.event.Event.{Event}
use Rattle.dl_machine.specs.States.{State, Node, Joined, blank, state_of_files, is_up}
use Rattle.dl_machine.specs.Atoms.{Atom, meta_in, atom}
use Rattle.dl_machine.specs.Fates.{Luck, with_luck, well}
use Rattle.dl_machine.specs.Limits.{most_messages, turn_limit}
use Rattle.dl_machine.specs.Runs.{after, events, turn, settles, is_quiet, line_atoms, is_fit, run}

-- ---- runs are folds

-- the atomic steps of lines, numbered from this one on, where no device fails
unfoldable pub run_atoms : State → ℕ → List Step → List Atom
run_atoms s line [] = []
run_atoms s line (x ∷ xs) =
    let now = line_atoms well s line x in
    now ++ run_atoms (after s now) (suc line) xs

-- the events of a transcript, without the numbers of their lines
abbrev pub events_in : List (ℕ × Event) → List Event
events_in transcript = map (λ (x : ℕ × Event). x.1) transcript

-- Atomic steps in a row are the first of them, and then the others from the state that those
-- leave; a run is the row of the atomic steps of its lines.
pub record RunsAreFolds : Type 0 where
  pub states : (s : State) (xs ys : List Atom) → after s (xs ++ ys) ≡ after (after s xs) ys
  pub shown : (s : State) (xs ys : List Atom)
      → events s (xs ++ ys) ≡ events s xs ++ events (after s xs) ys
  pub last : (s : State) (line : ℕ) (xs : List Step)
      → (run s line xs).state ≡ after s (run_atoms s line xs)
  pub transcript : (s : State) (line : ℕ) (xs : List Step)
      → events_in (run s line xs).transcript ≡ events s (run_atoms s line xs)

-- ---- failures aside

-- a turn as it is, and then the rest from its state on; a turn without a step is the end
abbrev pub turns_on : State → List Atom → (State → List Atom) → List Atom
turns_on s [] rest = []
turns_on s (a ∷ more) rest = (a ∷ more) ++ rest (after s (a ∷ more))

-- the atomic steps of at most so many turns, as they are
unfoldable pub turns : ℕ → State → List Atom
turns zero s = []
turns (suc n) s = turns_on s (turn s) (turns n)

-- no storage node's device failed
abbrev pub none_failed : ℕ → Bool
none_failed b = false

-- Where no device fails, atomic steps are those of the rules, and settling takes its turns as
-- they are. Where no device failed, the lucks that a line may have make no other atomic steps of
-- it; and that no device fails may always be.
pub record FailuresAside : Type 0 where
  pub steps : (i : ℕ) (xs : List Atom) → with_luck well i xs ≡ xs
  pub settling : (n i : ℕ) (s : State) → settles well n i s ≡ turns n s
  pub lines : (luck : ℕ → Luck) (s : State) (line : ℕ) (x : Step)
      → is_fit none_failed luck s line x ≡ true → line_atoms luck s line x ≡ line_atoms well s line x
  pub fit : (failed : ℕ → Bool) (s : State) (line : ℕ) (x : Step) → is_fit failed well s line x ≡ true

-- ---- what stays

-- A list that begins with another.
pub record Extends {A : Type 0} (xs ys : List A) : Type 0 where
  pub more : List A
  pub same : ys ≡ xs ++ more

-- the items of the metadata node are as they were, or there is one more, the newest
abbrev pub OneItemMore : List MetaItem → List MetaItem → Type 0
OneItemMore items now = (now ≡ items) ⊎ ((x : MetaItem) × (now ≡ x ∷ items))

-- Letters that were sent stay, in their order, and one that was delivered stays so; items of the
-- metadata node stay.
pub record Stays (s t : State) : Type 0 where
  pub letters : Extends s.letters t.letters
  pub delivered : (place : ℕ) → s.delivered place ≡ true → t.delivered place ≡ true
  pub items : OneItemMore s.meta.items t.meta.items

-- no atomic step takes a letter or an item back
abbrev pub LettersStay : Type 0
LettersStay = (s : State) (a : Atom) → Stays s (atom s a).state

-- ---- durable items

-- it is known what the disk of a storage node holds
abbrev pub IsSettled : Node → Type 0
IsSettled n = n.other ≡ None

-- a storage node that is up is settled
abbrev pub UpIsSettled : Node → Type 0
UpIsSettled n = is_up n.mode ≡ true → IsSettled n

-- so are all storage nodes
abbrev pub UpAreSettled : State → Type 0
UpAreSettled s = (b : ℕ) → UpIsSettled (s.nodes b)

-- The durable items of a storage node that is settled stay, in their order, through each atomic
-- step; and nodes that are up are settled before a setup, in a state loaded from files, and then
-- after all atomic steps.
pub record DurableItemsStay : Type 0 where
  pub grow : (s : State) (a : Atom) (b : ℕ) → IsSettled (s.nodes b)
      → Extends (durable (s.nodes b).bookie) (durable ((atom s a).state.nodes b).bookie)
  pub begun : UpAreSettled blank
  pub files : (bookies : List (Option Bookie)) (meta : MetaNode)
      → UpAreSettled (state_of_files bookies meta)
  pub reached : (s : State) (xs : List Atom) → UpAreSettled s → UpAreSettled (after s xs)

-- ---- settling

-- the state that a settling leaves
abbrev pub state_after_settling : (ℕ → Luck) → State → State
state_after_settling luck s = after s (settles luck turn_limit 0 s)

-- where letters stay within their limit, a settling leaves nothing to settle, whatever the devices
-- do
abbrev pub SettlingEndsQuiet : Type 0
SettlingEndsQuiet = (luck : ℕ → Luck) (s : State)
    → length (state_after_settling luck s).letters ≤ most_messages → is_quiet (state_after_settling luck s) ≡ true

-- ---- sessions

-- a session was given
abbrev pub IsGiven : State → ℕ → Type 0
IsGiven s k = (1 ≤ k) × (k ≤ (meta_in s).sessions.last)

-- each client that has joined is in a session that was given
abbrev pub JoinedAreGiven : State → Type 0
JoinedAreGiven s = (c : ℕ) (me : Joined) → s.clients c ≡ Some me → IsGiven s me.session

-- Clients are in sessions that were given: before a setup, in a state loaded from files, and then
-- after all atomic steps.
pub record SessionsAreGiven : Type 0 where
  pub begun : JoinedAreGiven blank
  pub files : (bookies : List (Option Bookie)) (meta : MetaNode)
      → JoinedAreGiven (state_of_files bookies meta)
  pub reached : (s : State) (xs : List Atom) → JoinedAreGiven s → JoinedAreGiven (after s xs)

-- The atomic steps of lines show nothing by themselves but notices, whatever devices do.
use Rattle.std.proofs.Common.{ℕ, zero, suc, ◌+◌, Bool, List, [], ◌∷◌, length, map, Option, Some, None, refl}
use Rattle.std.specs.List.{AllByRecursion}
use Rattle.dl_types.specs.declared.address.Address.TheVariants.{Client, Meta as AtMeta}
use Rattle.dl_schedule.specs.declared.node.Node as target
use Rattle.dl_schedule.specs.declared.node.Node.TheVariants as node
use Rattle.dl_schedule.specs.declared.step.Step.{Step}
use Rattle.dl_schedule.specs.declared.step.Step.TheVariants as step
use Rattle.dl_transcript.specs.declared.event.Event.TheVariants as event
use Rattle.dl_rules_client.proofs.RangeLists.{all-append, cond_both}
use Rattle.dl_machine.specs.States.{State, bookies_of}
use Rattle.dl_machine.specs.Atoms.{Atom, SetUp, Deliver, Commit, StopMeta, Kill, Rise}
use Rattle.dl_machine.specs.Atoms.{Shows}
use Rattle.dl_machine.specs.Lines.{Mail, links, is_idle, is_kept, place_of, at_place, kill_of, rise_of, order_of, client_in, plain_atoms}
use Rattle.dl_machine.specs.Limits.{turn_limit}
use Rattle.dl_machine.specs.Fates.{Luck, Fails, Falls, Unmade, steps_by_luck, with_luck}
use Rattle.dl_machine.specs.Runs.{after, next_letter, nodes_due, turn_by, turn, goes_on, settles, busy_atoms, line_atoms}
use Rattle.dl_laws.specs.Frames.{IsFit}

module _ (Line : Step → Type 0) where
  -- each of these atomic steps may be one of a line
  abbrev pub AreFit : List Atom → Type 0
  AreFit xs = AllByRecursion (IsFit Line) xs

  -- nodes go down
  kills_fit : (bookies : List ℕ) → AreFit (map Kill bookies)
  kills_fit [] = tt
  kills_fit (b ∷ bs) = (tt, kills_fit bs)

  -- what becomes of an atomic step
  luck_fit : (luck : Luck) (a : Atom) → IsFit Line a → AreFit (steps_by_luck luck a)
  unfolding steps_by_luck
  luck_fit (Fails kept) (Commit b) fit = (tt, tt)
  luck_fit (Fails kept) (Deliver place) fit = (tt, tt)
  luck_fit (Fails kept) (Rise b) fit = (tt, tt)
  luck_fit Falls (Commit b) fit = (tt, (tt, tt))
  luck_fit (Unmade bookies) (SetUp conf) fit = (tt, kills_fit bookies)
  luck_fit luck a fit = (fit, tt)

  -- what becomes of atomic steps
  lucks_fit : (luck : ℕ → Luck) (i : ℕ) (xs : List Atom) → AreFit xs → AreFit (with_luck luck i xs)
  unfolding with_luck
  lucks_fit luck i [] fit = tt
  lucks_fit luck i (a ∷ more) fit =
      all-append (IsFit Line) (steps_by_luck (luck i) a) (with_luck luck (suc i) more) (luck_fit (luck i) a fit.0) (lucks_fit luck (suc i) more fit.1)

  -- storage nodes commit
  commits_fit : (bookies : List ℕ) → AreFit (map Commit bookies)
  commits_fit [] = tt
  commits_fit (b ∷ bs) = (tt, commits_fit bs)

  -- a turn of settling
  turn_by_fit : (s : State) (place : Option ℕ) → AreFit (turn_by s place)
  turn_by_fit s None = commits_fit (nodes_due s (bookies_of s.conf))
  turn_by_fit s (Some place) = (tt, tt)

  -- the same by the first letter that is due
  turn_fit : (s : State) → AreFit (turn s)
  unfolding turn
  turn_fit s = turn_by_fit s (next_letter s 0 s.letters)

  -- a turn, and those behind it
  goes_on_fit : (s : State) (xs now : List Atom) (i : ℕ) (rest : ℕ → State → List Atom) → AreFit now → ((j : ℕ) (t : State) → AreFit (rest j t))
      → AreFit (goes_on s xs now i rest)
  goes_on_fit s [] now i rest fit later = tt
  goes_on_fit s (a ∷ more) now i rest fit later =
      all-append (IsFit Line) now (rest (i + length (a ∷ more)) (after s now)) fit (later (i + length (a ∷ more)) (after s now))

  -- a settling
  settle_fit : (luck : ℕ → Luck) (n i : ℕ) (s : State) → AreFit (settles luck n i s)
  unfolding settles
  settle_fit luck zero i s = tt
  settle_fit luck (suc n) i s =
      goes_on_fit s (turn s) (with_luck luck i (turn s)) i (settles luck n) (lucks_fit luck i (turn s) (turn_fit s)) (settle_fit luck n)

  -- links are shown
  mails_fit : (ms : List Mail) → AreFit (map Shows (map (λ (m : Mail). event.Mail m.from m.to m.count) ms))
  mails_fit [] = tt
  mails_fit (m ∷ ms) = (refl, mails_fit ms)

  -- a letter is delivered
  deliver_fit : (place : Option ℕ) → AreFit (at_place Deliver place)
  deliver_fit None = tt
  deliver_fit (Some place) = (tt, tt)

  -- the metadata node stops on a letter
  stop_fit : (kept : Bool) (place : Option ℕ) → AreFit (at_place (λ place. StopMeta place kept) place)
  stop_fit kept None = tt
  stop_fit kept (Some place) = (tt, tt)

  -- a node goes down
  kill_fit : (x : target.Node) → IsFit Line (kill_of x)
  kill_fit (node.Bookie b) = tt
  kill_fit node.Meta = tt

  -- a node is loaded
  rise_fit : (x : target.Node) → IsFit Line (rise_of x)
  rise_fit (node.Bookie b) = tt
  rise_fit node.Meta = tt

  -- a client takes a line
  order_fit : (line : ℕ) (x : Step) (c : Option ℕ) → Line x → AreFit (order_of line x c)
  order_fit line x None is = tt
  order_fit line x (Some c) is = (is, tt)

  -- a line that doesn't settle
  plain_fit : (s : State) (line : ℕ) (x : Step) → Line x → AreFit (plain_atoms s line x)
  unfolding plain_atoms
  plain_fit s line (step.Setup b e w a) is = (tt, tt)
  plain_fit s line (step.Join c) is = (tt, tt)
  plain_fit s line (step.Crash c) is = (tt, tt)
  plain_fit s line (step.Expire k) is = (tt, tt)
  plain_fit s line (step.Deliver from to n) is = deliver_fit (place_of s.letters from to n)
  plain_fit s line (step.Sync b) is = (tt, tt)
  plain_fit s line (step.Lose b) is = (tt, tt)
  plain_fit s line (step.Stop b call kept) is = (tt, tt)
  plain_fit s line (step.StopMeta c n call kept) is = stop_fit (is_kept call kept) (place_of s.letters (Client c) AtMeta n)
  plain_fit s line (step.Kill x) is = (kill_fit x, tt)
  plain_fit s line (step.Up x) is = (rise_fit x, tt)
  plain_fit s line step.Settle is = tt
  plain_fit s line step.Mail is = mails_fit (links s.letters)
  plain_fit s line x is = order_fit line x (client_in x) is

  -- a line that changes something
  busy_fit : (luck : ℕ → Luck) (s : State) (line : ℕ) (x : Step) → Line x → AreFit (busy_atoms luck s line x)
  busy_fit luck s line step.Settle is = settle_fit luck turn_limit 0 s
  busy_fit luck s line x is = lucks_fit luck 0 (plain_atoms s line x) (plain_fit s line x is)

  -- a line
  pub line_fit : (luck : ℕ → Luck) (s : State) (line : ℕ) (x : Step) → Line x → AreFit (line_atoms luck s line x)
  unfolding line_atoms
  line_fit luck s line x is = cond_both AreFit (is_idle s x) (Shows event.Nothing ∷ []) (busy_atoms luck s line x) (refl, tt) (busy_fit luck s line x is)

-- What the storage nodes of the machine keep through its atomic steps.
use Rattle.std.specs.Prelude.{◌≡◌, ℕ, true, List, [], ◌∷◌, Some, slice_get}
use Rattle.dl_types.specs.declared.address.Address.TheVariants.{Client, Bookie as AtBookie}
use Rattle.dl_msg.specs.declared.letter.Letter.{Letter}
use Rattle.dl_rules_client.specs.Acts.{Line}
use Rattle.dl_machine.specs.States.{State, blank}
use Rattle.dl_machine.specs.Atoms.{Atom, Order, Deliver, atom}
use Rattle.dl_machine.specs.Runs.{after}
use Rattle.dl_rules_nodes.specs.Bookies.{all_items}
use Rattle.dl_law_nodes.specs.Disks.{Grows, fences}
use Rattle.dl_law_nodes.specs.Promises.{Shapes, FencesLast}
use Rattle.dl_law_nodes.specs.Laws.{tells_fence}
use Rattle.dl_law_stores.specs.States.{StateHolds, ClientTells, PlaceTells}

-- what the client of an atomic step tells, where one takes something in it, is so
abbrev pub StepTells : Shapes → State → Atom → Type 0
StepTells shape s (Order c line x) = ClientTells shape s c s.conf (s.clients c) (Line line x)
StepTells shape s (Deliver place) = PlaceTells shape s (slice_get s.letters place)
StepTells shape s a = Unit {0}

-- A state goes on: letters and nodes keep their promises, and what the nodes kept stays.
pub record StateGoesOn (shape : Shapes) (s t : State) : Type 0 where
  pub grows : Grows s.nodes t.nodes
  pub holds : StateHolds shape t

-- each atomic step is so
abbrev pub StepsKeep : Type 0
StepsKeep = (shape : Shapes) (s : State) (a : Atom) → StateHolds shape s → StepTells shape s a → StateGoesOn shape s (atom s a).state

-- what clients tell in each of these atomic steps is so
unfoldable pub AllTell : Shapes → State → List Atom → Type 0
AllTell shape s [] = Unit {0}
AllTell shape s (a ∷ more) = StepTells shape s a × AllTell shape (atom s a).state more

-- Nothing is promised before a setup, and every list of atomic steps keeps what was.
pub record RunsKeep : Type 0 where
  pub begun : (shape : Shapes) → StateHolds shape blank
  pub reached : (shape : Shapes) (s : State) (xs : List Atom) → StateHolds shape s → AllTell shape s xs → StateGoesOn shape s (after s xs)

-- Fences last in a state: whoever said in a letter that a ledger is fenced has its fence, and behind it nothing is added.
pub record FencesLastIn (s : State) : Type 0 where
  pub told : (place b c ledger : ℕ) (l : Letter) → slice_get s.letters place ≡ Some l → l.from ≡ AtBookie b → l.to ≡ Client c
      → tells_fence ledger l.msg ≡ true → fences s.nodes ledger b ≡ true
  pub behind : (b : ℕ) → FencesLast (all_items (s.nodes b).bookie)

-- so in each state that is reached from before a setup
abbrev pub FencesLastInRuns : Type 0
FencesLastInRuns = (shape : Shapes) (xs : List Atom) → AllTell shape blank xs → FencesLastIn (after blank xs)

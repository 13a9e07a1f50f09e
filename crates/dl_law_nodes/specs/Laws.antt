-- What storage nodes keep, and what tasks may rest on.
use Rattle.std.specs.Prelude.{◌≡◌, ◌≢◌, ◌==◌, ◌&&◌, ℕ, ◌<◌, ◌≤◌, Bool, true, false, List, [], count_by, Some, None, IfSome, AllPairs}
use Rattle.std.specs.List.{list_any, AllByRecursion}
use Rattle.dl_quorum.specs.Pieces.{Piece, Pieces, members, last_piece, covers}
use Rattle.dl_msg.specs.declared.msg.Msg.{Msg}
use Rattle.dl_msg.specs.declared.msg.Msg.TheVariants as msg
use Rattle.dl_rules_ledger.specs.Subjects.{Subject}
use Rattle.dl_rules_ledger.specs.Recoveries as recovery
use Rattle.dl_rules_ledger.specs.Recoveries.{Phase, Move, recovers}
use Rattle.dl_rules_ledger.specs.Writers.{WriterView, Hears, Sends, with_call, confirmed_count, closing_count, add_letters, new_view}
use Rattle.dl_rules_nodes.specs.Items.{is_add}
use Rattle.dl_rules_nodes.specs.Bookies.{Bookie, Reply, Taken, durable, queued_items, all_items, table_row, after, answer_now, replies_of, after_commit}
use Rattle.dl_machine.specs.States.{Node, is_up, new_node, loaded_node, with_value}
use Rattle.dl_machine.specs.Atoms.{stopped_node, killed_node, risen_node, loosened_node, lost_node}
use Rattle.dl_law_nodes.specs.Disks.{Nodes, stores, fences, denies, disk_passes, lacks_add, Grows}
use Rattle.dl_law_nodes.specs.Promises.{Shapes, IsPlaced, LastPiecesFollow, with_piece, Stored, Held, Sealed, AskHolds, AnswerHolds, ToldHold, FencesLast, ItemsHold}
use Rattle.dl_law_nodes.specs.Promises.{NodeHolds, AllHold, PhaseHolds, WriterHolds}

-- a storage node with another list and queue
abbrev pub with_bookie : Node → Bookie → Node
with_bookie n b = record n { bookie = b }

-- storage nodes of which one is now this
abbrev pub with_node : Nodes → ℕ → Node → Nodes
with_node k b n = with_value k b n

-- A storage node goes on as this one, among others: what was kept stays, and each node keeps its promises.
pub record GoesOn (shape : Shapes) (k : Nodes) (b : ℕ) (n : Node) : Type 0 where
  pub grows : Grows k (with_node k b n)
  pub each : AllHold shape (with_node k b n)

-- ---- promises last

-- Nodes that stay, and nodes that go on twice, keep what they had.
pub record GrowthLasts : Type 0 where
  pub same : (k : Nodes) → Grows k k
  pub twice : (k m n : Nodes) → Grows k m → Grows m n → Grows k n

-- What is promised stays so as nodes go on.
pub record PromisesLast (shape : Shapes) (k m : Nodes) : Type 0 where
  pub stored : (l n : ℕ) → Stored shape k l n → Stored shape m l n
  pub held : (l n : ℕ) → Held shape k l n → Held shape m l n
  pub sealed : (l n : ℕ) → Sealed shape k l n → Sealed shape m l n
  pub asks : (x : Msg) → AskHolds shape k x → AskHolds shape m x
  pub answers : (b : ℕ) (x : Msg) → AnswerHolds shape k b x → AnswerHolds shape m b x
  pub phases : (l : ℕ) (p : Phase) → PhaseHolds shape k l p → PhaseHolds shape m l p
  pub writers : (v : WriterView) → WriterHolds k v → WriterHolds m v

-- so of all nodes that go on
abbrev pub AllPromisesLast : Type 0
AllPromisesLast = (shape : Shapes) (k m : Nodes) → Grows k m → PromisesLast shape k m

-- ---- nodes

-- Nodes that were just made keep their promises, and so does one that was loaded from a file, where its items do.
pub record NodesBegin : Type 0 where
  pub made : (shape : Shapes) → AllHold shape (λ b. new_node)
  pub lost : (shape : Shapes) (k : Nodes) → NodeHolds shape k (loaded_node None)
  pub loaded : (shape : Shapes) (k : Nodes) (b : Bookie) → b.queue ≡ [] → ItemsHold shape k (durable b)
      → NodeHolds shape k (loaded_node (Some b))

-- A message that keeps its promise is taken by a node that is up: the answer, where one leaves at once, keeps its promise, and
-- the nodes go on.
pub record MessageIsTaken (shape : Shapes) (k : Nodes) (b client session : ℕ) (m : Msg) (row : Taken) : Type 0 where
  pub goes : GoesOn shape k b (with_bookie (k b) (after (k b).bookie client session row))
  pub answer : IfSome (answer_now (k b).bookie m row) (AnswerHolds shape k b)

-- each message that keeps its promise is taken so
abbrev pub MessagesAreTaken : Type 0
MessagesAreTaken =
    (shape : Shapes) (k : Nodes) → AllHold shape k → (b client session : ℕ) (m : Msg) → is_up (k b).mode ≡ true
    → AskHolds shape k m → MessageIsTaken shape k b client session m (table_row (k b).bookie m)

-- A commit: the nodes go on, and each reply that leaves keeps its promise.
pub record IsCommitted (shape : Shapes) (k : Nodes) (b : ℕ) (n : Node) : Type 0 where
  pub goes : GoesOn shape k b n
  pub replies : AllByRecursion (λ (r : Reply). AnswerHolds shape (with_node k b n) b r.msg) (replies_of (k b).bookie)

-- each commit is so
abbrev pub CommitsKeep : Type 0
CommitsKeep =
    (shape : Shapes) (k : Nodes) → AllHold shape k → (b : ℕ)
    → IsCommitted shape k b (with_bookie (k b) (after_commit (k b).bookie))

-- Whatever befalls a node, the nodes go on: a stop inside a commit, with the batch or without, the end of its process, a load, a
-- load that fails and leaves either list, the loss of its disk.
pub record NodesSurvive (shape : Shapes) (k : Nodes) (b : ℕ) : Type 0 where
  pub stop : (kept : Bool) → GoesOn shape k b (stopped_node (k b) kept)
  pub kill : GoesOn shape k b (killed_node (k b))
  pub rise : GoesOn shape k b (risen_node (k b) (k b).mode)
  pub loosen : (other : Bool) → GoesOn shape k b (loosened_node (k b) (k b).mode other)
  pub lose : GoesOn shape k b (lost_node (k b))

-- so of all nodes that keep their promises
abbrev pub AllNodesSurvive : Type 0
AllNodesSurvive = (shape : Shapes) (k : Nodes) → AllHold shape k → (b : ℕ) → NodesSurvive shape k b

-- ---- fences

-- whether an answer says that its ledger is fenced
abbrev pub tells_fence : ℕ → Msg → Bool
tells_fence ledger (msg.AddFenced l e) = l == ledger
tells_fence ledger (msg.LacIs t l f n) = f && l == ledger
tells_fence ledger (msg.NoEntry t l e f) = f && l == ledger
tells_fence ledger m = false

-- Who says that a ledger is fenced has its fence on the disk. Among the durable items of a node, and then those that wait, none behind
-- a fence adds an entry of its ledger: where the fence is on the disk, none waits. An entry that is denied for good is never stored.
pub record FencesLastThere (shape : Shapes) (k : Nodes) : Type 0 where
  pub told : (b l : ℕ) (m : Msg) → AnswerHolds shape k b m → tells_fence l m ≡ true → fences k l b ≡ true
  pub behind : (b : ℕ) → AllHold shape k → FencesLast (all_items (k b).bookie)
  pub waiting : (b l e : ℕ) → AllHold shape k → fences k l b ≡ true → list_any (is_add l e) (queued_items (k b).bookie) ≡ false
  pub denied : (m : Nodes) → Grows k m → (l e b : ℕ) → denies k l e b ≡ true → stores m l e b ≡ false

-- so of all nodes
abbrev pub AllFencesLast : Type 0
AllFencesLast = (shape : Shapes) (k : Nodes) → FencesLastThere shape k

-- Where bookies that cover a ledger are fenced, an entry of its last piece that is on none of their disks is sealed.
abbrev pub CoversSeal : Type 0
CoversSeal =
    (shape : Shapes) (k : Nodes) → AllHold shape k → (l e : ℕ) → IsPlaced (shape l) → covers (shape l) (fences k l) ≡ true
    → (last_piece (shape l)).from ≤ e
    → ((b : ℕ) → fences k l b ≡ true → disk_passes (lacks_add l e) (k b) ≡ true) → Sealed shape k l e

-- ---- tasks

-- A move of a recovery: the phase knows what it knows, and what is told keeps its promise.
pub record MoveHolds (shape : Shapes) (k : Nodes) (l : ℕ) (move : Move) : Type 0 where
  pub phase : PhaseHolds shape k l move.0
  pub told : ToldHold shape k move.1

-- A recovery whose pieces are the ledger's promises nothing but what it heard promised.
pub record RecoveriesHold (shape : Shapes) (k : Nodes) (x : Subject) : Type 0 where
  pub begun : MoveHolds shape k x.ledger (recovery.fences x)
  pub heard : x.pieces ≡ shape x.ledger → LastPiecesFollow shape k → (p : Phase) (b : ℕ) (m : Msg)
      → PhaseHolds shape k x.ledger p → AnswerHolds shape k b m → MoveHolds shape k x.ledger (recovers x p b m)

-- so do all
abbrev pub AllRecoveriesHold : Type 0
AllRecoveriesHold = (shape : Shapes) (k : Nodes) (x : Subject) → RecoveriesHold shape k x

-- A writer whose pieces are the ledger's promises nothing but what it heard promised, and what it has confirmed is stored, all that
-- it sent where it may close.
pub record WritersHold (shape : Shapes) (k : Nodes) (v : WriterView) : Type 0 where
  pub heard : (b : ℕ) (m : Msg) → WriterHolds k v → AnswerHolds shape k b m → WriterHolds k (with_call v (Hears b m))
  pub sent : (bytes : List ℕ) → WriterHolds k v → WriterHolds k (with_call v (Sends bytes))
  pub told : (bytes : List ℕ) → v.pieces ≡ shape v.ledger → WriterHolds k v → ToldHold shape k (add_letters v bytes)
  pub confirmed : v.pieces ≡ shape v.ledger → WriterHolds k v → Stored shape k v.ledger (confirmed_count v)
  pub closing : v.pieces ≡ shape v.ledger → WriterHolds k v → IfSome (closing_count v) (Stored shape k v.ledger)

-- so do all, and one that was given no call yet promises nothing
pub record AllWritersHold : Type 0 where
  pub begun : (k : Nodes) (l : ℕ) (w : Pieces) → WriterHolds k (new_view l w)
  pub each : (shape : Shapes) (k : Nodes) (v : WriterView) → WritersHold shape k v

-- ---- promises meet

-- of a ledger that is sealed at an entry no more than the entries before it are stored
abbrev pub SealsEndStoring : Type 0
SealsEndStoring =
    (shape : Shapes) (k : Nodes) (l count entry : ℕ) → IsPlaced (shape l) → Stored shape k l count → Sealed shape k l entry
    → count ≤ entry

-- An entry that is stored is on the disks of at least an ack quorum of different bookies.
pub record IsReplicated (shape : Shapes) (k : Nodes) (l e : ℕ) : Type 0 where
  pub differ : AllPairs (λ a b. a ≢ b) (members (shape l) e)
  pub enough : (shape l).q.qa ≤ count_by (stores k l e) (members (shape l) e)

-- What is stored is replicated and held, and a further piece that begins no earlier leaves it stored.
pub record WhatIsStored (shape : Shapes) (k : Nodes) (l n : ℕ) : Type 0 where
  pub replicated : IsPlaced (shape l) → (e : ℕ) → e < n → IsReplicated shape k l e
  pub held : Held shape k l n
  pub stays : (x : Piece) → n ≤ x.from → Stored (with_piece shape l x) k l n

-- so of each ledger
abbrev pub StoredIsReplicated : Type 0
StoredIsReplicated = (shape : Shapes) (k : Nodes) (l n : ℕ) → Stored shape k l n → WhatIsStored shape k l n

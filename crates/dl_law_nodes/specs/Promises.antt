-- What messages, items, waiting replies and tasks promise of the storage nodes.
use Rattle.std.specs.Prelude.{◌≡◌, ◌≢◌, ℕ, ◌<◌, Bool, true, false, List, [], ◌∷◌, ◌++◌, length, Some, None, IfSome, AllPairs}
use Rattle.std.specs.List.{list_any, AllByRecursion}
use Rattle.dl_quorum.specs.Sizes.{AreSizes}
use Rattle.dl_quorum.specs.Pieces.{Piece, Pieces, Rise, piece_of, last_piece, acks, blocks, covers}
use Rattle.dl_msg.specs.declared.letters.Told.{Told}
use Rattle.dl_msg.specs.declared.msg.Msg.{Msg}
use Rattle.dl_msg.specs.declared.msg.Msg.TheVariants as msg
use Rattle.dl_rules_ledger.specs.Recoveries.{Phase, Fencing, Reading, Copying, Ended, Exhausted}
use Rattle.dl_rules_ledger.specs.Writers.{WriterView, has_acked, fence_bookie}
use Rattle.dl_rules_nodes.specs.Items.{Item, AddItem, CopyItem, FenceItem, is_add, is_entry, is_fence}
use Rattle.dl_rules_nodes.specs.Bookies.{Bookie, Waiting, durable, all_items}
use Rattle.dl_machine.specs.States.{Node, is_up, with_value}
use Rattle.dl_law_nodes.specs.Disks.{Nodes, stores, holds, fences, denies}

-- ---- ledgers

-- the pieces of each ledger
abbrev pub Shapes : Type 0
Shapes = ℕ → Pieces

-- A ledger is placed: its sizes keep the rule of a quorum, its pieces go by rising first entries, and each has as many bookies as the
-- sizes say, which differ.
pub record IsPlaced (w : Pieces) : Type 0 where
  pub sizes : AreSizes w.q
  pub rise : Rise w.first w.later
  pub full : (entry : ℕ) → length (piece_of w entry).members ≡ w.q.e
  pub differ : (entry : ℕ) → AllPairs (λ a b. a ≢ b) (piece_of w entry).members

-- each entry below a count is stored, as it was added, by an ack quorum of its write set
pub record Stored (shape : Shapes) (k : Nodes) (l count : ℕ) : Type 0 where
  pub each : (e : ℕ) → e < count → acks (shape l) e (stores k l e) ≡ true

-- each entry below a count is held, as it was added or as a copy, by an ack quorum of its write set
pub record Held (shape : Shapes) (k : Nodes) (l count : ℕ) : Type 0 where
  pub each : (e : ℕ) → e < count → acks (shape l) e (holds k l e) ≡ true

-- so many bookies deny an entry for good that no ack quorum can store it any more
pub record Sealed (shape : Shapes) (k : Nodes) (l entry : ℕ) : Type 0 where
  pub blocked : blocks (shape l) entry (denies k l entry) ≡ true

-- the entries before each ledger's last piece are stored; a ledger of one piece has none before it
abbrev pub LastPiecesFollow : Shapes → Nodes → Type 0
LastPiecesFollow shape k = (l : ℕ) → Stored shape k l (last_piece (shape l)).from

-- the pieces of ledgers, of which one has a further piece
abbrev pub with_piece : Shapes → ℕ → Piece → Shapes
with_piece shape l x = with_value shape l (record (shape l) { later = (shape l).later ++ x ∷ [] })

-- ---- messages and items

-- a fence that is told is on the disk of the bookie
abbrev pub FencedIf : Bool → Nodes → (ledger bookie : ℕ) → Type 0
FencedIf true k l b = fences k l b ≡ true
FencedIf false k l b = Unit {0}

-- a denial with a fence is for good
abbrev pub DeniedIf : Bool → Nodes → (ledger entry bookie : ℕ) → Type 0
DeniedIf true k l e b = denies k l e b ≡ true
DeniedIf false k l e b = Unit {0}

-- what a message for a bookie promises, which is one of four kinds: the count that it carries is stored
abbrev pub AskHolds : Shapes → Nodes → Msg → Type 0
AskHolds shape k (msg.Add l e n bytes) = Stored shape k l n
AskHolds shape k (msg.Copy t l e n bytes) = Stored shape k l n
AskHolds shape k (msg.AskLac t l f) = Unit {0}
AskHolds shape k (msg.AskEntry t l e) = Unit {0}
AskHolds shape k (msg.AddOk l e) = ⊥
AskHolds shape k (msg.AddFenced l e) = ⊥
AskHolds shape k (msg.Full what l e) = ⊥
AskHolds shape k (msg.CopyOk t l e) = ⊥
AskHolds shape k (msg.LacIs t l f n) = ⊥
AskHolds shape k (msg.EntryIs t l e bytes) = ⊥
AskHolds shape k (msg.NoEntry t l e f) = ⊥
AskHolds shape k (msg.MetaAsk session number op) = ⊥
AskHolds shape k (msg.MetaReply session number r) = ⊥

-- what a message of a bookie promises, which is one of seven kinds: what it says is on the bookie's disk, a count that it tells is
-- stored, and a denial with a fence is for good
abbrev pub AnswerHolds : Shapes → Nodes → ℕ → Msg → Type 0
AnswerHolds shape k b (msg.AddOk l e) = stores k l e b ≡ true
AnswerHolds shape k b (msg.AddFenced l e) = fences k l b ≡ true
AnswerHolds shape k b (msg.Full what l e) = Unit {0}
AnswerHolds shape k b (msg.CopyOk t l e) = holds k l e b ≡ true
AnswerHolds shape k b (msg.LacIs t l f n) = FencedIf f k l b × Stored shape k l n
AnswerHolds shape k b (msg.EntryIs t l e bytes) = Unit {0}
AnswerHolds shape k b (msg.NoEntry t l e f) = DeniedIf f k l e b
AnswerHolds shape k b (msg.Add l e n bytes) = ⊥
AnswerHolds shape k b (msg.Copy t l e n bytes) = ⊥
AnswerHolds shape k b (msg.AskLac t l f) = ⊥
AnswerHolds shape k b (msg.AskEntry t l e) = ⊥
AnswerHolds shape k b (msg.MetaAsk session number op) = ⊥
AnswerHolds shape k b (msg.MetaReply session number r) = ⊥

-- messages that are told keep their promises
abbrev pub ToldHold : Shapes → Nodes → List Told → Type 0
ToldHold shape k told = AllByRecursion (λ (t : Told). AskHolds shape k t.msg) told

-- what an item promises: the count that it carries is stored
abbrev pub ItemHolds : Shapes → Nodes → Item → Type 0
ItemHolds shape k (AddItem l e n bytes) = Stored shape k l n
ItemHolds shape k (CopyItem l e n bytes) = Stored shape k l n
ItemHolds shape k (FenceItem l) = Unit {0}

-- ---- storage nodes

-- what a reply that waits promises: what it says is among the items that are durable once the queue is
abbrev pub ReplyHolds : List Item → Msg → Type 0
ReplyHolds items (msg.AddOk l e) = list_any (is_add l e) items ≡ true
ReplyHolds items (msg.AddFenced l e) = list_any (is_fence l) items ≡ true
ReplyHolds items (msg.CopyOk t l e) = list_any (is_entry l e) items ≡ true
ReplyHolds items (msg.LacIs t l f n) = list_any (is_fence l) items ≡ true
ReplyHolds items (msg.Full what l e) = ⊥
ReplyHolds items (msg.EntryIs t l e bytes) = ⊥
ReplyHolds items (msg.NoEntry t l e f) = ⊥
ReplyHolds items (msg.Add l e n bytes) = ⊥
ReplyHolds items (msg.Copy t l e n bytes) = ⊥
ReplyHolds items (msg.AskLac t l f) = ⊥
ReplyHolds items (msg.AskEntry t l e) = ⊥
ReplyHolds items (msg.MetaAsk session number op) = ⊥
ReplyHolds items (msg.MetaReply session number r) = ⊥

-- no item adds an entry of a ledger
abbrev pub AddsNone : ℕ → List Item → Type 0
AddsNone l items = (e : ℕ) → list_any (is_add l e) items ≡ false

-- behind a fence of a ledger no item adds an entry of it
abbrev pub FencesLast : List Item → Type 0
FencesLast [] = Unit {0}
FencesLast (AddItem l e n bytes ∷ items) = FencesLast items
FencesLast (CopyItem l e n bytes ∷ items) = FencesLast items
FencesLast (FenceItem l ∷ items) = AddsNone l items × FencesLast items

-- What holds of the items of a storage node, the durable ones and then those that wait: they keep their promises, and fences are last.
pub record ItemsHold (shape : Shapes) (k : Nodes) (items : List Item) : Type 0 where
  pub each : AllByRecursion (ItemHolds shape k) items
  pub fences_last : FencesLast items

-- What holds of the other list that a disk may hold, for which no reply waits.
pub record OtherHolds (shape : Shapes) (k : Nodes) (b : Bookie) : Type 0 where
  pub items : ItemsHold shape k (durable b)
  pub idle : b.queue ≡ []

-- What holds of a storage node: its items and waiting replies keep their promises, behind a fence nothing is added, one that is up
-- has one list on its disk, and in one that isn't nothing waits.
pub record NodeHolds (shape : Shapes) (k : Nodes) (n : Node) : Type 0 where
  pub items : ItemsHold shape k (all_items n.bookie)
  pub waiting : AllByRecursion (λ (w : Waiting). ReplyHolds (all_items n.bookie) w.reply) n.bookie.queue
  pub other : IfSome n.other (OtherHolds shape k)
  pub settled : is_up n.mode ≡ true → n.other ≡ None
  pub idle : is_up n.mode ≡ false → n.bookie.queue ≡ []

-- all nodes keep their promises
abbrev pub AllHold : Shapes → Nodes → Type 0
AllHold shape k = (b : ℕ) → NodeHolds shape k (k b)

-- ---- tasks

-- What a recovery knows that reads or copies an entry: bookies that cover the ledger are fenced, each entry below the start is stored,
-- and each below this one is held.
pub record FoundUpTo (shape : Shapes) (k : Nodes) (l first entry : ℕ) : Type 0 where
  pub fenced : covers (shape l) (fences k l) ≡ true
  pub start : Stored shape k l first
  pub found : Held shape k l entry

-- What a recovery knows at its end: bookies that cover the ledger are fenced, each entry below the count is held, and the next one can't
-- be stored any more.
pub record EndsAt (shape : Shapes) (k : Nodes) (l count : ℕ) : Type 0 where
  pub fenced : covers (shape l) (fences k l) ≡ true
  pub found : Held shape k l count
  pub sealed : Sealed shape k l count

-- what a recovery of a ledger knows in a phase: what it was told
abbrev pub PhaseHolds : Shapes → Nodes → ℕ → Phase → Type 0
PhaseHolds shape k l (Fencing answers) =
    AllByRecursion (λ (x : ℕ × ℕ). (fences k l x.0 ≡ true) × Stored shape k l x.1) answers
PhaseHolds shape k l (Reading start e denials) = FoundUpTo shape k l start e × AllByRecursion (λ b. denies k l e b ≡ true) denials
PhaseHolds shape k l (Copying start e copied) = FoundUpTo shape k l start e × AllByRecursion (λ b. holds k l e b ≡ true) copied
PhaseHolds shape k l (Ended count) = EndsAt shape k l count
PhaseHolds shape k l Exhausted = Unit {0}

-- What a writer knows: who acknowledged an entry stores it, and who said that the ledger is fenced has its fence.
pub record WriterHolds (k : Nodes) (v : WriterView) : Type 0 where
  pub acked : (e b : ℕ) → has_acked v.ledger v.calls e b ≡ true → stores k v.ledger e b ≡ true
  pub fenced : (b : ℕ) → fence_bookie v ≡ Some b → fences k v.ledger b ≡ true

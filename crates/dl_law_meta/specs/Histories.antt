-- Histories: the items of the metadata node, the newest first, whose requests are those of the clients.
use Rattle.std.specs.Prelude.{◌≡◌, ◌≢◌, ℕ, ◌+◌, Bool, false, ◌&&◌, ◌==◌, if◌then◌else◌, List, [], ◌∷◌, Option, Some, None, is_none, is_some, Result, Ok}
use Rattle.std.specs.Prelude.{Err, filter, length}
use Rattle.dl_types.specs.declared.meta_op.MetaOp.{MetaOp}
use Rattle.dl_session.specs.declared.admit.Admit.TheVariants.{Run}
use Rattle.dl_formats.specs.declared.ledger.LedgerState.{LedgerState}
use Rattle.dl_formats.specs.declared.ledger.LedgerState.TheVariants.{Closed}
use Rattle.dl_formats.specs.declared.segment.SegmentMeta.TheVariants as meta
use Rattle.dl_formats.specs.Keys.{Key, Ledger, MaxSeq, Progress}
use Rattle.dl_formats.specs.Reading.{ledger_at, segment_at, maxseq_at}
use Rattle.dl_tree.specs.declared.node.Node.{Node}
use Rattle.dl_tree.specs.Trees.{Nodes}
use Rattle.dl_rules_nodes.specs.Items.{MetaItem, Setup, Connect, Expire, Ask}
use Rattle.dl_rules_nodes.specs.Metadata.{meta_of, admit_of}
use Rattle.dl_rules_stream.specs.Requests.{Request, MakeStream, MakeAgain, RemoveStream, MakeMember, ListMembers, LeaveLock, Look, MakeLedger, TakeLedger}
use Rattle.dl_rules_stream.specs.Requests.{StartSegment, GetSegment, GetLedger, MarkLedger, CloseLedger, CompleteSegment, ListCut, LookCut, SetCut}
use Rattle.dl_rules_stream.specs.Requests.{DropSegment, op_of}
use Rattle.dl_rules_stream.specs.Listings.{ledger_of}
use Rattle.dl_law_meta.specs.Keyed.{node}
use Rattle.dl_law_meta.specs.Effects.{IsInForm}

-- the tree after these items
abbrev pub tree_of : List MetaItem → Nodes
tree_of items = (meta_of items).tree

-- the node at a key after these items
abbrev pub node_after : List MetaItem → Key → Option Node
node_after items k = node (tree_of items) k

-- ---- the items of a history

-- An operation is that of a request in form that passes a test.
pub record IsAsked (P : Request → Type 0) (o : MetaOp) : Type 0 where
  pub request : Request
  pub is : o ≡ op_of request
  pub form : IsInForm request
  pub passes : P request

-- an item behind these: the configuration is behind none, and an operation is that of a request
abbrev pub IsItemBehind : (Nodes → Request → Type 0) → List MetaItem → MetaItem → Type 0
IsItemBehind P older (Setup conf) = older ≡ []
IsItemBehind P older (Connect session) = Unit {0}
IsItemBehind P older (Expire session) = Unit {0}
IsItemBehind P older (Ask session number o) = IsAsked (P (tree_of older)) o

-- items of which each request passes a test in the tree that it meets
abbrev pub AreItemsBy : (Nodes → Request → Type 0) → List MetaItem → Type 0
AreItemsBy P [] = Unit {0}
AreItemsBy P (x ∷ older) = IsItemBehind P older x × AreItemsBy P older

-- any request
abbrev pub IsAny : Nodes → Request → Type 0
IsAny t r = Unit {0}

-- items whose operations are those of requests
abbrev pub AreRequests : List MetaItem → Type 0
AreRequests items = AreItemsBy IsAny items

-- ---- what requests suppose

-- what is read of bytes, where they can be read
abbrev pub read_as : {A B E : Type 0} → Result A E → (A → B) → Option B
read_as (Ok x) view = Some (view x)
read_as (Err fault) view = None

-- how far the ledger has come whose node has these bytes
abbrev pub state_in : List ℕ → Option LedgerState
state_in bytes = read_as (ledger_at bytes) (λ x. x.state)

-- the segment that `maxseq` names by these bytes
abbrev pub segment_in : List ℕ → Option ℕ
segment_in bytes = read_as (maxseq_at bytes) (λ x. x.segment)

-- the ledger isn't closed
abbrev pub IsNotClosed : List ℕ → Type 0
IsNotClosed bytes = state_in bytes ≢ Some Closed

-- while a node has the version that a request names, its bytes are as the request supposes
abbrev pub WhileNamed : Nodes → Key → ℕ → (List ℕ → Type 0) → Type 0
WhileNamed t k version P = (n : Node) → node t k ≡ Some n → n.version ≡ version → P n.bytes

-- `maxseq` names this segment
abbrev pub NamesSegment : ℕ → List ℕ → Type 0
NamesSegment segment bytes = segment_in bytes ≡ Some segment

-- `maxseq` names the segment before this one
abbrev pub NamesBefore : ℕ → List ℕ → Type 0
NamesBefore segment bytes = (before : ℕ) × (segment_in bytes ≡ Some before) × (before + 1 ≡ segment)

-- the node of a segment in progress names this ledger
abbrev pub NamesLedger : ℕ → ℕ → List ℕ → Type 0
NamesLedger segment ledger bytes = segment_at bytes ≡ Ok (meta.InProgress segment ledger)

-- What a client that makes a request has read: the ledger that it marks or closes isn't closed, the segment that it starts comes
-- next, and the segment that it completes is on this ledger, and leaves the one that `maxseq` names. It may have changed since.
abbrev pub Supposes : Nodes → Request → Type 0
Supposes t (MakeStream s) = Unit {0}
Supposes t (MakeAgain s) = Unit {0}
Supposes t (RemoveStream s) = Unit {0}
Supposes t (MakeMember s) = Unit {0}
Supposes t (ListMembers s) = Unit {0}
Supposes t (LeaveLock member) = Unit {0}
Supposes t (Look s) = Unit {0}
Supposes t (MakeLedger q) = Unit {0}
Supposes t (TakeLedger s member old version ledger) = Unit {0}
Supposes t (StartSegment b) = WhileNamed t (MaxSeq b.stream) b.version (NamesBefore b.segment)
Supposes t (GetSegment s segment) = Unit {0}
Supposes t (GetLedger ledger) = Unit {0}
Supposes t (MarkLedger ledger q version) = WhileNamed t (Ledger ledger) version IsNotClosed
Supposes t (CloseLedger ledger q count version) = WhileNamed t (Ledger ledger) version IsNotClosed
Supposes t (CompleteSegment c) =
    WhileNamed t (MaxSeq c.stream) c.version (NamesSegment c.greatest) × WhileNamed t (Progress c.stream c.segment) 0 (NamesLedger c.segment c.ledger)
Supposes t (ListCut s) = Unit {0}
Supposes t (LookCut s) = Unit {0}
Supposes t (SetCut s point version) = Unit {0}
Supposes t (DropSegment s segment ledger) = Unit {0}

-- items whose requests were made by clients that had read what they suppose
abbrev pub AreSupposed : List MetaItem → Type 0
AreSupposed items = AreItemsBy Supposes items

-- ---- who made a ledger

-- The session and the number of a request that ran.
pub record Asker : Type 0 where
  pub session : ℕ
  pub number : ℕ

-- whose request an item is, where it is one
abbrev pub asker_of : MetaItem → Option Asker
asker_of (Setup conf) = None
asker_of (Connect session) = None
asker_of (Expire session) = None
asker_of (Ask session number o) = Some (record { session = session; number = number })

-- a node stands where none stood
abbrev pub is_new : Option Node → Option Node → Bool
is_new before now = is_none before && is_some now

-- who made a ledger last
unfoldable pub maker : List MetaItem → ℕ → Option Asker
maker [] ledger = None
maker (x ∷ older) ledger = if is_new (node_after older (Ledger ledger)) (node_after (x ∷ older) (Ledger ledger)) then asker_of x else maker older ledger

-- ---- on which ledger a segment was started

-- the ledger that the node of a segment names
abbrev pub ledger_named : Option Node → Option ℕ
ledger_named None = None
ledger_named (Some n) = read_as (segment_at n.bytes) ledger_of

-- the ledger with which a segment was started last
unfoldable pub starter : List MetaItem → List ℕ → ℕ → Option ℕ
starter [] s segment = None
starter (x ∷ older) s segment =
    if is_new (node_after older (Progress s segment)) (node_after (x ∷ older) (Progress s segment)) then ledger_named
    (node_after (x ∷ older) (Progress s segment))
    else starter older s segment

-- ---- requests that ran

-- an item that may follow these by the rule of sessions: a request is admitted
abbrev pub IsAdmitted : List MetaItem → MetaItem → Type 0
IsAdmitted older (Setup conf) = Unit {0}
IsAdmitted older (Connect session) = Unit {0}
IsAdmitted older (Expire session) = Unit {0}
IsAdmitted older (Ask session number o) = admit_of (meta_of older) session number ≡ Run

-- items of which each request was admitted where it ran
abbrev pub AreAdmitted : List MetaItem → Type 0
AreAdmitted [] = Unit {0}
AreAdmitted (x ∷ older) = IsAdmitted older x × AreAdmitted older

-- an item runs this number of a session
abbrev pub runs_number : ℕ → ℕ → MetaItem → Bool
runs_number session number (Ask k n o) = k == session && n == number
runs_number session number _ = false

-- how often a number of a session ran
abbrev pub times_run : ℕ → ℕ → List MetaItem → ℕ
times_run session number items = length (filter (runs_number session number) items)

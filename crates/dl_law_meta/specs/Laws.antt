-- What the requests of the orders leave in the metadata tree, and what stays over the items of the metadata node.
use Rattle.std.specs.Prelude.{◌≡◌, ◌≢◌, ℕ, ◌+◌, ◌<◌, ◌≤◌, List, [], ◌∷◌, ◌++◌, Option, Some, None}
use Rattle.dl_fields.specs.Digits.{HasTenDigits}
use Rattle.dl_formats.specs.declared.conf.Conf as conf
use Rattle.dl_formats.specs.declared.ledger.LedgerState.TheVariants.{Closed}
use Rattle.dl_formats.specs.declared.segment.SegmentMeta.TheVariants as meta
use Rattle.dl_formats.specs.Children.{IsSegmentNumber}
use Rattle.dl_formats.specs.Keys.{Key, Conf, Streams, Ledgers, Ledger, Stream, MaxSeq, Cut, Alloc, Locks, Member, Segs, Progress, Completed, NoSlash, IsKey}
use Rattle.dl_formats.specs.NodeBytes.{conf_bytes, segment_bytes}
use Rattle.dl_tree.specs.declared.node.Node.{Node}
use Rattle.dl_tree.specs.Laws.{set_node}
use Rattle.dl_tree.specs.Trees.{Nodes}
use Rattle.dl_rules_nodes.specs.Items.{MetaItem}
use Rattle.dl_rules_nodes.specs.Metadata.{first_tree}
use Rattle.dl_rules_stream.specs.Requests.{Request}
use Rattle.dl_law_meta.specs.Keyed.{node, lasting, ephemeral, with_count}
use Rattle.dl_law_meta.specs.Effects.{answer_to, tree_after, IsInForm, LeavesBy}
use Rattle.dl_law_meta.specs.Histories.{tree_of, node_after, WhileNamed, NamesLedger, AreRequests, AreSupposed, AreAdmitted, state_in, Asker, maker}
use Rattle.dl_law_meta.specs.Histories.{starter, times_run}

-- ---- one request

-- each request in form leaves what its kind says, and nothing where it fails
abbrev pub EachRequestLeaves : Type 0
EachRequestLeaves =
    (t : Nodes) (session : ℕ) (r : Request) → IsInForm r
    → LeavesBy t session r (answer_to t session r) (tree_after t session r)

-- The tree with which a configuration begins: the configuration, and the nodes of all streams and of all ledgers, with none below.
pub record IsFirstTree (c : conf.Conf) (t : Nodes) : Type 0 where
  pub configuration : node t Conf ≡ Some (lasting (conf_bytes c))
  pub streams : node t Streams ≡ Some (lasting [])
  pub ledgers : node t Ledgers ≡ Some (lasting [])
  pub others : (k : Key) → IsKey k → k ≢ Conf → k ≢ Streams → k ≢ Ledgers → node t k ≡ None

-- a configuration makes these nodes
abbrev pub ConfigurationMakes : Type 0
ConfigurationMakes = (c : conf.Conf) → IsFirstTree c (first_tree c)

-- ---- one item

-- the nodes of the members of a lock
abbrev pub IsMemberKey : Key → Type 0
IsMemberKey Conf = ⊥
IsMemberKey Streams = ⊥
IsMemberKey Ledgers = ⊥
IsMemberKey (Ledger ledger) = ⊥
IsMemberKey (Stream s) = ⊥
IsMemberKey (MaxSeq s) = ⊥
IsMemberKey (Cut s) = ⊥
IsMemberKey (Alloc s) = ⊥
IsMemberKey (Locks s) = ⊥
IsMemberKey (Member s number) = Unit {0}
IsMemberKey (Segs s) = ⊥
IsMemberKey (Progress s segment) = ⊥
IsMemberKey (Completed s segment) = ⊥

-- the nodes that are set: `maxseq`, `cut` and `alloc` of a stream, and ledgers
abbrev pub MayBeSet : Key → Type 0
MayBeSet Conf = ⊥
MayBeSet Streams = ⊥
MayBeSet Ledgers = ⊥
MayBeSet (Ledger ledger) = Unit {0}
MayBeSet (Stream s) = ⊥
MayBeSet (MaxSeq s) = Unit {0}
MayBeSet (Cut s) = Unit {0}
MayBeSet (Alloc s) = Unit {0}
MayBeSet (Locks s) = ⊥
MayBeSet (Member s number) = ⊥
MayBeSet (Segs s) = ⊥
MayBeSet (Progress s segment) = ⊥
MayBeSet (Completed s segment) = ⊥

-- the nodes below which names are counted: that of all ledgers, and the lock of a stream
abbrev pub Counts : Key → Type 0
Counts Conf = ⊥
Counts Streams = ⊥
Counts Ledgers = Unit {0}
Counts (Ledger ledger) = ⊥
Counts (Stream s) = ⊥
Counts (MaxSeq s) = ⊥
Counts (Cut s) = ⊥
Counts (Alloc s) = ⊥
Counts (Locks s) = Unit {0}
Counts (Member s number) = ⊥
Counts (Segs s) = ⊥
Counts (Progress s segment) = ⊥
Counts (Completed s segment) = ⊥

-- how many names were counted below a node
abbrev pub counter_in : Option Node → ℕ
counter_in None = 0
counter_in (Some n) = n.counter

-- The node at a key was set.
pub record WasSet (t u : Nodes) (k : Key) : Type 0 where
  pub old : Node
  pub bytes : List ℕ
  pub was : node t k ≡ Some old
  pub now : node u k ≡ Some (set_node bytes old)

-- a ledger has the next number
abbrev pub HasNextNumber : Nodes → Nodes → ℕ → Type 0
HasNextNumber t u ledger = (counter_in (node t Ledgers) ≡ ledger) × (counter_in (node u Ledgers) ≡ ledger + 1)

-- what else changes where a node is made: a ledger has the next number, and with a segment `maxseq` is set
abbrev pub MayBeMade : Nodes → Nodes → Key → Type 0
MayBeMade t u Conf = Unit {0}
MayBeMade t u Streams = Unit {0}
MayBeMade t u Ledgers = Unit {0}
MayBeMade t u (Ledger ledger) = HasNextNumber t u ledger
MayBeMade t u (Stream s) = Unit {0}
MayBeMade t u (MaxSeq s) = Unit {0}
MayBeMade t u (Cut s) = Unit {0}
MayBeMade t u (Alloc s) = Unit {0}
MayBeMade t u (Locks s) = Unit {0}
MayBeMade t u (Member s number) = ⊥
MayBeMade t u (Segs s) = Unit {0}
MayBeMade t u (Progress s segment) = WasSet t u (MaxSeq s)
MayBeMade t u (Completed s segment) = WasSet t u (MaxSeq s)

-- the nodes that are deleted at times: the lock and its members, ledgers, and segments; where a segment is in progress no longer,
-- `maxseq` is set
abbrev pub MayGo : Nodes → Nodes → Key → Type 0
MayGo t u Conf = ⊥
MayGo t u Streams = ⊥
MayGo t u Ledgers = ⊥
MayGo t u (Ledger ledger) = Unit {0}
MayGo t u (Stream s) = ⊥
MayGo t u (MaxSeq s) = ⊥
MayGo t u (Cut s) = ⊥
MayGo t u (Alloc s) = ⊥
MayGo t u (Locks s) = Unit {0}
MayGo t u (Member s number) = Unit {0}
MayGo t u (Segs s) = Unit {0}
MayGo t u (Progress s segment) = WasSet t u (MaxSeq s)
MayGo t u (Completed s segment) = Unit {0}

-- how the node at a key moves from one tree to another: it stays, it is new, it is set to the next version, a name below it is
-- counted, or it goes
pub data Moves (t u : Nodes) (k : Key) : Option Node → Option Node → Type 0 where
  stays : (o : Option Node) → Moves t u k o o
  is_made : (bytes : List ℕ) → MayBeMade t u k → Moves t u k None (Some (lasting bytes))
  joins : (session : ℕ) → IsMemberKey k → Moves t u k None (Some (ephemeral session))
  is_set : (n : Node) (bytes : List ℕ) → MayBeSet k → Moves t u k (Some n) (Some (set_node bytes n))
  is_counted : (n : Node) → Counts k → Moves t u k (Some n) (Some (with_count n))
  goes : (n : Node) → MayGo t u k → Moves t u k (Some n) None

-- the node at a key moves so
abbrev pub MovesAt : Nodes → Nodes → Key → Type 0
MovesAt t u k = Moves t u k (node t k) (node u k)

-- each item moves each node so
abbrev pub EachItemMoves : Type 0
EachItemMoves =
    (x : MetaItem) (older : List MetaItem) (k : Key) → AreRequests (x ∷ older) → IsKey k
    → MovesAt (tree_of older) (tree_of (x ∷ older)) k

-- members of locks alone have owners
abbrev pub MembersAloneHaveOwners : Type 0
MembersAloneHaveOwners =
    (items : List MetaItem) (k : Key) (n : Node) (session : ℕ) → AreRequests items → IsKey k
    → node_after items k ≡ Some n → n.owner ≡ Some session → IsMemberKey k

-- ---- what stays

-- A node later on: neither its version nor its counter has fallen, and while the version stands, so do its bytes.
pub record IsLater (n m : Node) : Type 0 where
  pub version : n.version ≤ m.version
  pub counter : n.counter ≤ m.counter
  pub owner : m.owner ≡ n.owner
  pub bytes : m.version ≡ n.version → m.bytes ≡ n.bytes

-- a node that is there, and is a later one of this
abbrev pub IsThereLater : Node → Option Node → Type 0
IsThereLater n None = ⊥
IsThereLater n (Some m) = IsLater n m

-- a node that is gone, or is a later one of this
abbrev pub IsGoneOrLater : Node → Option Node → Type 0
IsGoneOrLater n None = Unit {0}
IsGoneOrLater n (Some m) = IsLater n m

-- the nodes that never go: `maxseq`, `cut` and `alloc` of a stream, its own, and those of all streams and of all ledgers
abbrev pub IsLasting : Key → Type 0
IsLasting Conf = Unit {0}
IsLasting Streams = Unit {0}
IsLasting Ledgers = Unit {0}
IsLasting (Ledger ledger) = ⊥
IsLasting (Stream s) = Unit {0}
IsLasting (MaxSeq s) = Unit {0}
IsLasting (Cut s) = Unit {0}
IsLasting (Alloc s) = Unit {0}
IsLasting (Locks s) = ⊥
IsLasting (Member s number) = ⊥
IsLasting (Segs s) = ⊥
IsLasting (Progress s segment) = ⊥
IsLasting (Completed s segment) = ⊥

-- nodes that never go stay, whatever requests follow: their versions only rise, and while a version stands so do its bytes
abbrev pub LastingNodesStay : Type 0
LastingNodesStay =
    (newer older : List MetaItem) (k : Key) (n : Node) → AreRequests (newer ++ older) → IsKey k → IsLasting k
    → node_after older k ≡ Some n → IsThereLater n (node_after (newer ++ older) k)

-- the number of ledgers that were made
abbrev pub ledgers_made : List MetaItem → ℕ
ledgers_made items = counter_in (node_after items Ledgers)

-- A ledger's number is given once: a ledger that is there is one of those that were made; once it is gone it stays so; and while it
-- is there its node is a later one of what it was.
pub record LedgersAreMadeOnce (newer older : List MetaItem) (ledger : ℕ) : Type 0 where
  pub rises : ledgers_made older ≤ ledgers_made (newer ++ older)
  pub given : (n : Node) → node_after older (Ledger ledger) ≡ Some n → ledger < ledgers_made older
  pub gone : ledger < ledgers_made older → node_after older (Ledger ledger) ≡ None → node_after (newer ++ older) (Ledger ledger) ≡ None
  pub later : (n : Node) → node_after older (Ledger ledger) ≡ Some n → IsGoneOrLater n (node_after (newer ++ older) (Ledger ledger))

-- each ledger is made once
abbrev pub EachLedgerIsMadeOnce : Type 0
EachLedgerIsMadeOnce =
    (newer older : List MetaItem) (ledger : ℕ) → AreRequests (newer ++ older) → HasTenDigits ledger
    → LedgersAreMadeOnce newer older ledger

-- who made a ledger stays
abbrev pub MakersStay : Type 0
MakersStay =
    (newer older : List MetaItem) (ledger : ℕ) (who : Asker) → AreRequests (newer ++ older) → HasTenDigits ledger
    → maker older ledger ≡ Some who → maker (newer ++ older) ledger ≡ Some who

-- the node of a closed ledger
abbrev pub IsClosed : Node → Type 0
IsClosed n = state_in n.bytes ≡ Some Closed

-- the same node, or none
abbrev pub IsSameOrGone : Node → Option Node → Type 0
IsSameOrGone n None = Unit {0}
IsSameOrGone n (Some m) = m ≡ n

-- the node of a closed ledger stays as it is, until it is deleted
abbrev pub ClosedLedgersStay : Type 0
ClosedLedgersStay =
    (newer older : List MetaItem) (ledger : ℕ) (n : Node) → AreSupposed (newer ++ older) → HasTenDigits ledger
    → node_after older (Ledger ledger) ≡ Some n → IsClosed n → IsSameOrGone n (node_after (newer ++ older) (Ledger ledger))

-- What a look at a stream told, while the version of `maxseq` stands: the node `maxseq`, the segments in progress, and those that
-- are completed but for some that were deleted.
pub record LooksStay (newer older : List MetaItem) (s : List ℕ) : Type 0 where
  pub maxseq : node_after (newer ++ older) (MaxSeq s) ≡ node_after older (MaxSeq s)
  pub progress : (segment : ℕ) → HasTenDigits segment → node_after (newer ++ older) (Progress s segment) ≡ node_after older (Progress s segment)
  pub completed : (segment : ℕ) → HasTenDigits segment → (n : Node) → node_after (newer ++ older) (Completed s segment) ≡ Some n
      → node_after older (Completed s segment) ≡ Some n

-- each look stays right while the version of `maxseq` stands
abbrev pub LooksStayWhileMaxseqStands : Type 0
LooksStayWhileMaxseqStands =
    (newer older : List MetaItem) (s : List ℕ) (n m : Node) → AreRequests (newer ++ older) → NoSlash s
    → node_after older (MaxSeq s) ≡ Some n → node_after (newer ++ older) (MaxSeq s) ≡ Some m → m.version ≡ n.version
    → LooksStay newer older s

-- The ledger of a segment, in progress or completed.
pub record IsOnLedger (items : List MetaItem) (s : List ℕ) (segment ledger : ℕ) : Type 0 where
  pub progress : (n : Node) → node_after items (Progress s segment) ≡ Some n → n.bytes ≡ segment_bytes (meta.InProgress segment ledger)
  pub completed : (n : Node) → node_after items (Completed s segment) ≡ Some n
      → (entries : ℕ) × (rows : ℕ) × (last : ℕ) × (n.bytes ≡ segment_bytes (meta.Completed segment ledger entries rows last))

-- a segment stays on the ledger with which it was started, also once it is completed
abbrev pub SegmentsStayOnLedgers : Type 0
SegmentsStayOnLedgers =
    (newer older : List MetaItem) (s : List ℕ) (segment ledger : ℕ) (n : Node) → AreSupposed (newer ++ older) → NoSlash s
    → IsSegmentNumber segment → HasTenDigits ledger
    → node_after older (Progress s segment) ≡ Some n → n.bytes ≡ segment_bytes (meta.InProgress segment ledger)
    → IsOnLedger (newer ++ older) s segment ledger

-- a segment is started once: the ledger with which it was started stays
abbrev pub StartersStay : Type 0
StartersStay =
    (newer older : List MetaItem) (s : List ℕ) (segment ledger : ℕ) → AreSupposed (newer ++ older) → NoSlash s → IsSegmentNumber segment
    → starter older s segment ≡ Some ledger → starter (newer ++ older) s segment ≡ Some ledger

-- What a client has read stays as its request supposes until it runs: at the version that was read a node has the bytes that were
-- read, and a segment in progress names its ledger.
pub record ReadingsStay (newer older : List MetaItem) : Type 0 where
  pub lasting : (k : Key) (n : Node) → IsKey k → IsLasting k → node_after older k ≡ Some n
      → WhileNamed (tree_of (newer ++ older)) k n.version (λ bytes. bytes ≡ n.bytes)
  pub ledger : (l : ℕ) (n : Node) → HasTenDigits l → node_after older (Ledger l) ≡ Some n
      → WhileNamed (tree_of (newer ++ older)) (Ledger l) n.version (λ bytes. bytes ≡ n.bytes)
  pub segment : (s : List ℕ) (k l : ℕ) (n : Node) → NoSlash s → IsSegmentNumber k → HasTenDigits l → node_after older (Progress s k) ≡ Some n
      → n.bytes ≡ segment_bytes (meta.InProgress k l)
      → WhileNamed (tree_of (newer ++ older)) (Progress s k) 0 (NamesLedger k l)

-- each reading stays
abbrev pub EachReadingStays : Type 0
EachReadingStays = (newer older : List MetaItem) → AreSupposed (newer ++ older) → ReadingsStay newer older

-- each number of a session runs at most once
abbrev pub EachNumberRunsOnce : Type 0
EachNumberRunsOnce = (items : List MetaItem) (session number : ℕ) → AreAdmitted items → times_run session number items ≤ 1

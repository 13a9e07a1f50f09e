-- What each request that is done met in the tree, and what it leaves there, by keys. Each record names the nodes that stood at its
-- keys with their versions, and those that stand there now; at every other key stands what stood there.
use Rattle.std.specs.Prelude.{◌≡◌, ℕ, ◌+◌, List, [], ◌∷◌, ◌++◌, Option, Some, None}
use Rattle.dl_types.specs.declared.dlsn.Dlsn.{Dlsn}
use Rattle.dl_types.specs.Places.{first_place}
use Rattle.dl_types.specs.declared.one_answer.OneAnswer.{OneAnswer}
use Rattle.dl_types.specs.declared.one_answer.OneAnswer.TheVariants.{Made, Version, Bytes, Names}
use Rattle.dl_types.specs.declared.meta_answer.MetaAnswer.{MetaAnswer}
use Rattle.dl_types.specs.declared.meta_answer.MetaAnswer.TheVariants as answer
use Rattle.dl_quorum.specs.Sizes.{Sizes}
use Rattle.dl_fields.specs.Digits.{HasTenDigits}
use Rattle.dl_formats.specs.declared.ledger.LedgerState.TheVariants.{Writing, Recovering, Closed}
use Rattle.dl_formats.specs.declared.segment.SegmentMeta.TheVariants as meta
use Rattle.dl_formats.specs.Children.{IsSegmentNumber}
use Rattle.dl_formats.specs.Keys.{Key, Streams, Ledgers, Ledger, Stream, MaxSeq, Cut, Alloc, Locks, Member, Segs, Progress, Completed, path_of, NoSlash, IsKey}
use Rattle.dl_formats.specs.NodeBytes.{segment_bytes, IsMaxSeq}
use Rattle.dl_tree.specs.declared.node.Node.{Node}
use Rattle.dl_tree.specs.Trees.{Nodes, child_names, after_request}
use Rattle.dl_rules_stream.specs.Requests.{Request, MakeStream, MakeAgain, RemoveStream, MakeMember, ListMembers, LeaveLock, Look, MakeLedger, TakeLedger}
use Rattle.dl_rules_stream.specs.Requests.{StartSegment, GetSegment, GetLedger, MarkLedger, CloseLedger, CompleteSegment, ListCut, LookCut, SetCut}
use Rattle.dl_rules_stream.specs.Requests.{DropSegment, Completion, Beginning, ledger_node, maxseq_node, cut_node, alloc_node, completed_node, segment_key}
use Rattle.dl_rules_stream.specs.Requests.{op_of}
use Rattle.dl_law_meta.specs.Keyed.{node, OthersStay, lasting, ephemeral, IsThere, IsParent, IsNew, IsSet, IsCounted, IsGone}

-- the answer to a request of a session
abbrev pub answer_to : Nodes → ℕ → Request → MetaAnswer
answer_to t session r = (after_request t session (op_of r)).0

-- the tree that a request of a session leaves
abbrev pub tree_after : Nodes → ℕ → Request → Nodes
tree_after t session r = (after_request t session (op_of r)).1

-- ---- requests in form

-- The path of a member of a stream's lock.
pub record IsMember (member : List ℕ) : Type 0 where
  pub stream : List ℕ
  pub number : ℕ
  pub key : IsKey (Member stream number)
  pub path : member ≡ path_of (Member stream number)

-- a ledger that may be named has ten digits
abbrev pub MayHaveTenDigits : Option ℕ → Type 0
MayHaveTenDigits None = Unit {0}
MayHaveTenDigits (Some ledger) = HasTenDigits ledger

-- The numbers and the stream's name of a segment that is started are in form.
pub record IsBeginning (b : Beginning) : Type 0 where
  pub name : NoSlash b.stream
  pub number : IsSegmentNumber b.segment
  pub ten : HasTenDigits b.ledger
  pub most : IsMaxSeq (record { segment = b.segment; last = b.last })

-- The numbers and the stream's name of a segment that is completed are in form.
pub record IsCompletion (c : Completion) : Type 0 where
  pub name : NoSlash c.stream
  pub number : IsSegmentNumber c.segment
  pub most : IsMaxSeq (record { segment = c.greatest; last = c.last })

-- the names of a request have no slash, and its numbers have ten digits
abbrev pub IsInForm : Request → Type 0
IsInForm (MakeStream s) = NoSlash s
IsInForm (MakeAgain s) = NoSlash s
IsInForm (RemoveStream s) = NoSlash s
IsInForm (MakeMember s) = NoSlash s
IsInForm (ListMembers s) = Unit {0}
IsInForm (LeaveLock member) = IsMember member
IsInForm (Look s) = Unit {0}
IsInForm (MakeLedger q) = Unit {0}
IsInForm (TakeLedger s member old version ledger) = NoSlash s × MayHaveTenDigits old
IsInForm (StartSegment b) = IsBeginning b
IsInForm (GetSegment s segment) = Unit {0}
IsInForm (GetLedger ledger) = Unit {0}
IsInForm (MarkLedger ledger q version) = HasTenDigits ledger
IsInForm (CloseLedger ledger q count version) = HasTenDigits ledger
IsInForm (CompleteSegment c) = IsCompletion c
IsInForm (ListCut s) = Unit {0}
IsInForm (LookCut s) = Unit {0}
IsInForm (SetCut s point version) = NoSlash s
IsInForm (DropSegment s segment ledger) = NoSlash s × IsSegmentNumber segment × HasTenDigits ledger

-- ---- what a request reads

-- what is read of a key: the names of the children of its node, or the bytes of the node with its version
pub data Reading : Type 0 where
  ChildrenOf : (k : Key) → Reading
  ContentOf : (k : Key) → Reading

-- the answer tells what stands in the tree
abbrev pub Tells : Nodes → Reading → OneAnswer → Type 0
Tells t (ChildrenOf k) a = a ≡ Names (child_names t (path_of k))
Tells t (ContentOf k) a = (n : Node) × (node t k ≡ Some n) × (a ≡ Bytes n.bytes n.version)

-- the answers tell what is read, one after another
abbrev pub TellAll : Nodes → List Reading → List OneAnswer → Type 0
TellAll t [] [] = Unit {0}
TellAll t [] (a ∷ more) = ⊥
TellAll t (x ∷ xs) [] = ⊥
TellAll t (x ∷ xs) (a ∷ more) = Tells t x a × TellAll t xs more

-- the answers of a request that is done
abbrev pub answers_in : MetaAnswer → List OneAnswer
answers_in (answer.One a) = a ∷ []
answers_in (answer.Many answers) = answers
answers_in (answer.Failed place why) = []

-- A request that only reads leaves the tree as it was, and its answers tell what stands there.
pub record OnlyReads (t u : Nodes) (a : MetaAnswer) (readings : List Reading) : Type 0 where
  pub same : u ≡ t
  pub told : TellAll t readings (answers_in a)

-- ---- what each request leaves

-- A stream is made: its six nodes are new.
pub record StreamMade (t u : Nodes) (s : List ℕ) : Type 0 where
  pub parent : IsParent t Streams
  pub stream : IsNew t u (Stream s) (lasting [])
  pub maxseq : IsNew t u (MaxSeq s) (lasting (maxseq_node 0 0))
  pub cut : IsNew t u (Cut s) (lasting (cut_node first_place))
  pub alloc : IsNew t u (Alloc s) (lasting (alloc_node None))
  pub locks : IsNew t u (Locks s) (lasting [])
  pub segs : IsNew t u (Segs s) (lasting [])
  pub others : OthersStay t u (Stream s ∷ MaxSeq s ∷ Cut s ∷ Alloc s ∷ Locks s ∷ Segs s ∷ [])

-- A stream that was removed is made again: `lock` and `segs` are new, and the others of its nodes are those that were left.
pub record StreamMadeAgain (t u : Nodes) (s : List ℕ) : Type 0 where
  pub parent : IsParent t (Stream s)
  pub locks : IsNew t u (Locks s) (lasting [])
  pub segs : IsNew t u (Segs s) (lasting [])
  pub others : OthersStay t u (Locks s ∷ Segs s ∷ [])

-- A stream is removed: `lock` and `segs` are gone. There was no member of the lock, and no segment.
pub record StreamRemoved (t u : Nodes) (s : List ℕ) : Type 0 where
  pub locks : IsGone t u (Locks s) None
  pub segs : IsGone t u (Segs s) None
  pub no_member : (number : ℕ) → HasTenDigits number → node t (Member s number) ≡ None
  pub none_in_progress : (segment : ℕ) → HasTenDigits segment → node t (Progress s segment) ≡ None
  pub none_completed : (segment : ℕ) → HasTenDigits segment → node t (Completed s segment) ≡ None
  pub others : OthersStay t u (Locks s ∷ Segs s ∷ [])

-- A member of a stream's lock is made: it has the next number, and the session owns it.
pub record MemberMade (t u : Nodes) (session : ℕ) (s : List ℕ) (a : MetaAnswer) : Type 0 where
  pub number : ℕ
  pub locks : IsCounted t u (Locks s) number
  pub member : IsNew t u (Member s number) (ephemeral session)
  pub told : a ≡ answer.One (Made (path_of (Member s number)))
  pub others : OthersStay t u (Locks s ∷ Member s number ∷ [])

-- A member leaves a stream's lock.
pub record MemberLeft (t u : Nodes) (s : List ℕ) (number : ℕ) : Type 0 where
  pub member : IsGone t u (Member s number) None
  pub others : OthersStay t u (Member s number ∷ [])

-- A ledger is made: it has the next number, and is open for writing.
pub record LedgerMade (t u : Nodes) (q : Sizes) (a : MetaAnswer) : Type 0 where
  pub number : ℕ
  pub ledgers : IsCounted t u Ledgers number
  pub ledger : IsNew t u (Ledger number) (lasting (ledger_node Writing q 0))
  pub told : a ≡ answer.One (Made (path_of (Ledger number)))
  pub others : OthersStay t u (Ledgers ∷ Ledger number ∷ [])

-- the member of a lock, by its path, is there
abbrev pub MemberIsThere : Nodes → List ℕ → Type 0
MemberIsThere t member = (k : Key) → member ≡ path_of k → IsThere t k None

-- the member of a lock is there, where one is named
abbrev pub MemberMayBeThere : Nodes → Option (List ℕ) → Type 0
MemberMayBeThere t None = Unit {0}
MemberMayBeThere t (Some member) = MemberIsThere t member

-- the node of the ledger, where one is named
abbrev pub old_ledger : Option ℕ → List Key
old_ledger None = []
old_ledger (Some ledger) = Ledger ledger ∷ []

-- the ledger that `alloc` named is gone, where it named one
abbrev pub OldIsGone : Nodes → Nodes → Option ℕ → Type 0
OldIsGone t u None = Unit {0}
OldIsGone t u (Some ledger) = IsGone t u (Ledger ledger) None

-- A ledger is allocated to a stream: `alloc` names it, and the ledger that it named before is gone.
pub record LedgerTaken (t u : Nodes) (s member : List ℕ) (old : Option ℕ) (version ledger : ℕ) : Type 0 where
  pub owner : MemberIsThere t member
  pub dropped : OldIsGone t u old
  pub alloc : IsSet t u (Alloc s) version (alloc_node (Some ledger))
  pub others : OthersStay t u (old_ledger old ++ Alloc s ∷ [])

-- A segment is started: `maxseq` names it and the last transaction id before it, it is in progress on its ledger, which was never
-- set, and `alloc` names no ledger.
pub record SegmentStarted (t u : Nodes) (b : Beginning) : Type 0 where
  pub owner : MemberIsThere t b.member
  pub maxseq : IsSet t u (MaxSeq b.stream) b.version (maxseq_node b.segment b.last)
  pub parent : IsParent t (Segs b.stream)
  pub segment : IsNew t u (Progress b.stream b.segment) (lasting (segment_bytes (meta.InProgress b.segment b.ledger)))
  pub ledger : IsThere t (Ledger b.ledger) (Some 0)
  pub alloc : IsSet t u (Alloc b.stream) b.alloc_version (alloc_node None)
  pub others : OthersStay t u (MaxSeq b.stream ∷ Progress b.stream b.segment ∷ Alloc b.stream ∷ [])

-- The node of a ledger is set, and the answer tells its version now.
pub record LedgerSet (t u : Nodes) (ledger version : ℕ) (bytes : List ℕ) (a : MetaAnswer) : Type 0 where
  pub now : IsSet t u (Ledger ledger) version bytes
  pub told : a ≡ answer.One (Version (version + 1))
  pub others : OthersStay t u (Ledger ledger ∷ [])

-- A segment is completed: its node in progress, which was never set, is gone, its completed node is new, and `maxseq` names the
-- last transaction id.
pub record SegmentCompleted (t u : Nodes) (c : Completion) : Type 0 where
  pub owner : MemberMayBeThere t c.member
  pub progress : IsGone t u (Progress c.stream c.segment) (Some 0)
  pub parent : IsParent t (Segs c.stream)
  pub completed : IsNew t u (Completed c.stream c.segment) (lasting (completed_node c))
  pub maxseq : IsSet t u (MaxSeq c.stream) c.version (maxseq_node c.greatest c.last)
  pub others : OthersStay t u (Progress c.stream c.segment ∷ Completed c.stream c.segment ∷ MaxSeq c.stream ∷ [])

-- The point at which a stream is cut off is set, and the answer tells the version of `cut` now.
pub record CutSet (t u : Nodes) (s : List ℕ) (point : Dlsn) (version : ℕ) (a : MetaAnswer) : Type 0 where
  pub cut : IsSet t u (Cut s) version (cut_node point)
  pub told : a ≡ answer.One (Version (version + 1))
  pub others : OthersStay t u (Cut s ∷ [])

-- A completed segment is deleted with its ledger.
pub record SegmentDropped (t u : Nodes) (s : List ℕ) (segment ledger : ℕ) : Type 0 where
  pub completed : IsGone t u (Completed s segment) None
  pub ledger_gone : IsGone t u (Ledger ledger) None
  pub others : OthersStay t u (Completed s segment ∷ Ledger ledger ∷ [])

-- what a request of a session that is done met in a tree, what it leaves, and what it tells
abbrev pub Leaves : Nodes → ℕ → Request → MetaAnswer → Nodes → Type 0
Leaves t session (MakeStream s) a u = StreamMade t u s
Leaves t session (MakeAgain s) a u = StreamMadeAgain t u s
Leaves t session (RemoveStream s) a u = StreamRemoved t u s
Leaves t session (MakeMember s) a u = MemberMade t u session s a
Leaves t session (ListMembers s) a u = OnlyReads t u a (ChildrenOf (Locks s) ∷ [])
Leaves t session (LeaveLock member) a u =
    (s : List ℕ) (number : ℕ) → IsKey (Member s number) → member ≡ path_of (Member s number) → MemberLeft t u s number
Leaves t session (Look s) a u = OnlyReads t u a (ChildrenOf (Segs s) ∷ ContentOf (MaxSeq s) ∷ ContentOf (Alloc s) ∷ [])
Leaves t session (MakeLedger q) a u = LedgerMade t u q a
Leaves t session (TakeLedger s member old version ledger) a u = LedgerTaken t u s member old version ledger
Leaves t session (StartSegment b) a u = SegmentStarted t u b
Leaves t session (GetSegment s segment) a u = OnlyReads t u a (ContentOf (segment_key s segment) ∷ [])
Leaves t session (GetLedger ledger) a u = OnlyReads t u a (ContentOf (Ledger ledger) ∷ [])
Leaves t session (MarkLedger ledger q version) a u = LedgerSet t u ledger version (ledger_node Recovering q 0) a
Leaves t session (CloseLedger ledger q count version) a u = LedgerSet t u ledger version (ledger_node Closed q count) a
Leaves t session (CompleteSegment c) a u = SegmentCompleted t u c
Leaves t session (ListCut s) a u = OnlyReads t u a (ChildrenOf (Segs s) ∷ ContentOf (Cut s) ∷ [])
Leaves t session (LookCut s) a u = OnlyReads t u a (ChildrenOf (Segs s) ∷ ContentOf (Cut s) ∷ ContentOf (MaxSeq s) ∷ [])
Leaves t session (SetCut s point version) a u = CutSet t u s point version a
Leaves t session (DropSegment s segment ledger) a u = SegmentDropped t u s segment ledger

-- what a request of a session leaves, by its answer: after a failure the tree as it was
abbrev pub LeavesBy : Nodes → ℕ → Request → MetaAnswer → Nodes → Type 0
LeavesBy t session r (answer.One x) u = Leaves t session r (answer.One x) u
LeavesBy t session r (answer.Many xs) u = Leaves t session r (answer.Many xs) u
LeavesBy t session r (answer.Failed place why) u = u ≡ t

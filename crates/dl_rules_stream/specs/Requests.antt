-- The requests of the clients, by name, and the operations that they are.
use Rattle.std.specs.Prelude.{ℕ, zero, suc, List, [], ◌∷◌, ◌++◌, Option, Some, None}
use Rattle.dl_types.specs.declared.dlsn.Dlsn.{Dlsn}
use Rattle.dl_quorum.specs.Sizes.{Sizes}
use Rattle.dl_types.specs.declared.mode.Mode.TheVariants.{Lasting, Counted, EphemeralCounted}
use Rattle.dl_types.specs.declared.one_op.OneOp.{OneOp}
use Rattle.dl_types.specs.declared.one_op.OneOp.TheVariants.{Create, Delete, Set, Check, Get, Children}
use Rattle.dl_types.specs.declared.meta_op.MetaOp.{MetaOp}
use Rattle.dl_types.specs.declared.meta_op.MetaOp.TheVariants as op
use Rattle.dl_types.specs.Places.{first_place}
use Rattle.dl_fields.specs.Paths.{path_of_parts}
use Rattle.dl_formats.specs.declared.ledger.LedgerState.{LedgerState}
use Rattle.dl_formats.specs.declared.ledger.LedgerState.TheVariants.{Writing, Recovering, Closed}
use Rattle.dl_formats.specs.declared.segment.SegmentMeta.TheVariants as meta
use Rattle.dl_formats.specs.declared.segment_name.SegmentName.{SegmentName}
use Rattle.dl_formats.specs.declared.segment_name.SegmentName.TheVariants as named
use Rattle.dl_formats.specs.Keys.{Key, Ledger, Stream, MaxSeq, Cut, Alloc, Locks, Segs, Progress, Completed, path_of, ledger_stem, member_stem}
use Rattle.dl_formats.specs.NodeBytes.{segment_bytes, maxseq_bytes, cut_bytes, alloc_bytes}
use Rattle.dl_rules_stream.specs.Nodes.{node_with, node_bytes}

-- A segment that is completed: its ledger with the count of entries, of rows and the last transaction id, the segment that
-- `maxseq` names and the version of `maxseq`. Where there is a member of the stream's lock, it has to be there.
pub record Completion : Type 0 where
  pub stream : List ℕ
  pub member : Option (List ℕ)
  pub segment : ℕ
  pub ledger : ℕ
  pub entries : ℕ
  pub rows : ℕ
  pub last : ℕ
  pub greatest : ℕ
  pub version : ℕ

-- A segment that is started: the ledger, the last transaction id before it, and the versions of `maxseq` and `alloc`.
pub record Beginning : Type 0 where
  pub stream : List ℕ
  pub member : List ℕ
  pub segment : ℕ
  pub ledger : ℕ
  pub last : ℕ
  pub version : ℕ
  pub alloc_version : ℕ

-- a request by what it is for; a member is its path, and a version is that of the node that is set
pub data Request : Type 0 where
  MakeStream : (stream : List ℕ) → Request
  MakeAgain : (stream : List ℕ) → Request
  RemoveStream : (stream : List ℕ) → Request
  MakeMember : (stream : List ℕ) → Request
  ListMembers : (stream : List ℕ) → Request
  LeaveLock : (member : List ℕ) → Request
  Look : (stream : List ℕ) → Request
  MakeLedger : (q : Sizes) → Request
  TakeLedger : (stream member : List ℕ) (old : Option ℕ) (version ledger : ℕ) → Request
  StartSegment : (b : Beginning) → Request
  GetSegment : (stream : List ℕ) (segment : SegmentName) → Request
  GetLedger : (ledger : ℕ) → Request
  MarkLedger : (ledger : ℕ) (q : Sizes) (version : ℕ) → Request
  CloseLedger : (ledger : ℕ) (q : Sizes) (count version : ℕ) → Request
  CompleteSegment : (c : Completion) → Request
  ListCut : (stream : List ℕ) → Request
  LookCut : (stream : List ℕ) → Request
  SetCut : (stream : List ℕ) (point : Dlsn) (version : ℕ) → Request
  DropSegment : (stream : List ℕ) (segment ledger : ℕ) → Request

-- ---- nodes

-- a lasting node with these bytes
abbrev pub makes : Key → List ℕ → OneOp
makes k bytes = Create (path_of k) bytes Lasting

-- the node of a ledger in a state
abbrev pub ledger_node : LedgerState → Sizes → ℕ → List ℕ
ledger_node state q count = node_bytes (node_with state q count)

-- the node `maxseq` of a segment and a transaction id
abbrev pub maxseq_node : (segment last : ℕ) → List ℕ
maxseq_node segment last = maxseq_bytes (record { segment = segment; last = last })

-- the node `cut` of a place
abbrev pub cut_node : Dlsn → List ℕ
cut_node d = cut_bytes (record { point = d })

-- the node `alloc` of a ledger, or of none
abbrev pub alloc_node : Option ℕ → List ℕ
alloc_node ledger = alloc_bytes (record { ledger = ledger })

-- the node of a segment by its name
abbrev pub segment_key : List ℕ → SegmentName → Key
segment_key s (named.Progress k) = Progress s k
segment_key s (named.Completed k) = Completed s k

-- the node of a completed segment
abbrev pub completed_node : Completion → List ℕ
completed_node c = segment_bytes (meta.Completed c.segment c.ledger c.entries c.rows c.last)

-- ---- operations

-- the ledger that `alloc` names, where it names one, is deleted
abbrev pub drops_old : Option ℕ → List OneOp
drops_old None = []
drops_old (Some ledger) = Delete (path_of (Ledger ledger)) None ∷ []

-- the member of the lock, where there is one, has to be there
abbrev pub checks_member : Option (List ℕ) → List OneOp
checks_member None = []
checks_member (Some member) = Check member None ∷ []

-- the operations by which a segment is completed
abbrev pub completes : Completion → List OneOp
completes c =
    checks_member c.member ++ Delete (path_of (Progress c.stream c.segment)) (Some 0) ∷ makes (Completed c.stream c.segment) (completed_node c)
    ∷ Set (path_of (MaxSeq c.stream)) (maxseq_node c.greatest c.last) (Some c.version) ∷ []

-- the operations by which a segment is started
abbrev pub starts : Beginning → List OneOp
starts b =
    Check b.member None ∷ Set (path_of (MaxSeq b.stream)) (maxseq_node b.segment b.last) (Some b.version)
    ∷ makes (Progress b.stream b.segment) (segment_bytes (meta.InProgress b.segment b.ledger))
    ∷ Check (path_of (Ledger b.ledger)) (Some 0) ∷ Set (path_of (Alloc b.stream)) (alloc_node None) (Some b.alloc_version) ∷ []

-- the operation that a request is
unfoldable pub op_of : Request → MetaOp
op_of (MakeStream s) =
    op.Multi (makes (Stream s) [] ∷ makes (MaxSeq s) (maxseq_node 0 0) ∷ makes (Cut s) (cut_node first_place) ∷ makes (Alloc s) (alloc_node None)
    ∷ makes (Locks s) [] ∷ makes (Segs s) [] ∷ [])
op_of (MakeAgain s) = op.Multi (makes (Locks s) [] ∷ makes (Segs s) [] ∷ [])
op_of (RemoveStream s) = op.Multi (Delete (path_of (Locks s)) None ∷ Delete (path_of (Segs s)) None ∷ [])
op_of (MakeMember s) = op.One (Create (member_stem s) [] EphemeralCounted)
op_of (ListMembers s) = op.One (Children (path_of (Locks s)))
op_of (LeaveLock member) = op.One (Delete member None)
op_of (Look s) = op.Multi (Children (path_of (Segs s)) ∷ Get (path_of (MaxSeq s)) ∷ Get (path_of (Alloc s)) ∷ [])
op_of (MakeLedger q) = op.One (Create ledger_stem (ledger_node Writing q 0) Counted)
op_of (TakeLedger s member old version ledger) =
    op.Multi (Check member None ∷ (drops_old old ++ Set (path_of (Alloc s)) (alloc_node (Some ledger)) (Some version) ∷ []))
op_of (StartSegment b) = op.Multi (starts b)
op_of (GetSegment s segment) = op.One (Get (path_of (segment_key s segment)))
op_of (GetLedger ledger) = op.One (Get (path_of (Ledger ledger)))
op_of (MarkLedger ledger q version) = op.One (Set (path_of (Ledger ledger)) (ledger_node Recovering q 0) (Some version))
op_of (CloseLedger ledger q count version) = op.One (Set (path_of (Ledger ledger)) (ledger_node Closed q count) (Some version))
op_of (CompleteSegment c) = op.Multi (completes c)
op_of (ListCut s) = op.Multi (Children (path_of (Segs s)) ∷ Get (path_of (Cut s)) ∷ [])
op_of (LookCut s) = op.Multi (Children (path_of (Segs s)) ∷ Get (path_of (Cut s)) ∷ Get (path_of (MaxSeq s)) ∷ [])
op_of (SetCut s point version) = op.One (Set (path_of (Cut s)) (cut_node point) (Some version))
op_of (DropSegment s segment ledger) = op.Multi (Delete (path_of (Completed s segment)) None ∷ Delete (path_of (Ledger ledger)) None ∷ [])

-- ---- paths

-- the path of an operation
abbrev pub path_in : OneOp → List ℕ
path_in (Create path bytes mode) = path
path_in (Delete path version) = path
path_in (Set path bytes version) = path
path_in (Check path version) = path
path_in (Get path) = path
path_in (Children path) = path

-- the path of the operation at a place of a list, and the root's where there is none
abbrev pub path_nth : List OneOp → ℕ → List ℕ
path_nth [] place = path_of_parts []
path_nth (x ∷ xs) zero = path_in x
path_nth (x ∷ xs) (suc place) = path_nth xs place

-- the path of the operation at a place of a request
abbrev pub path_at : MetaOp → ℕ → List ℕ
path_at (op.One x) place = path_in x
path_at (op.Multi xs) place = path_nth xs place

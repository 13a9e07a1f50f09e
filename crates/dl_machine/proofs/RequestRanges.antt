-- What requests make has the path of a key, and what they store is bytes; so the tree of the metadata node fits.
use Rattle.std.proofs.Common.{◌≡◌, ℕ, suc, ◌+◌, ◌*◌, ◌%◌, ◌<◌, ◌≤◌, List, [], ◌∷◌, ◌++◌, length, Option, Some, None, refl, subst, inl, inr, arith}
use Rattle.std.specs.List.{AllByRecursion}
use Rattle.std.specs.Int.{w8, w32, w64}
use Rattle.dl_types.specs.declared.dlsn.Dlsn.{Dlsn}
use Rattle.dl_types.specs.declared.mode.Mode.TheVariants.{Lasting}
use Rattle.dl_types.specs.declared.one_op.OneOp.{OneOp}
use Rattle.dl_types.specs.declared.one_op.OneOp.TheVariants.{Delete, Set, Check}
use Rattle.dl_types.specs.Places.{first_place}
use Rattle.dl_codec.specs.Fields.{IsBytes}
use Rattle.dl_text.specs.Hex.{AllBytes}
use Rattle.dl_quorum.specs.Sizes.{Sizes}
use Rattle.dl_tree.specs.Paths.{root}
use Rattle.dl_tree.specs.Trees.{Nodes, root_alone, new_node}
use Rattle.dl_formats.specs.declared.conf.Conf as conf
use Rattle.dl_formats.specs.declared.ledger.LedgerState.{LedgerState}
use Rattle.dl_formats.specs.declared.ledger.LedgerState.TheVariants.{Writing, Recovering, Closed}
use Rattle.dl_formats.specs.declared.segment.SegmentMeta.TheVariants as meta
use Rattle.dl_formats.specs.Keys.{Key, Conf, Streams, Ledgers, Ledger, Stream, MaxSeq, Cut, Alloc, Locks, Member, Segs, Progress, Completed, path_of}
use Rattle.dl_formats.specs.NodeBytes.{with_version, conf_bytes, segment_bytes, state_code}
use Rattle.dl_formats.proofs.KeyLemmas.{by_parents}
use Rattle.dl_rules_nodes.specs.Metadata.{with_node, first_tree}
use Rattle.dl_rules_stream.specs.Requests.{Request, MakeStream, MakeAgain, RemoveStream, MakeMember, ListMembers, LeaveLock, Look, MakeLedger, TakeLedger}
use Rattle.dl_rules_stream.specs.Requests.{StartSegment, GetSegment, GetLedger, MarkLedger, CloseLedger, CompleteSegment, ListCut, LookCut, SetCut}
use Rattle.dl_rules_stream.specs.Requests.{DropSegment, Completion, op_of, makes, ledger_node, maxseq_node, cut_node, alloc_node, completed_node}
use Rattle.dl_rules_stream.specs.Requests.{drops_old, checks_member}
use Rattle.dl_rules_client.specs.EventRanges.{RequestFits}
use Rattle.dl_rules_client.proofs.ByteRanges.{bytes_are, field_bytes, field_then}
use Rattle.dl_rules_client.proofs.PathRanges.{HasName, IsKeyPath, key_path}
use Rattle.dl_rules_client.proofs.RangeLists.{all-append}
use Rattle.dl_machine.specs.Growth.{ops_of}
use Rattle.dl_machine.proofs.TreeRanges.{TreeFits, no_nodes, empty_fits, insert_fits, OneOpFits}

-- ---- bytes of nodes

-- a node
node_bytes_are : (fields : List ℕ) → AllBytes fields → IsBytes (with_version fields)
node_bytes_are fields each = bytes_are (with_version fields) (field_then w8 1 fields each)

-- a node without bytes
none_bytes : IsBytes []
none_bytes = bytes_are [] tt

-- a configuration
conf_bytes_are : (c : conf.Conf) → IsBytes (conf_bytes c)
conf_bytes_are c = node_bytes_are _ (field_then w8 c.b _ (field_then w8 c.e _ (field_then w8 c.qw _ (field_bytes w8 c.qa))))

-- a node of a ledger
ledger_bytes_are : (state : LedgerState) (q : Sizes) (count : ℕ) → IsBytes (ledger_node state q count)
ledger_bytes_are state q count =
    node_bytes_are _ (field_then w8 (state_code state) _ (field_then w8 q.e _ (field_then w8 q.qw _ (field_then w8 q.qa _ (field_bytes w64 count)))))

-- a node `maxseq`
maxseq_bytes_are : (segment last : ℕ) → IsBytes (maxseq_node segment last)
maxseq_bytes_are segment last = node_bytes_are _ (field_then w64 segment _ (field_bytes w64 last))

-- a node `cut`
cut_bytes_are : (d : Dlsn) → IsBytes (cut_node d)
cut_bytes_are d = node_bytes_are _ (field_then w64 d.segment _ (field_then w64 d.entry _ (field_bytes w32 d.slot)))

-- a node `alloc`
alloc_bytes_are : (ledger : Option ℕ) → IsBytes (alloc_node ledger)
alloc_bytes_are None = node_bytes_are _ (field_then w8 0 _ (field_bytes w64 0))
alloc_bytes_are (Some ledger) = node_bytes_are _ (field_then w8 1 _ (field_bytes w64 ledger))

-- a segment in progress
progress_bytes_are : (segment ledger : ℕ) → IsBytes (segment_bytes (meta.InProgress segment ledger))
progress_bytes_are segment ledger = node_bytes_are _ (field_then w8 1 _ (field_then w64 segment _ (field_bytes w64 ledger)))

-- a completed segment
completed_bytes_are : (c : Completion) → IsBytes (completed_node c)
completed_bytes_are c = node_bytes_are _ (field_then w8 2 _ (field_then w64 c.segment _ (field_then w64 c.ledger _
    (field_then w64 c.entries _ (field_then w64 c.rows _ (field_bytes w64 c.last))))))

-- ---- operations of requests

-- a node is made at a key
makes_fit : (k : Key) (bytes : List ℕ) → HasName k → IsBytes bytes → OneOpFits (makes k bytes)
makes_fit k bytes name are = (λ parent. inr (key_path k name), are)

-- the ledger that is dropped
drops_fit : (old : Option ℕ) → AllByRecursion OneOpFits (drops_old old)
drops_fit None = tt
drops_fit (Some ledger) = (tt, tt)

-- the member that is checked
checks_fit : (member : Option (List ℕ)) → AllByRecursion OneOpFits (checks_member member)
checks_fit None = tt
checks_fit (Some member) = (tt, tt)

-- the operations of a request
pub request_ops : (r : Request) → RequestFits r → AllByRecursion OneOpFits (ops_of (op_of r))
unfolding op_of
request_ops (MakeStream s) name = (
  makes_fit (Stream s) [] name none_bytes,
  (
    makes_fit (MaxSeq s) (maxseq_node 0 0) name (maxseq_bytes_are 0 0),
    (
      makes_fit (Cut s) (cut_node first_place) name (cut_bytes_are first_place),
      (
        makes_fit (Alloc s) (alloc_node None) name (alloc_bytes_are None),
        (makes_fit (Locks s) [] name none_bytes, (makes_fit (Segs s) [] name none_bytes, tt)),
      ),
    ),
  ),
)
request_ops (MakeAgain s) name = (makes_fit (Locks s) [] name none_bytes, (makes_fit (Segs s) [] name none_bytes, tt))
request_ops (RemoveStream s) name = (tt, (tt, tt))
request_ops (MakeMember s) name =
    ((λ parent. inr (subst IsKeyPath (by_parents.member s parent.counter) (key_path (Member s parent.counter) name)), none_bytes), tt)
request_ops (ListMembers s) name = (tt, tt)
request_ops (LeaveLock member) is = (tt, tt)
request_ops (Look s) name = (tt, (tt, (tt, tt)))
request_ops (MakeLedger q) is =
    ((λ parent. inr (subst IsKeyPath (by_parents.ledger parent.counter) (key_path (Ledger parent.counter) tt)), ledger_bytes_are Writing q 0), tt)
request_ops (TakeLedger s member old version ledger) is =
    (tt, all-append OneOpFits (drops_old old) _ (drops_fit old) (alloc_bytes_are (Some ledger), tt))
request_ops (StartSegment b) is = (
  tt,
  (
    maxseq_bytes_are b.segment b.last,
    (
      makes_fit (Progress b.stream b.segment) (segment_bytes (meta.InProgress b.segment b.ledger)) is.0 (progress_bytes_are b.segment b.ledger),
      (tt, (alloc_bytes_are None, tt)),
    ),
  ),
)
request_ops (GetSegment s segment) name = (tt, tt)
request_ops (GetLedger ledger) is = (tt, tt)
request_ops (MarkLedger ledger q version) is = (ledger_bytes_are Recovering q 0, tt)
request_ops (CloseLedger ledger q count version) is = (ledger_bytes_are Closed q count, tt)
request_ops (CompleteSegment c) is =
    all-append OneOpFits (checks_member c.member) _ (checks_fit c.member)
    (tt, (makes_fit (Completed c.stream c.segment) (completed_node c) is.0 (completed_bytes_are c), (maxseq_bytes_are c.greatest c.last, tt)))
request_ops (ListCut s) name = (tt, (tt, tt))
request_ops (LookCut s) name = (tt, (tt, (tt, tt)))
request_ops (SetCut s point version) is = (cut_bytes_are point, tt)
request_ops (DropSegment s segment ledger) name = (tt, (tt, tt))

-- a ledger is taken by at most three operations
takes_few : (old : Option ℕ) (x y : OneOp) → length (x ∷ (drops_old old ++ y ∷ [])) ≤ 6
takes_few None x y = omega arith
takes_few (Some ledger) x y = omega arith

-- a segment is completed by at most four
completes_few : (member : Option (List ℕ)) (x y z : OneOp) → length (checks_member member ++ x ∷ y ∷ z ∷ []) ≤ 6
completes_few None x y z = omega arith
completes_few (Some member) x y z = omega arith

-- a request has at most six operations
pub request_few : (r : Request) → length (ops_of (op_of r)) ≤ 6
unfolding op_of
request_few (MakeStream s) = omega arith
request_few (MakeAgain s) = omega arith
request_few (RemoveStream s) = omega arith
request_few (MakeMember s) = omega arith
request_few (ListMembers s) = omega arith
request_few (LeaveLock member) = omega arith
request_few (Look s) = omega arith
request_few (MakeLedger q) = omega arith
request_few (TakeLedger s member old version ledger) =
    takes_few old (Check member None) (Set (path_of (Alloc s)) (alloc_node (Some ledger)) (Some version))
request_few (StartSegment b) = omega arith
request_few (GetSegment s segment) = omega arith
request_few (GetLedger ledger) = omega arith
request_few (MarkLedger ledger q version) = omega arith
request_few (CloseLedger ledger q count version) = omega arith
request_few (CompleteSegment c) =
    completes_few c.member (Delete (path_of (Progress c.stream c.segment)) (Some 0)) (makes (Completed c.stream c.segment) (completed_node c))
    (Set (path_of (MaxSeq c.stream)) (maxseq_node c.greatest c.last) (Some c.version))
request_few (ListCut s) = omega arith
request_few (LookCut s) = omega arith
request_few (SetCut s point version) = omega arith
request_few (DropSegment s segment ledger) = omega arith

-- ---- the first trees

-- the root alone
pub root_fits : TreeFits 1 root_alone
root_fits = insert_fits 0 no_nodes root _ (record { at = inl refl; bytes = none_bytes; version = omega arith }) empty_fits

-- a lasting node more
with_node_fits : (most : ℕ) (t : Nodes) (k : Key) (bytes : List ℕ) → HasName k → IsBytes bytes → TreeFits most t
    → TreeFits (suc most) (with_node t k bytes)
with_node_fits most t k bytes name are fit =
    insert_fits most t (path_of k) (new_node bytes Lasting 0) (record { at = inr (key_path k name); bytes = are; version = omega arith }) fit

-- the tree with which a configuration begins
pub first_tree_fits : (c : conf.Conf) → TreeFits 4 (first_tree c)
first_tree_fits c =
    let first = with_node_fits 1 root_alone Conf (conf_bytes c) tt (conf_bytes_are c) root_fits in
    let second = with_node_fits 2 (with_node root_alone Conf (conf_bytes c)) Streams [] tt none_bytes first in
    with_node_fits 3 (with_node (with_node root_alone Conf (conf_bytes c)) Streams []) Ledgers [] tt none_bytes second

-- What an item does to `maxseq` of a stream: nothing, or it makes it, starts a segment, or completes one.
use Rattle.std.proofs.Common.{◌≡◌, ◌≢◌, ℕ, Bool, true, false, not, ◌&&◌, List, Some, None, Result, Ok, refl, sym, ap, ◌∙◌, arith, bytes_eq}
use Rattle.std.specs.Cmp.Lexicographic.{bytes_decides}
use Rattle.dl_types.specs.declared.meta_answer.MetaAnswer.{MetaAnswer}
use Rattle.dl_fields.specs.Digits.{HasTenDigits}
use Rattle.dl_formats.specs.declared.fault.MetaBytesFault.{MetaBytesFault}
use Rattle.dl_formats.specs.declared.maxseq.MaxSeq as formats
use Rattle.dl_formats.specs.declared.segment.SegmentMeta.{SegmentMeta}
use Rattle.dl_formats.specs.declared.segment.SegmentMeta.TheVariants as meta
use Rattle.dl_formats.specs.Children.{IsSegmentNumber}
use Rattle.dl_formats.specs.Keys.{Conf, Streams, Ledgers, MaxSeq, NoSlash}
use Rattle.dl_formats.specs.NodeBytes.{segment_bytes, IsMaxSeq}
use Rattle.dl_formats.specs.Reading.{segment_at}
use Rattle.dl_formats.proofs.DecodeLemmas.{node_again}
use Rattle.dl_formats.proofs.Exactness.{maxseq_exact, segment_exact}
use Rattle.dl_tree.specs.Trees.{Nodes}
use Rattle.dl_rules_stream.specs.Requests.{Request, MakeStream, MakeAgain, RemoveStream, MakeMember, ListMembers, LeaveLock, Look, MakeLedger, TakeLedger}
use Rattle.dl_rules_stream.specs.Requests.{StartSegment, GetSegment, GetLedger, MarkLedger, CloseLedger, CompleteSegment, ListCut, LookCut, SetCut}
use Rattle.dl_rules_stream.specs.Requests.{DropSegment, Completion, Beginning, maxseq_node}
use Rattle.dl_law_meta.specs.Keyed.{node, lasting}
use Rattle.dl_law_meta.specs.Effects.{IsInForm, IsBeginning, IsCompletion, Leaves, SegmentStarted, SegmentCompleted}
use Rattle.dl_law_meta.specs.Histories.{segment_in, read_as, Supposes}
use Rattle.dl_law_meta.proofs.Steps.{Step, begins, rests, asks}

-- ---- what bytes name

-- the node `maxseq` of a segment names that segment
pub named_by : (segment last : ℕ) → IsMaxSeq (record { segment = segment; last = last }) → segment_in (maxseq_node segment last) ≡ Some segment
named_by segment last h =
    ap (λ (r : Result formats.MaxSeq MetaBytesFault). read_as r (λ x. x.segment))
    (node_again maxseq_exact (maxseq_node segment last) (record { segment = segment; last = last }) h refl)

-- the node `maxseq` of a new stream names none
pub no_segment_yet : segment_in (maxseq_node 0 0) ≡ Some 0
no_segment_yet = named_by 0 0 (record { least = omega arith; most = omega arith }, record { least = omega arith; most = omega arith })

-- the node of a segment in progress is read as it was written
pub progress_read : (segment ledger : ℕ) → IsSegmentNumber segment → HasTenDigits ledger
    → segment_at (segment_bytes (meta.InProgress segment ledger)) ≡ Ok (meta.InProgress segment ledger)
progress_read segment ledger h ten =
    node_again segment_exact (segment_bytes (meta.InProgress segment ledger)) (meta.InProgress segment ledger)
    (record { least = h.0; most = omega (arith, h.1) }, record { least = omega arith; most = omega (arith, ten) }) refl

-- segments in progress that are the same have the same ledger
pub same_ledger : (segment ledger k other : ℕ) → meta.InProgress segment ledger ≡ meta.InProgress k other → ledger ≡ other
same_ledger segment ledger k other e = cc

-- readings that are the same give the same segment
pub ok_same : (x y : SegmentMeta) → ◌≡◌ {A = Result SegmentMeta MetaBytesFault} (Ok x) (Ok y) → x ≡ y
ok_same x y e = cc

-- the bytes of a node say one segment
pub same_read : (x y : SegmentMeta) (bytes : List ℕ) → segment_at bytes ≡ Ok x → segment_at bytes ≡ Ok y → x ≡ y
same_read x y bytes a b = ok_same x y (sym a ∙ b)

-- ---- what happens to `maxseq` of a stream

-- two names are the same, or keys of them are apart
pub by_name : {A : Type 0} (s z : List ℕ) → (s ≡ z → A) → (bytes_eq s z ≡ false → A) → A
by_name {A = A} s z same apart = go (bytes_eq s z) refl
  where
    go : (b : Bool) → bytes_eq s z ≡ b → A
    go true e = same ((bytes_decides s z).0 e)
    go false e = apart e

-- what an item does to a stream: nothing to its `maxseq`, or it makes the stream, starts a segment or completes one
pub data Happens (t u : Nodes) (s : List ℕ) : Type 0 where
  nothing : node u (MaxSeq s) ≡ node t (MaxSeq s) → Happens t u s
  makes : node t (MaxSeq s) ≡ None → node u (MaxSeq s) ≡ Some (lasting (maxseq_node 0 0)) → Happens t u s
  starts : (b : Beginning) → b.stream ≡ s → IsBeginning b → Supposes t (StartSegment b) → SegmentStarted t u b → Happens t u s
  completes : (c : Completion) → c.stream ≡ s → IsCompletion c → Supposes t (CompleteSegment c) → SegmentCompleted t u c → Happens t u s

module _ (t u : Nodes) (s : List ℕ) (name : NoSlash s) where
  unread : u ≡ t → Happens t u s
  unread e = nothing (ap (λ (v : Nodes). node v (MaxSeq s)) e)

  pub happens_leaves : (session : ℕ) (r : Request) (a : MetaAnswer) → IsInForm r → Supposes t r → Leaves t session r a u → Happens t u s
  happens_leaves session (MakeStream z) a f p x =
      by_name s z (λ e. makes (ap (λ (y : List ℕ). node t (MaxSeq y)) e ∙ x.maxseq.free) (ap (λ (y : List ℕ). node u (MaxSeq y)) e ∙ x.maxseq.now))
      (λ e. nothing (x.others.same (MaxSeq s) name (ap (λ (b : Bool). not b && true) e)))
  happens_leaves session (MakeAgain z) a f p x = nothing (x.others.same (MaxSeq s) name refl)
  happens_leaves session (RemoveStream z) a f p x = nothing (x.others.same (MaxSeq s) name refl)
  happens_leaves session (MakeMember z) a f p x = nothing (x.others.same (MaxSeq s) name refl)
  happens_leaves session (ListMembers z) a f p x = unread x.same
  happens_leaves session (LeaveLock member) a f p x = nothing ((x f.stream f.number f.key f.path).others.same (MaxSeq s) name refl)
  happens_leaves session (Look z) a f p x = unread x.same
  happens_leaves session (MakeLedger q) a f p x = nothing (x.others.same (MaxSeq s) name refl)
  happens_leaves session (TakeLedger z member None version ledger) a f p x = nothing (x.others.same (MaxSeq s) name refl)
  happens_leaves session (TakeLedger z member (Some old) version ledger) a f p x = nothing (x.others.same (MaxSeq s) name refl)
  happens_leaves session (StartSegment b) a f p x =
      by_name s b.stream (λ e. starts b (sym e) f p x) (λ e. nothing (x.others.same (MaxSeq s) name (ap (λ (y : Bool). not y && true) e)))
  happens_leaves session (GetSegment z segment) a f p x = unread x.same
  happens_leaves session (GetLedger ledger) a f p x = unread x.same
  happens_leaves session (MarkLedger ledger q version) a f p x = nothing (x.others.same (MaxSeq s) name refl)
  happens_leaves session (CloseLedger ledger q count version) a f p x = nothing (x.others.same (MaxSeq s) name refl)
  happens_leaves session (CompleteSegment c) a f p x =
      by_name s c.stream (λ e. completes c (sym e) f p x) (λ e. nothing (x.others.same (MaxSeq s) name (ap (λ (y : Bool). not y && true) e)))
  happens_leaves session (ListCut z) a f p x = unread x.same
  happens_leaves session (LookCut z) a f p x = unread x.same
  happens_leaves session (SetCut z point version) a f p x = nothing (x.others.same (MaxSeq s) name refl)
  happens_leaves session (DropSegment z segment ledger) a f p x = nothing (x.others.same (MaxSeq s) name refl)

  no_conf : MaxSeq s ≢ Conf
  no_conf e = cc

  no_streams : MaxSeq s ≢ Streams
  no_streams e = cc

  no_ledgers : MaxSeq s ≢ Ledgers
  no_ledgers e = cc

  pub happens : Step Supposes t u → Happens t u s
  happens (begins c none first) = nothing (first.others (MaxSeq s) name no_conf no_streams no_ledgers ∙ sym (none (MaxSeq s)))
  happens (rests same) = nothing (same (MaxSeq s) name (λ m. m))
  happens (asks session r a f p x) = happens_leaves session r a f p x

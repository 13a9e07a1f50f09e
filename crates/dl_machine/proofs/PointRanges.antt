-- The point that a request sets, where it sets one, is a place of a stream.
use Rattle.std.proofs.Common.{◌≡◌, ℕ, List, [], ◌∷◌, ◌++◌, drop, Option, Some, None, Result, Ok, Err, refl, sym, ap, ◌∙◌, subst, arith}
use Rattle.std.proofs.Common.{slice_index}
use Rattle.std.proofs.lemmas.List.{append_cancel_right}
use Rattle.std.specs.Prelude.{codes}
use Rattle.std.specs.List.{AllByRecursion}
use Rattle.dl_types.specs.declared.dlsn.Dlsn.{Dlsn}
use Rattle.dl_types.specs.declared.one_op.OneOp.{OneOp}
use Rattle.dl_text.specs.NameFields.{IsName}
use Rattle.dl_text.specs.PlaceFields.{IsPlaceFrom}
use Rattle.dl_formats.specs.declared.cut.Cut.{Cut}
use Rattle.dl_formats.specs.declared.fault.MetaBytesFault.{MetaBytesFault}
use Rattle.dl_formats.specs.Keys as key
use Rattle.dl_formats.specs.Keys.{path_of}
use Rattle.dl_formats.specs.Reading.{cut_at}
use Rattle.dl_formats.proofs.DecodeLemmas.{node_again}
use Rattle.dl_formats.proofs.Exactness.{cut_exact}
use Rattle.dl_rules_stream.specs.Requests.{Request, MakeStream, MakeAgain, RemoveStream, MakeMember, ListMembers, LeaveLock, Look, MakeLedger, TakeLedger}
use Rattle.dl_rules_stream.specs.Requests.{StartSegment, GetSegment, GetLedger, MarkLedger, CloseLedger, CompleteSegment, ListCut, LookCut, SetCut, DropSegment}
use Rattle.dl_rules_stream.specs.Requests.{op_of, cut_node, drops_old, checks_member}
use Rattle.dl_transcript.specs.Ranges.{IsEvent}
use Rattle.dl_rules_client.specs.EventRanges.{RequestFits}
use Rattle.dl_rules_client.proofs.RangeLists.{AllOk, AllSome, all-append}
use Rattle.dl_machine.specs.Growth.{stream_in, point_events, points_by, ops_of}
use Rattle.dl_machine.proofs.StreamNames.{stream_such}

-- the points that an operation sets fit
abbrev pub PointsFit : OneOp → Type 0
PointsFit x = AllByRecursion IsEvent (points_by x)

-- a stream, and the place that is its point
abbrev IsPoint : Result Cut MetaBytesFault → List ℕ → Type 0
IsPoint cut stream = IsName stream × AllOk cut (λ c. IsPlaceFrom 0 c.point)

-- the point of a stream
point_fits : (stream : Option (List ℕ)) (cut : Result Cut MetaBytesFault) → AllSome (IsPoint cut) stream → AllByRecursion IsEvent (point_events stream cut)
point_fits None cut is = tt
point_fits (Some stream) (Err fault) is = tt
point_fits (Some stream) (Ok cut) is = (is, tt)

-- the points of a set
set_fits : (path bytes : List ℕ) → ((stream : List ℕ) → path_of (key.Cut stream) ≡ path → IsPoint (cut_at bytes) stream)
    → AllByRecursion IsEvent (point_events (stream_in key.Cut path) (cut_at bytes))
set_fits path bytes h =
    point_fits (stream_in key.Cut path) (cut_at bytes) (stream_such key.Cut (IsPoint (cut_at bytes)) path (λ stream apart e. h stream e))

-- ---- other nodes

-- the last of these bytes, or 0
abbrev last_byte : List ℕ → ℕ
last_byte [] = 0
last_byte (b ∷ []) = b
last_byte (b ∷ c ∷ bytes) = last_byte (c ∷ bytes)

-- the last of bytes behind others
last_behind : (xs : List ℕ) (y : ℕ) (ys : List ℕ) → last_byte (xs ++ y ∷ ys) ≡ last_byte (y ∷ ys)
last_behind [] y ys = refl
last_behind (x ∷ []) y ys = refl
last_behind (x ∷ z ∷ xs) y ys = last_behind (z ∷ xs) y ys

-- the path of a point is that of no node with another last byte
other_end : (stream s : List ℕ) (y : ℕ) (ys : List ℕ) → stream ++ 47 ∷ codes "cut" ≡ s ++ y ∷ ys → 116 ≡ last_byte (y ∷ ys)
other_end stream s y ys e = sym (last_behind stream 47 (codes "cut")) ∙ ap last_byte e ∙ last_behind s y ys

-- a set of `maxseq` sets no point
maxseq_none : (s bytes : List ℕ) → AllByRecursion IsEvent (point_events (stream_in key.Cut (path_of (key.MaxSeq s))) (cut_at bytes))
unfolding path_of
maxseq_none s bytes = set_fits (path_of (key.MaxSeq s)) bytes
    (λ stream e. let bad : 116 ≡ 113 = other_end stream s 47 (codes "maxseq") (ap (drop 9) e) in absurd (omega (arith, bad)))

-- nor does one of `alloc`
alloc_none : (s bytes : List ℕ) → AllByRecursion IsEvent (point_events (stream_in key.Cut (path_of (key.Alloc s))) (cut_at bytes))
unfolding path_of
alloc_none s bytes = set_fits (path_of (key.Alloc s)) bytes
    (λ stream e. let bad : 116 ≡ 99 = other_end stream s 47 (codes "alloc") (ap (drop 9) e) in absurd (omega (arith, bad)))

-- nor does one of a ledger's node
ledger_none : (n : ℕ) (bytes : List ℕ) → AllByRecursion IsEvent (point_events (stream_in key.Cut (path_of (key.Ledger n))) (cut_at bytes))
unfolding path_of
ledger_none n bytes = set_fits (path_of (key.Ledger n)) bytes
    (λ stream e. let bad : 115 ≡ 108 = ap (λ path. slice_index path 1) e in absurd (omega (arith, bad)))

-- ---- points

-- the bytes of a point are read as that point
cut_again : (d : Dlsn) → IsPlaceFrom 1 d → cut_at (cut_node d) ≡ Ok (record { point = d })
cut_again d is = node_again cut_exact (cut_node d) (record { point = d })
    (record { least = is.0.0; most = is.0.1 }, (omega (arith, is.1.0.1), omega (arith, is.1.1.1))) refl

-- a set of a stream's point
cut_fits : (s : List ℕ) (d : Dlsn) → IsName s → IsPlaceFrom 1 d
    → AllByRecursion IsEvent (point_events (stream_in key.Cut (path_of (key.Cut s))) (cut_at (cut_node d)))
unfolding path_of
cut_fits s d name is = set_fits (path_of (key.Cut s)) (cut_node d) (λ stream e.
    let same : stream ≡ s = append_cancel_right stream s (47 ∷ codes "cut") (ap (drop 9) e) in
    let place : IsPlaceFrom 0 d = ((omega arith, is.0.1), is.1) in
    (subst IsName (sym same) name, subst (λ (r : Result Cut MetaBytesFault). AllOk r (λ c. IsPlaceFrom 0 c.point)) (sym (cut_again d is)) place))

-- ---- requests

-- operations that drop a ledger
drops_none : (old : Option ℕ) → AllByRecursion PointsFit (drops_old old)
drops_none None = tt
drops_none (Some ledger) = (tt, tt)

-- operations that check a member
checks_none : (member : Option (List ℕ)) → AllByRecursion PointsFit (checks_member member)
checks_none None = tt
checks_none (Some member) = (tt, tt)

-- the points that a request sets
pub request_points : (r : Request) → RequestFits r → AllByRecursion PointsFit (ops_of (op_of r))
unfolding op_of
request_points (MakeStream s) is = (tt, (tt, (tt, (tt, (tt, (tt, tt))))))
request_points (MakeAgain s) is = (tt, (tt, tt))
request_points (RemoveStream s) is = (tt, (tt, tt))
request_points (MakeMember s) is = (tt, tt)
request_points (ListMembers s) is = (tt, tt)
request_points (LeaveLock member) is = (tt, tt)
request_points (Look s) is = (tt, (tt, (tt, tt)))
request_points (MakeLedger q) is = (tt, tt)
request_points (TakeLedger s member old version ledger) is = (tt, all-append PointsFit (drops_old old) _ (drops_none old) (alloc_none s _, tt))
request_points (StartSegment b) is = (tt, (maxseq_none b.stream _, (tt, (tt, (alloc_none b.stream _, tt)))))
request_points (GetSegment s segment) is = (tt, tt)
request_points (GetLedger ledger) is = (tt, tt)
request_points (MarkLedger ledger q version) is = (ledger_none ledger _, tt)
request_points (CloseLedger ledger q count version) is = (ledger_none ledger _, tt)
request_points (CompleteSegment c) is =
    all-append PointsFit (checks_member c.member) _ (checks_none c.member) (tt, (tt, (maxseq_none c.stream _, tt)))
request_points (ListCut s) is = (tt, (tt, tt))
request_points (LookCut s) is = (tt, (tt, (tt, tt)))
request_points (SetCut s point version) is = (cut_fits s point is.0 is.1, tt)
request_points (DropSegment s segment ledger) is = (tt, (tt, tt))
